-- `adjustment_adjusted::adjusted_phi::u_above` meets its contract.
use Prim.Native.Nat.{◌≤◌, ◌-◌}
use mathlib.Core.Path.{◌≡◌, ◌∙◌}
use Rattle.algebra.proofs.FoldLaws.{fold_start, fold_next, fold_end}
use Rattle.adjustment.specs.Adjusted.{u_above}
use borrow.Author.Rules.{rules}
use native.Mathlib.Omega.{arith}
use Rattle.adjustment_adjusted.proofs.adjusted_phi.u_above.Goals as goal

pub loop-r-init : goal.loop-r-init
unfolding u_above
loop-r-init c = (omega arith, c.zeros-out.ensures ∙ fold_start _ _ _)

pub loop-r-preserved : goal.loop-r-preserved
unfolding u_above
loop-r-preserved c = (omega arith, fold_next _ _ _ _ _ _ (omega arith) c.loop-r.invariant.1 c.u_row-next.ensures)

pub returns : goal.returns
unfolding u_above
returns c = fold_end _ _ _ _ _ _ c.loop-r.invariant.0 c.loop-r-test.false c.loop-r.invariant.1
