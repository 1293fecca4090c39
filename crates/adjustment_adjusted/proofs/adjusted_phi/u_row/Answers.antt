-- `adjustment_adjusted::adjusted_phi::u_row` meets its contract.
use Prim.Native.Nat.{◌+◌, ◌≤◌, ◌-◌}
use mathlib.Core.Path.{◌≡◌}
use Rattle.algebra.proofs.FoldLaws.{fold_start, fold_next, fold_end}
use Rattle.algebra.specs.Fold.{fold}
use Rattle.algebra.specs.Kind.{floats}
use Rattle.algebra.specs.Product.{plus_cells}
use Rattle.adjustment.specs.Adjusted.{u_term_at}
use Rattle.adjustment.proofs.AdjustedLaws.{plus-is}
use native.Mathlib.Omega.{arith}
use Rattle.adjustment_adjusted.proofs.adjusted_phi.u_row.Goals as goal

pub loop-s-init : goal.loop-s-init
loop-s-init c = (omega arith, omega arith, fold_start _ _ _)

pub loop-s-preserved : goal.loop-s-preserved
unfolding u_term_at
loop-s-preserved c = (omega arith, omega arith, fold_next _ _ _ _ _ _ (omega arith) c.loop-s.invariant.2 (plus-is _ _ _ _ _ c.u_term_at-term.ensures c.plus_cells-next.ensures))

pub returns : goal.returns
returns c = fold_end _ _ _ _ _ _ c.loop-s.invariant.1 c.loop-s-test.false c.loop-s.invariant.2
