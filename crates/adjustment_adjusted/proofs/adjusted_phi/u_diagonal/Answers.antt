-- `adjustment_adjusted::adjusted_phi::u_diagonal` meets its contract.
use Prim.Native.Nat.{◌≤◌, ◌-◌}
use mathlib.Core.Path.{◌≡◌}
use Rattle.algebra.proofs.FoldLaws.{fold_start, fold_next, fold_end}
use Rattle.algebra.specs.Fold.{fold}
use Rattle.algebra.specs.Kind.{floats}
use Rattle.algebra.specs.Product.{plus_cells}
use Rattle.adjustment.specs.Adjusted.{u_term_at}
use Rattle.adjustment.proofs.AdjustedLaws.{plus-is}
use native.Mathlib.Omega.{arith}
use Rattle.adjustment_adjusted.proofs.adjusted_phi.u_diagonal.Goals as goal

pub loop-r-init : goal.loop-r-init
loop-r-init c = (omega arith, fold_start _ _ _)

pub loop-r-preserved : goal.loop-r-preserved
unfolding u_term_at
loop-r-preserved c = (omega arith, fold_next _ _ _ _ _ _ (omega arith) c.loop-r.invariant.1 (plus-is _ _ _ _ _ c.u_term_at-term.ensures c.plus_cells-next.ensures))

pub returns : goal.returns
returns c = fold_end _ _ _ _ _ _ c.loop-r.invariant.0 c.loop-r-test.false c.loop-r.invariant.1
