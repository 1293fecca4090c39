-- `algebra_rotation::turn_columns` meets its contract.
use Rattle.algebra.specs.Jacobi.{turn_columns}
use Rattle.algebra.proofs.FoldLaws.{fold_start, fold_next, fold_end}
use native.Mathlib.Omega.{arith}
use Rattle.algebra_rotation.proofs.turn_columns.Goals as goal

pub loop-i-init : goal.loop-i-init
unfolding turn_columns
loop-i-init g c = (omega arith, fold_start _ _ _)

pub loop-i-preserved : goal.loop-i-preserved
unfolding turn_columns
loop-i-preserved g c = (omega arith, fold_next _ _ _ _ _ _ (omega arith) c.loop-i.invariant.1 (rw c.turn_row.ensures))

pub returns : goal.returns
unfolding turn_columns
returns g c = fold_end _ _ _ _ _ _ c.loop-i.invariant.0 c.loop-i-test.false c.loop-i.invariant.1
