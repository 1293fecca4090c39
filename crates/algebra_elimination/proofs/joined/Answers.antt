-- `algebra_elimination::joined` meets its contract.
use native.Mathlib.Omega.{arith}
use Rattle.algebra.specs.Table.{table, blank}
use Rattle.algebra.specs.Elimination.{joined}
use Rattle.algebra.proofs.FoldLaws.{fold_start, fold_next, fold_end}
use lib.Ieee.{of_bits}
use Rattle.algebra_elimination.proofs.joined.Goals as goal

pub loop-i-init : goal.loop-i-init
unfolding table blank of_bits
loop-i-init g c = (omega arith, rw c.of.ensures (fold_start _ _ _))

pub loop-i-preserved : goal.loop-i-preserved
unfolding table
loop-i-preserved g c = (omega arith, fold_next _ _ _ _ _ _ (omega arith) c.loop-i.invariant.1 (rw c.joined_row.ensures))

pub returns : goal.returns
unfolding table joined
returns g c = fold_end _ _ _ _ _ _ c.loop-i.invariant.0 c.loop-i-test.false c.loop-i.invariant.1
