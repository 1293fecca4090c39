-- `algebra_elimination::back_substitution::back` meets its contract.
use native.Mathlib.Omega.{arith}
use Rattle.algebra.specs.Table.{blank}
use Rattle.algebra.specs.Elimination.{back_sum, back_cell, back_to}
use Rattle.algebra.proofs.FoldLaws.{fold_start, fold_next, fold_end}
use Rattle.algebra_elimination.specs.joints.BackSubstitution.{less_known, known_cell}
use lib.Ieee.{of_bits}
use Rattle.algebra_elimination.proofs.back_substitution.back.Goals as goal

pub loop-d-init : goal.loop-d-init
unfolding back_to blank of_bits
loop-d-init g c = (omega arith, rw c.of.ensures (fold_start _ _ _))

pub loop-d-preserved : goal.loop-d-preserved
unfolding back_to back_cell back_sum known_cell less_known
loop-d-preserved g c = (omega arith, fold_next _ _ _ _ _ _ (omega arith) c.loop-d.invariant.1 (rw c.back_row.ensures))

pub returns : goal.returns
unfolding back_to
returns g c = fold_end _ _ _ _ _ _ c.loop-d.invariant.0 c.loop-d-test.false c.loop-d.invariant.1
