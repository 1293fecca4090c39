-- `tests::both::stack_seen` meets its contract.
use Rattle.algebra.proofs.FoldLaws.{fold_start, fold_next, fold_end}
use Rattle.tests.specs.Both.{stack_seen}
use native.Mathlib.Omega.{arith}
use Rattle.tests.proofs.both.stack_seen.Goals as goal

pub loop-i-init : goal.loop-i-init
unfolding stack_seen
loop-i-init c = (omega arith, fold_start _ _ _)

pub loop-i-preserved : goal.loop-i-preserved
unfolding stack_seen
loop-i-preserved c = (omega arith, fold_next _ _ _ _ _ _ (omega arith) c.loop-i.invariant.1 c.all_marks-all.ensures)

pub returns : goal.returns
unfolding stack_seen
returns c = fold_end _ _ _ _ _ _ c.loop-i.invariant.0 c.loop-i-test.false c.loop-i.invariant.1
