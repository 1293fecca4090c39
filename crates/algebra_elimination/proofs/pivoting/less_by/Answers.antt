-- `algebra_elimination::pivoting::less_by` meets its contract.
use native.Mathlib.Omega.{arith}
use Rattle.algebra.specs.Elimination.{less_by}
use Rattle.algebra.proofs.FoldLaws.{fold_start, fold_next, fold_end}
use Rattle.std.proofs.Common.{rules}
use Rattle.std.proofs.lemmas.Grind.{common_steps}
use Rattle.algebra_elimination.proofs.pivoting.less_by.Goals as goal

pub loop-j-init : goal.loop-j-init
unfolding less_by
loop-j-init g c = (omega arith, omega arith, fold_start _ _ _)

pub loop-j-preserved : goal.loop-j-preserved
unfolding less_by
loop-j-preserved g c = (omega arith, omega arith, fold_next _ _ _ _ _ _ (omega arith) c.loop-j.invariant.2 (search (rules, common_steps)))

pub returns : goal.returns
unfolding less_by
returns g c = fold_end _ _ _ _ _ _ c.loop-j.invariant.1 c.loop-j-test.false c.loop-j.invariant.2
