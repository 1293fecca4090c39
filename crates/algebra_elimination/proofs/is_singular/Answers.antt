-- `algebra_elimination::is_singular` meets its contract.
use native.Mathlib.Omega.{arith}
use Rattle.algebra.proofs.FoldLaws.{fold_start, fold_next, fold_end}
use Rattle.algebra_elimination.specs.joints.Parts.{singular}
use Rattle.std.proofs.Common.{rules}
use Rattle.std.proofs.lemmas.Grind.{common_steps}
use Rattle.algebra_elimination.proofs.is_singular.Goals as goal

pub loop-c-init : goal.loop-c-init
unfolding singular
loop-c-init g c = (omega arith, fold_start _ _ _)

pub loop-c-preserved : goal.loop-c-preserved
unfolding singular
loop-c-preserved g c = (omega arith, fold_next _ _ _ _ _ _ (omega arith) c.loop-c.invariant.1 (search (rules, common_steps)))

pub returns : goal.returns
unfolding singular
returns g c = fold_end _ _ _ _ _ _ c.loop-c.invariant.0 c.loop-c-test.false c.loop-c.invariant.1
