-- `algebra_elimination::pivoting::eliminate` meets its contract.
use native.Mathlib.Omega.{arith}
use Rattle.algebra.specs.Elimination.{eliminate_to}
use Rattle.algebra.proofs.FoldLaws.{fold_start, fold_next, fold_end}
use Rattle.algebra_elimination.proofs.pivoting.eliminate.Goals as goal

pub loop-c-init : goal.loop-c-init
unfolding eliminate_to
loop-c-init g c = (omega arith, fold_start _ _ _)

pub loop-c-preserved : goal.loop-c-preserved
unfolding eliminate_to
loop-c-preserved g c = (omega arith, fold_next _ _ _ _ _ _ (omega arith) c.loop-c.invariant.1 c.eliminate_column-next.ensures)

pub returns : goal.returns
unfolding eliminate_to
returns g c = fold_end _ _ _ _ _ _ c.loop-c.invariant.0 c.loop-c-test.false c.loop-c.invariant.1
