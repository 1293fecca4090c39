-- `algebra_elimination::pivoting::clear` meets its contract.
use native.Mathlib.Omega.{arith}
use Rattle.algebra.specs.Elimination.{cleared}
use Rattle.algebra.proofs.FoldLaws.{fold_start, fold_next, fold_end}
use Rattle.algebra_elimination.proofs.pivoting.Steps.{less_row-is}
use Rattle.algebra_elimination.proofs.pivoting.clear.Goals as goal

pub loop-r-init : goal.loop-r-init
unfolding cleared
loop-r-init g c = (omega arith, omega arith, fold_start _ _ _)

pub loop-r-preserved : goal.loop-r-preserved
unfolding cleared
loop-r-preserved g c =
    let v = c.loop-r.invariant in
    let e = less_row-is g.T.Scalar.arith _ _ _ _ _ _ c.factor-f.ensures c.less_by.ensures in
    (omega arith, omega arith, fold_next _ _ _ _ _ _ (omega arith) v.2 (rw e))

pub returns : goal.returns
unfolding cleared
returns g c = fold_end _ _ _ _ _ _ c.loop-r.invariant.1 c.loop-r-test.false c.loop-r.invariant.2
