-- `algebra_elimination::pivoting::pivot_row` meets its contract.
use native.Mathlib.Omega.{arith}
use Rattle.algebra.specs.Elimination.{larger, pivot_row}
use Rattle.algebra.proofs.FoldLaws.{fold_start, fold_next, fold_end}
use Rattle.algebra_elimination.proofs.pivoting.Steps.{pivot-below}
use Rattle.std.proofs.Common.{rules}
use Rattle.std.proofs.lemmas.Grind.{common_steps}
use Rattle.algebra_elimination.proofs.pivoting.pivot_row.Goals as goal

pub loop-r-init : goal.loop-r-init
unfolding pivot_row
loop-r-init g c = (omega arith, omega arith, fold_start _ _ _)

pub offset_bounds-m-best : goal.offset_bounds-m-best
offset_bounds-m-best g c = grind (arith, pivot-below g.T.Scalar.arith _ _ _ _ c.loop-r.invariant.2 (omega arith))

pub bounds-m-best : goal.bounds-m-best
bounds-m-best g c = grind (arith, pivot-below g.T.Scalar.arith _ _ _ _ c.loop-r.invariant.2 (omega arith))

pub loop-r-preserved : goal.loop-r-preserved
unfolding pivot_row larger
loop-r-preserved g c =
    let v = c.loop-r.invariant in
    let below = pivot-below g.T.Scalar.arith _ _ _ _ v.2 (omega arith) in
    (omega arith, omega arith, fold_next _ _ _ _ _ _ (omega arith) v.2 (search (rules, common_steps)))

pub returns : goal.returns
unfolding pivot_row
returns g c = fold_end _ _ _ _ _ _ c.loop-r.invariant.1 c.loop-r-test.false c.loop-r.invariant.2
