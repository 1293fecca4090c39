-- `algebra_large_inverse::solve::find_pivot` meets its contract.
use Prim.Native.Nat.{◌≤◌, ◌<◌, ◌-◌, ◌+◌}
use mathlib.Core.Path.{◌≡◌}
use Rattle.algebra.specs.Kind.{floats}
use Rattle.algebra.specs.Elimination.{pivot_row}
use Rattle.algebra.proofs.FoldLaws.{fold_start, fold_next, fold_end}
use Rattle.algebra_large.specs.joints.Slab.{rows_at}
use native.Mathlib.Omega.{arith}
use Rattle.algebra_large_inverse.proofs.solve.find_pivot.Goals as goal

pub loop-r-init : goal.loop-r-init
unfolding pivot_row
loop-r-init c = (omega arith, omega arith, omega arith, fold_start _ _ _)

pub loop-r-preserved : goal.loop-r-preserved
unfolding pivot_row
loop-r-preserved c =
    let v = c.loop-r.invariant in
    let e = c.larger_row-best.ensures in
    (omega arith, omega arith, e.1, fold_next _ _ _ _ _ _ v.0 v.3 e.0)

pub returns : goal.returns
unfolding pivot_row
returns c =
    let v = c.loop-r.invariant in
    (fold_end _ _ _ _ _ _ v.1 c.loop-r-test.false v.3, v.2)
