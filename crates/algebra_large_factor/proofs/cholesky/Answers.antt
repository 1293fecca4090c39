-- `algebra_large_factor::cholesky` meets its contract.
use Prim.Native.Nat.{◌≤◌, ◌-◌}
use mathlib.Core.Path.{◌≡◌, refl, ◌∙◌}
use lib.ListN.{length}
use Rattle.algebra.specs.Kind.{floats}
use Rattle.algebra.specs.Cholesky.{cholesky_to, cholesky_refused}
use Rattle.algebra.proofs.FoldLaws.{fold_start, fold_end}
use Rattle.algebra_large.specs.joints.Slab.{rows_at, put_rows}
use Rattle.algebra_large.proofs.SlabLaws.{shape-rows_at}
use Rattle.algebra_large.proofs.InPlace.{turn-none, turn_end}
use Rattle.algebra_large_factor.proofs.FactorLaws.{column-more, refused-more}
use native.Mathlib.Omega.{arith}
use Rattle.algebra_large_factor.proofs.cholesky.Goals as goal

pub loop-j-init : goal.loop-j-init
unfolding cholesky_to cholesky_refused
loop-j-init c = (omega arith, refl, turn-none _ _ _ _ _ _ _ c.requires, fold_start _ _ _)

pub loop-j-preserved : goal.loop-j-preserved
loop-j-preserved c =
    let v = c.loop-j.invariant in
    let h = c.loop-j-test.true in
    let q = shape-rows_at _ _ _ _ _ in
    (omega arith, c.column-not_positive.auto.work ∙ v.1, column-more _ _ _ _ _ _ _ _ c.requires q h v.2 c.column-not_positive.ensures.work_after, refused-more _ _ _ _ _ _ _ _ _ c.requires q h v.2 v.3 c.column-not_positive.ensures.value)

pub shape_of-work : goal.shape_of-work
shape_of-work c = c.loop-j.invariant.1

pub returns : goal.returns
unfolding cholesky_to cholesky_refused
returns c =
    let v = c.loop-j.invariant in
    record { work_after = turn_end _ _ _ _ _ _ _ _ _ _ _ v.0 c.loop-j-test.false v.2; value = fold_end _ _ _ _ _ _ v.0 c.loop-j-test.false v.3 }
