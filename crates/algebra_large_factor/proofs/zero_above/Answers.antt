-- `algebra_large_factor::zero_above` meets its contract.
use Prim.Native.Nat.{◌≤◌, ◌-◌}
use mathlib.Core.Path.{◌≡◌, refl, ◌∙◌}
use lib.ListN.{length}
use Rattle.algebra.specs.Kind.{floats}
use Rattle.algebra.specs.Cholesky.{lower}
use Rattle.algebra.proofs.FoldLaws.{fold_start, fold_end}
use Rattle.algebra_large.specs.joints.Slab.{rows_at, put_rows}
use Rattle.algebra_large_factor.proofs.FactorLaws.{lower-more}
use native.Mathlib.Omega.{arith}
use Rattle.algebra_large_factor.proofs.zero_above.Goals as goal

pub loop-i-init : goal.loop-i-init
unfolding put_rows
loop-i-init c = (omega arith, refl, fold_start _ _ _)

pub loop-i-preserved : goal.loop-i-preserved
loop-i-preserved c =
    let v = c.loop-i.invariant in
    let h = c.loop-i-test.true in (
      omega arith,
      c.clear_row.auto.work ∙ v.1,
      lower-more _ _ _ _ _ _ _ _ _ _ c.requires h c.start-p.ensures.0 (omega arith) (omega arith) v.2 c.clear_row.ensures,
    )

pub shape_of-work : goal.shape_of-work
shape_of-work c = c.loop-i.invariant.1

pub returns : goal.returns
unfolding put_rows
returns c = fold_end _ _ _ _ _ _ c.loop-i.invariant.0 c.loop-i-test.false c.loop-i.invariant.2
