-- `algebra_large_products::narrow::times_narrow` meets its contract.
use Prim.Native.Nat.{◌≤◌, ◌-◌}
use mathlib.Core.Path.{◌≡◌, refl, ◌∙◌}
use lib.ListN.{length}
use Rattle.algebra.proofs.FoldLaws.{fold_start, fold_end}
use Rattle.algebra_large.specs.joints.Slab.{put_rows, rows_at}
use Rattle.algebra_large.specs.joints.Steps.{gained_to}
use Rattle.algebra_large.proofs.SlabLaws.{fill_more}
use Rattle.arithmetic.specs.Numbers.{plus_zero}
use Rattle.algebra.specs.Kind.{floats}
use Rattle.algebra.specs.Product.{product}
use Rattle.algebra_large_products.proofs.NarrowLaws.{narrow-row}
use native.Mathlib.Omega.{arith}
use Rattle.algebra_large_products.proofs.narrow.times_narrow.Goals as goal

pub loop-i-init : goal.loop-i-init
unfolding put_rows
loop-i-init c = (omega arith, refl, fold_start _ _ _)

pub loop-i-preserved : goal.loop-i-preserved
loop-i-preserved c =
    let v = c.loop-i.invariant in (
      omega arith,
      c.narrow_row.auto.out ∙ v.1,
      fill_more _ _ _ _ _ _ (gained_to c.args.n c.args.work.now c.start-b.result 1 0 c.args.x.now c.args.q c.args.u plus_zero) _ _ _
          c.start-a.ensures.0 v.2 c.narrow_row.ensures
          (λ j l. narrow-row _ _ _ _ _ _ _ _ _ _ _ c.loop-i-test.true c.start-b.ensures.0 j l),
    )

pub shape_of-out : goal.shape_of-out
shape_of-out c = c.loop-i.invariant.1

pub returns : goal.returns
unfolding put_rows
returns c = fold_end _ _ _ _ _ _ c.loop-i.invariant.0 c.loop-i-test.false c.loop-i.invariant.2
