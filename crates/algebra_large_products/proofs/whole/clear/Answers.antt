-- `algebra_large_products::whole::clear` meets its contract.
use Prim.Native.Nat.{◌≤◌, ◌-◌}
use mathlib.Core.Path.{◌≡◌, refl, ◌∙◌}
use lib.ListN.{length}
use Rattle.algebra.proofs.FoldLaws.{fold_start, fold_end}
use Rattle.algebra_large.specs.joints.Slab.{put_rows}
use Rattle.algebra_large.proofs.SlabLaws.{fill_more}
use Rattle.arithmetic.specs.Numbers.{plus_zero}
use Rattle.algebra.specs.Table.{blank}
use Rattle.algebra_large.proofs.ProductLaws.{blank-at}
use native.Mathlib.Omega.{arith}
use Rattle.algebra_large_products.proofs.whole.clear.Goals as goal

pub loop-i-init : goal.loop-i-init
unfolding put_rows
loop-i-init c = (omega arith, refl, fold_start _ _ _)

pub loop-i-preserved : goal.loop-i-preserved
loop-i-preserved c =
    let v = c.loop-i.invariant in (
      omega arith,
      c.clear_row.auto.work ∙ v.1,
      fill_more _ _ _ _ _ (blank plus_zero c.args.r c.args.c) (λ j. plus_zero) _ _ _ c.start-a.ensures.0 v.2 c.clear_row.ensures
          (λ j l. blank-at plus_zero _ _ _ j c.loop-i-test.true l),
    )

pub shape_of-work : goal.shape_of-work
shape_of-work c = c.loop-i.invariant.1

pub returns : goal.returns
unfolding put_rows
returns c = fold_end _ _ _ _ _ _ c.loop-i.invariant.0 c.loop-i-test.false c.loop-i.invariant.2
