-- `algebra_large_products::whole::product` meets its contract.
use Prim.Native.Nat.{◌≤◌, ◌-◌}
use mathlib.Core.Path.{◌≡◌, refl, ◌∙◌}
use lib.ListN.{length}
use Rattle.algebra.proofs.FoldLaws.{fold_start, fold_end}
use Rattle.algebra_large.specs.joints.Slab.{put_rows, rows_at}
use Rattle.algebra_large.specs.joints.Steps.{gained_to}
use Rattle.algebra_large.proofs.SlabLaws.{fill_more, rows-apart-at}
use Rattle.arithmetic.specs.Numbers.{plus_zero}
use Rattle.algebra.specs.Kind.{floats}
use Rattle.algebra.specs.Product.{product}
use Rattle.algebra_large.proofs.ProductLaws.{row-apart-one, row-holds, row-apart-whole, product-row}
use native.Mathlib.Omega.{arith}
use Rattle.algebra_large_products.proofs.whole.product.Goals as goal

pub loop-i-init : goal.loop-i-init
unfolding put_rows
loop-i-init c = (omega arith, refl, fold_start _ _ _)

pub product_row-requires : goal.product_row-requires
product_row-requires c =
    let g = c.requires in record {
      c_in_bounds = (omega arith, row-holds (omega arith), record { wide = g.holds.2.wide; fits = omega (arith, g.holds.2.fits) });
      apart = (
        row-apart-one (rows-apart-at _ _ _ _ g.apart.0 _ _ _ _ _ _ c.loop-i-test.true c.loop-i-test.true g.holds.0.wide g.holds.1.wide c.start-a.ensures.0 c.start-b.ensures.0),
        row-apart-whole _ _ g.apart.1 _ _ _ c.loop-i-test.true g.holds.0.wide c.start-a.ensures.0,
      );
    }

pub loop-i-preserved : goal.loop-i-preserved
loop-i-preserved c =
    let v = c.loop-i.invariant in
    let g = c.requires in (
      omega arith,
      c.product_row.auto.work ∙ v.1,
      fill_more _ _ _ _ _ _ (gained_to c.args.n c.loop-i.work c.start-b.result 1 0 c.loop-i.work c.args.q c.args.u plus_zero) _ _ _
          c.start-a.ensures.0 v.2 c.product_row.ensures
          (λ j l. product-row _ _ _ _ _ _ _ _ _ _ _ _ _ _ g.apart.0 g.apart.1 g.holds.0.wide g.holds.1.wide g.holds.2.wide c.loop-i-test.true c.start-b.ensures.0 v.2 j l),
    )

pub shape_of-work : goal.shape_of-work
shape_of-work c = c.loop-i.invariant.1

pub returns : goal.returns
unfolding put_rows
returns c = fold_end _ _ _ _ _ _ c.loop-i.invariant.0 c.loop-i-test.false c.loop-i.invariant.2
