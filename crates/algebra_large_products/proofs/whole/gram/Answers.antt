-- `algebra_large_products::whole::gram` meets its contract.
use Prim.Native.Nat.{◌≤◌, ◌-◌}
use mathlib.Core.Path.{◌≡◌, refl, ◌∙◌}
use lib.ListN.{length}
use Rattle.algebra.proofs.FoldLaws.{fold_start, fold_end}
use Rattle.algebra_large.specs.joints.Slab.{put_rows, rows_at, gram_of}
use Rattle.algebra_large.specs.joints.Steps.{gained_to}
use Rattle.algebra_large.proofs.SlabLaws.{fill_more}
use Rattle.arithmetic.specs.Numbers.{plus_zero}
use Rattle.algebra_large.proofs.ProductLaws.{row-apart-whole, gram-row}
use native.Mathlib.Omega.{arith}
use Rattle.algebra_large_products.proofs.whole.gram.Goals as goal

pub loop-i-init : goal.loop-i-init
unfolding put_rows
loop-i-init c = (omega arith, refl, fold_start _ _ _)

pub product_row-requires : goal.product_row-requires
product_row-requires c =
    let g = c.requires in
    let h = c.loop-i-test.true in
    let a = row-apart-whole _ _ g.2 _ _ _ h g.0.wide c.start-a.ensures.0 in
    record { c_in_bounds = (omega arith, record { wide = omega (arith, g.1.wide); fits = omega (arith, g.1.fits) }, record { wide = g.1.wide; fits = omega (arith, g.1.fits) }); apart = (a, a) }

pub loop-i-preserved : goal.loop-i-preserved
loop-i-preserved c =
    let v = c.loop-i.invariant in
    let g = c.requires in (
      omega arith,
      c.product_row.auto.work ∙ v.1,
      fill_more _ _ _ _ _ _ (gained_to c.args.n c.loop-i.work c.args.p c.args.t c.loop-i.i c.loop-i.work c.args.p c.args.t plus_zero) _ _ _
          c.start-a.ensures.0 v.2 c.product_row.ensures
          (λ j l. gram-row _ _ _ _ _ _ _ _ _ _ g.2 g.0.wide g.1.wide c.loop-i-test.true v.2 j l),
    )

pub shape_of-work : goal.shape_of-work
shape_of-work c = c.loop-i.invariant.1

pub returns : goal.returns
unfolding put_rows
returns c = fold_end _ _ _ _ _ _ c.loop-i.invariant.0 c.loop-i-test.false c.loop-i.invariant.2
