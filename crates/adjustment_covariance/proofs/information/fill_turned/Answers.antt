-- `adjustment_covariance::information::fill_turned` meets its contract.
use Prim.Native.Nat.{◌≤◌, ◌-◌, ◌+◌, ◌*◌}
use mathlib.Core.Path.{◌≡◌, refl, ◌∙◌}
use lib.ListN.{length, get_or}
use lib.Ieee.{nan}
use Rattle.arithmetic.specs.Numbers.{plus_zero}
use Rattle.algebra.specs.Kind.{floats}
use Rattle.algebra.specs.Product.{product, transpose}
use Rattle.algebra.proofs.FoldLaws.{fold_start, fold_end}
use Rattle.algebra_large.specs.joints.Slab.{rows_at, put_rows}
use Rattle.algebra_large.proofs.SlabLaws.{fill_more}
use Rattle.algebra_large.proofs.ProductLaws.{row-apart-whole}
use Rattle.adjustment_covariance.specs.joints.Lent.{gained_with}
use Rattle.adjustment_covariance.proofs.GainLaws.{turned-cells}
use native.Mathlib.Omega.{arith}
use Rattle.adjustment_covariance.proofs.information.fill_turned.Goals as goal

pub loop-a-init : goal.loop-a-init
unfolding put_rows
loop-a-init c = (omega arith, refl, fold_start _ _ _)

pub turned_row-requires : goal.turned_row-requires
turned_row-requires c =
    let g = c.requires in
    (omega arith, record { wide = g.1.wide; fits = omega (arith, g.1.fits) }, row-apart-whole _ _ g.2 _ _ _ c.loop-a-test.true (omega arith) c.start-d.ensures.0, c.loop-a-test.true, g.3)

pub loop-a-preserved : goal.loop-a-preserved
loop-a-preserved c =
    let v = c.loop-a.invariant in
    let g = c.requires in (
      omega arith,
      c.turned_row.auto.narrow ∙ v.1,
      fill_more _ _ _ _ _ _ (gained_with c.args.n (λ k. get_or c.loop-a.narrow (c.args.o + k * 6 + c.loop-a.a) nan) c.args.work.now c.args.q c.args.s plus_zero) _ _ _
          c.start-d.ensures.0 v.2 c.turned_row.ensures
          (λ j l. turned-cells _ _ _ _ _ _ _ _ _ _ _ g.2 g.1.wide c.loop-a-test.true v.2 j l),
    )

pub shape_of-narrow : goal.shape_of-narrow
shape_of-narrow c = c.loop-a.invariant.1

pub returns : goal.returns
unfolding put_rows
returns c = fold_end _ _ _ _ _ _ c.loop-a.invariant.0 c.loop-a-test.false c.loop-a.invariant.2
