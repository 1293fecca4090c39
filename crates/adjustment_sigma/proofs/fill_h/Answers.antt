-- `adjustment_sigma::fill_h` meets its contract.
use mathlib.Core.Path.{refl, ◌∙◌}
use Rattle.algebra.proofs.FoldLaws.{fold_start, fold_end}
use Rattle.algebra_large.specs.joints.Slab.{put_rows}
use Rattle.algebra_large.proofs.SlabLaws.{fill_more}
use Rattle.algebra_large.proofs.ProductLaws.{row-apart-whole}
use Rattle.adjustment_covariance.proofs.GainLaws.{h-cells}
use native.Mathlib.Omega.{arith}
use Rattle.adjustment_sigma.proofs.fill_h.Goals as goal

pub loop-i-init : goal.loop-i-init
unfolding put_rows
loop-i-init c = (omega arith, refl, fold_start _ _ _)

pub start-a-requires : goal.start-a-requires
start-a-requires c = (record { wide = c.requires.holds.0.wide; fits = omega (arith, c.requires.holds.0.fits) }, c.loop-i-test.true)

pub h_row-requires : goal.h_row-requires
h_row-requires c = let g = c.requires in record { n_in_bounds = (omega arith, record { wide = g.holds.1.wide; fits = omega (arith, g.holds.1.fits) }, row-apart-whole _ _ g.holds.2 _ _ _ c.loop-i-test.true g.holds.0.wide c.start-a.ensures.0); lent = (g.lent.0, g.lent.1, c.loop-i-test.true) }

pub loop-i-preserved : goal.loop-i-preserved
loop-i-preserved c =
    let v = c.loop-i.invariant in
    let g = c.requires in (
      omega arith,
      c.h_row.auto.work ∙ v.1,
      fill_more _ _ _ _ _ _ _ _ _ _ c.start-a.ensures.0 v.2 c.h_row.ensures
          (λ j l. h-cells _ _ _ _ _ _ _ _ _ g.holds.2 g.holds.0.wide c.loop-i-test.true v.2 j l),
    )

pub shape_of-work : goal.shape_of-work
shape_of-work c = c.loop-i.invariant.1

pub returns : goal.returns
unfolding put_rows
returns c = fold_end _ _ _ _ _ _ c.loop-i.invariant.0 c.loop-i-test.false c.loop-i.invariant.2
