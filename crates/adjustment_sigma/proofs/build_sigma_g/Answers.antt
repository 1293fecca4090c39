-- `adjustment_sigma::build_sigma_g` meets its contract.
use mathlib.Core.Path.{refl, sym, ◌∙◌}
use Rattle.algebra.proofs.FoldLaws.{fold_start, fold_end}
use Rattle.algebra_large.specs.joints.Slab.{put_rows}
use Rattle.algebra_large.proofs.SlabLaws.{fill_more}
use Rattle.adjustment_covariance.proofs.DesignLaws.{sigma-at}
use native.Mathlib.Omega.{arith}
use Rattle.adjustment_sigma.proofs.build_sigma_g.Goals as goal

pub loop-i-init : goal.loop-i-init
unfolding put_rows
loop-i-init c = (omega arith, refl, fold_start _ _ _)

pub start-a-requires : goal.start-a-requires
start-a-requires c = (record { wide = c.requires.0.wide; fits = omega (arith, c.requires.0.fits) }, c.loop-i-test.true)

pub sigma_row-requires : goal.sigma_row-requires
sigma_row-requires c = (omega arith, c.requires.1, c.loop-i-test.true)

pub loop-i-preserved : goal.loop-i-preserved
loop-i-preserved c =
    let v = c.loop-i.invariant in (
      omega arith,
      c.sigma_row.auto.work ∙ v.1,
      fill_more _ _ _ _ _ _ _ _ _ _ c.start-a.ensures.0 v.2 c.sigma_row.ensures (λ j l. sym (sigma-at _ _ _ c.loop-i-test.true l)),
    )

pub shape_of-work : goal.shape_of-work
shape_of-work c = c.loop-i.invariant.1

pub returns : goal.returns
unfolding put_rows
returns c = fold_end _ _ _ _ _ _ c.loop-i.invariant.0 c.loop-i-test.false c.loop-i.invariant.2
