-- `adjustment_sigma::gain_g` meets its contract.
use mathlib.Core.Path.{refl, ◌∙◌}
use Rattle.adjustment_covariance.proofs.GainLaws.{with_none, with-end}
use Rattle.adjustment_sigma.proofs.PartLaws.{with-join}
use native.Mathlib.Omega.{arith}
use Rattle.adjustment_sigma.proofs.gain_g.Goals as goal

pub loop-lo-init : goal.loop-lo-init
loop-lo-init c = (omega arith, refl, with_none _ _ _ _ _ _ _ (omega arith))

pub gain_part-requires : goal.gain_part-requires
gain_part-requires c =
    let g = c.requires in
    record { n_in_bounds = (omega arith, record { wide = g.n_in_bounds.1.wide; fits = omega (arith, g.n_in_bounds.1.fits) }, g.n_in_bounds.2, c.part-m.ensures.0, c.part-m.ensures.1, c.loop-lo-test.true); lent = g.lent }

pub overflow_add-lo : goal.overflow_add-lo
overflow_add-lo c = omega (arith, c.part-m.ensures.1)

pub loop-lo-smaller : goal.loop-lo-smaller
loop-lo-smaller c = omega (arith, c.part-m.ensures.1, c.part-m.ensures.2 c.loop-lo-test.true)

pub loop-lo-preserved : goal.loop-lo-preserved
loop-lo-preserved c =
    let v = c.loop-lo.invariant in
    let g = c.requires in (
      omega (arith, c.part-m.ensures.1),
      c.gain_part.auto.work ∙ v.1,
      with-join _ _ _ _ c.part-m.ensures.1 _ c.args.work.now _ _ g.n_in_bounds.0 g.n_in_bounds.1.wide g.n_in_bounds.2 v.2 c.gain_part.ensures,
    )

pub shape_of-work : goal.shape_of-work
shape_of-work c = c.loop-lo.invariant.1

pub returns : goal.returns
returns c = with-end _ _ _ _ _ _ _ c.args.work.now c.args.work.now _ c.loop-lo.invariant.0 c.loop-lo-test.false c.loop-lo.invariant.2
