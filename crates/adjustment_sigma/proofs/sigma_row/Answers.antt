-- `adjustment_sigma::sigma_row` meets its contract.
use mathlib.Core.Path.{refl, ◌∙◌}
use Rattle.algebra.proofs.FoldLaws.{fold_start, fold_end}
use Rattle.algebra_large.specs.joints.Slab.{put_row}
use Rattle.adjustment_sigma.proofs.PartLaws.{row-join}
use native.Mathlib.Omega.{arith}
use Rattle.adjustment_sigma.proofs.sigma_row.Goals as goal

pub loop-lo-init : goal.loop-lo-init
unfolding put_row
loop-lo-init c = (omega arith, refl, fold_start _ _ _)

pub sigma_part-requires : goal.sigma_part-requires
sigma_part-requires c = record { m_in_bounds = (omega (arith, c.part-m.ensures.1), c.part-m.ensures.0, c.part-m.ensures.1); lent = (c.requires.1, c.requires.2) }

pub overflow_add-lo : goal.overflow_add-lo
overflow_add-lo c = omega (arith, c.part-m.ensures.1)

pub loop-lo-smaller : goal.loop-lo-smaller
loop-lo-smaller c = omega (arith, c.part-m.ensures.1, c.part-m.ensures.2 c.loop-lo-test.true)

pub loop-lo-preserved : goal.loop-lo-preserved
loop-lo-preserved c =
    let v = c.loop-lo.invariant in
    (omega (arith, c.part-m.ensures.1), c.sigma_part.auto.work ∙ v.1, row-join _ _ _ _ _ _ _ v.2 c.sigma_part.ensures)

pub shape_of-work : goal.shape_of-work
shape_of-work c = c.loop-lo.invariant.1

pub returns : goal.returns
unfolding put_row
returns c = fold_end _ _ _ _ _ _ c.loop-lo.invariant.0 c.loop-lo-test.false c.loop-lo.invariant.2
