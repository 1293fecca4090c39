-- `adjustment_kr_vcov_adj::precision::sigma_and_precision` meets its contract.
use Rattle.adjustment_kr_vcov_adj.proofs.PrecisionLaws.{number-nine, number-ten, precision-in}
use Rattle.adjustment_work.proofs.WorkLaws.{square-held}
use Rattle.adjustment_work.specs.joints.Work.{zeros}
use Rattle.adjustment_adjusted.specs.joints.FromInformation.{accepted}
use Rattle.adjustment_covariance.specs.joints.Lent.{lent_design}
use Rattle.adjustment.specs.Covariance.{Design}
use mathlib.Core.Bool.{Bool, cond}
use mathlib.Core.Path.{sym, ap, ◌∙◌}
use native.Mathlib.Omega.{arith}
use Rattle.adjustment_kr_vcov_adj.proofs.precision.sigma_and_precision.Goals as goal

pub build_sigma_g-requires : goal.build_sigma_g-requires
build_sigma_g-requires c =
    let g = c.requires in
    let l = c.clear_all.auto.work in
    (square-held _ _ 0 _ _ g.0 (omega arith) (omega arith) c.square_at-a.ensures.0, g.2)

pub returns-then-fill_factor : goal.returns-then-fill_factor
unfolding accepted
returns-then-fill_factor c = let d : Design = lent_design c.args.design.now c.args.theta in record { told = number-nine _ d _ _ _ _ _ c.requires.0 c.requires.1 c.clear_all.ensures c.square_at-a.ensures.0 c.build_sigma_g.ensures c.fill_factor.ensures.work_after _ c.fill_factor.ensures.value c.if-fill_factor.true; work_after = c.clear_all-then-fill_factor.ensures ∙ ap zeros (c.fill_factor.auto.work ∙ c.build_sigma_g.auto.work ∙ c.clear_all.auto.work) }

pub returns-then-fill_inverse : goal.returns-then-fill_inverse
unfolding accepted
returns-then-fill_inverse c =
    let d : Design = lent_design c.args.design.now c.args.theta in record {
      told = ap (λ (b : Bool). cond b 10 0) (sym c.if-fill_inverse.true)
          ∙ number-ten _ d _ _ _ _ _ c.requires.0 c.requires.1 c.clear_all.ensures c.square_at-a.ensures.0 c.build_sigma_g.ensures c.fill_factor.ensures.work_after _ c.fill_inverse.result c.fill_factor.ensures.value c.if-fill_factor.false c.fill_inverse.ensures.value;
      work_after = c.clear_all-then-fill_inverse.ensures ∙ ap zeros (c.fill_inverse.auto.work ∙ c.fill_factor.auto.work ∙ c.build_sigma_g.auto.work ∙ c.clear_all.auto.work);
    }

pub returns : goal.returns
unfolding accepted
returns c =
    let d : Design = lent_design c.args.design.now c.args.theta in record {
      told = ap (λ (b : Bool). cond b 10 0) (sym c.if-fill_inverse.false)
          ∙ number-ten _ d _ _ _ _ _ c.requires.0 c.requires.1 c.clear_all.ensures c.square_at-a.ensures.0 c.build_sigma_g.ensures c.fill_factor.ensures.work_after _ c.fill_inverse.result c.fill_factor.ensures.value c.if-fill_factor.false c.fill_inverse.ensures.value;
      work_after = precision-in _ d _ _ _ _ _ c.requires.0 c.requires.1 c.clear_all.ensures c.square_at-a.ensures.0 c.build_sigma_g.ensures c.fill_factor.ensures.work_after _ _ _ _ c.fill_inverse.ensures.work_after c.fill_precision.ensures c.clear_rest.ensures;
    }
