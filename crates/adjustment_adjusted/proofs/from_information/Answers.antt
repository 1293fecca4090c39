-- `adjustment_adjusted::from_information` meets its contract.
use mathlib.Core.Path.{refl, sym, ap, ◌∙◌}
use mathlib.Core.Bool.{Bool, cond}
use Rattle.adjustment_adjusted.proofs.PartLaws.{number-pivot, number-finite, from-information-is}
use Rattle.adjustment_adjusted.specs.joints.FromInformation.{phi_side}
use borrow.Author.Rules.{rules}
use Rattle.adjustment_adjusted.proofs.from_information.Goals as goal

pub returns-then-zero_pivot : goal.returns-then-zero_pivot
returns-then-zero_pivot c =
    let m = c.inverted_of-m.ensures in
    let w = c.w_of-w.ensures in
    record { told = number-pivot _ _ _ _ _ _ _ _ _ _ _ _ m.value m.made_after w.zero_pivot_after w.value c.if-zero_pivot.true; value = tt }

pub returns-then-output_not_finite : goal.returns-then-output_not_finite
returns-then-output_not_finite c =
    let m = c.inverted_of-m.ensures in
    let w = c.w_of-w.ensures in
    let bad = c.output_not_finite in
    record { told = ap (λ (b : Bool). cond b 4 0) (sym c.if-output_not_finite.true) ∙ number-finite _ _ _ _ _ _ _ _ _ _ _ _ m.value m.made_after w.zero_pivot_after w.value _ c.phi_a_of-phi_a.ensures bad.result c.if-zero_pivot.false (bad.ensures _); value = tt }

pub returns : goal.returns
returns c =
    let m = c.inverted_of-m.ensures in
    let w = c.w_of-w.ensures in
    let bad = c.output_not_finite in
    record { told = ap (λ (b : Bool). cond b 4 0) (sym c.if-output_not_finite.false) ∙ number-finite _ _ _ _ _ _ _ _ _ _ _ _ m.value m.made_after w.zero_pivot_after w.value _ c.phi_a_of-phi_a.ensures bad.result c.if-zero_pivot.false (bad.ensures _); value = ap phi_side (from-information-is _ _ _ _ c.args.sigma2 _ _ _ _ _ _ _ m.value m.made_after w.zero_pivot_after w.value _ c.phi_a_of-phi_a.ensures) }
