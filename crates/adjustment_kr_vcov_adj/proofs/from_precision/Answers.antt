-- `adjustment_kr_vcov_adj::from_precision` meets its contract.
use mathlib.Core.List.{[]}
use Rattle.adjustment_kr_vcov_adj.proofs.CallLaws.{accepted-yes, accepted-no, told-ok, told-err, value-is, adjusted-is, ps-kept, number_is}
use Rattle.adjustment_work.specs.joints.Work.{whole_design, zeros}
use Rattle.adjustment_adjusted.specs.joints.FromInformation.{phi_side}
use Rattle.adjustment.specs.Covariance.{Design}
use mathlib.Core.Path.{sym, ap, ◌∙◌}
use native.Mathlib.Omega.{arith}
use Prim.Native.Nat.{ℕ, ◌+◌}
use Rattle.adjustment_kr_vcov_adj.proofs.from_precision.Goals as goal

pub information-ie-requires : goal.information-ie-requires
information-ie-requires c =
    let g = c.requires in
    record { sized = (g.0, g.1); lent = (g.2, ap (λ (m : ℕ). m + 1) c.places_before-k.ensures) }

pub from_information-answer-requires : goal.from_information-answer-requires
from_information-answer-requires c =
    let g = c.requires in
    (g.0.few, omega (arith, g.2.sound.thetas, c.places_before-k.ensures))

pub returns-then-is_err : goal.returns-then-is_err
returns-then-is_err c =
    let a = c.args in
    let d : Design = whole_design a.design.now [] in
    let i = c.information-ie.ensures in
    let f = c.from_information-answer.ensures in
    let n = c.places_before-k.ensures in
    let e = adjusted-is a.c d a.phi _ _ _ _ _ (ap (λ (m : ℕ). m + 1) n) i.ps_after i.qs_after i.value in
    let num = f.told ∙ number_is a.c d a.phi _ _ _ _ _ (ap (λ (m : ℕ). m + 1) n) i.ps_after i.qs_after i.value _ in
    let no = told-err c.from_information-answer.result (sym c.is_err.ensures.value ∙ c.if-is_err.true) in
    record { told = num; value = value-is _ _ _ (ap phi_side e) f.value; ps_after = sym (accepted-no _ _ _ no); work_after = c.clear_all.ensures ∙ ap zeros c.information-ie.auto.work ∙ sym (accepted-no _ _ _ no); narrow_after = i.narrow_after }

pub returns : goal.returns
returns c =
    let a = c.args in
    let d : Design = whole_design a.design.now [] in
    let i = c.information-ie.ensures in
    let f = c.from_information-answer.ensures in
    let n = c.places_before-k.ensures in
    let e = adjusted-is a.c d a.phi _ _ _ _ _ (ap (λ (m : ℕ). m + 1) n) i.ps_after i.qs_after i.value in
    let num = f.told ∙ number_is a.c d a.phi _ _ _ _ _ (ap (λ (m : ℕ). m + 1) n) i.ps_after i.qs_after i.value _ in
    let yes = told-ok c.from_information-answer.result (sym c.is_err.ensures.value ∙ c.if-is_err.false) in
    record { told = num; value = value-is _ _ _ (ap phi_side e) f.value; ps_after = ps-kept a.c d a.phi _ _ _ _ _ (ap (λ (m : ℕ). m + 1) n) i.ps_after i.qs_after i.value ∙ sym (accepted-yes _ _ _ yes); work_after = i.work_after ∙ sym (accepted-yes _ _ _ yes); narrow_after = i.narrow_after }
