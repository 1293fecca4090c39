-- `adjustment_kr_vcov_adj::vcov_adj16_with_pw` meets its contract.
use Rattle.adjustment_kr_vcov_adj.proofs.CallLaws.{accepted-no, refusal-above, value-is, answer-is, early-number, early-work, late-number, late-work, late-adjusted}
use Rattle.adjustment.specs.Adjusted.{Adjustment}
use Rattle.adjustment_adjusted.specs.joints.FromInformation.{phi_side}
use mathlib.Core.Path.{refl, sym, ap}
use native.Mathlib.Omega.{arith}
use Rattle.adjustment_kr_vcov_adj.proofs.vcov_adj16_with_pw.Goals as goal

pub from_precision-requires : goal.from_precision-requires
from_precision-requires c =
    let g = c.requires in
    let l = c.sigma_and_precision-early.auto.work in
    (record { high = g.0.high; few = g.0.few; squares = omega (arith, g.0.squares); parts = g.0.parts }, g.1, g.2)

pub returns-in-Err : goal.returns-in-Err
returns-in-Err c =
    let a = c.args in
    let g = c.requires in
    let f = c.in-Err.ensures in
    let no = refusal-above c.in-Err.refusal in
    record { told = early-number a.s _ _ _ _ _ _ _ _ _ _ _ _ a.c a.phi a.sigma2 _ _ _ g.0.high g.0.squares f.told f.work_after no; value = tt; ps_after = sym (accepted-no _ _ _ no); work_after = early-work a.s _ _ _ _ _ _ _ _ _ _ _ _ a.c a.phi a.sigma2 _ _ _ g.0.high g.0.squares f.told f.work_after no; narrow_after = c.clear_all.ensures }

pub returns : goal.returns
returns c =
    let a = c.args in
    let g = c.requires in
    let f = c.in_default.ensures in
    let r = c.from_precision.ensures in
    let e = late-adjusted a.s _ _ _ _ _ _ _ _ _ _ _ _ a.c a.phi a.sigma2 _ _ _ g.0.high g.0.squares f.told f.work_after refl in
    record { told = late-number a.s _ _ _ _ _ _ _ _ _ _ _ _ a.c a.phi a.sigma2 _ _ _ g.0.high g.0.squares f.told f.work_after refl _ r.told; value = value-is _ _ _ (ap phi_side e) r.value; ps_after = answer-is _ (λ (t : Adjustment). t.ps) _ _ _ _ e r.ps_after; work_after = late-work a.s _ _ _ _ _ _ _ _ _ _ _ _ a.c a.phi a.sigma2 _ _ _ g.0.high g.0.squares f.told f.work_after refl _ _ c.sigma_and_precision-early.auto.work r.work_after; narrow_after = r.narrow_after }
