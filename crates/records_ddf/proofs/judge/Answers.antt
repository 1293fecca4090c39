-- `records_ddf::judge` meets its contract.
use native.Mathlib.Omega.{arith}
use mathlib.Core.Path.{◌≡◌, refl, sym, ap, ◌∙◌}
use lib.ListN.{length}
use lib.Ieee.{of_bits}
use Rattle.tests.specs.declared.Tested.{Tested}
use Rattle.tests.specs.Satterthwaite.{satterthwaite as test}
use Rattle.records.specs.format.Kinds.{kinds_of}
use Rattle.records.specs.format.File.{count}
use Rattle.records.specs.readers.Parameters.{kinds, refusal}
use Rattle.records.specs.calls.SatterthwaiteCall.{outcome as fileOutcome}
use Rattle.records_sheet.specs.joints.Sheet.{sheet_after}
use Rattle.records.proofs.readers.Limits.{slot-count}
use Rattle.records_sheet.proofs.Sheets.{length-sheet}
use Rattle.tests.specs.Answer.{no_entry}
use Rattle.records.proofs.format.RefusalNumbers.{no-zero, number-passed}
use Rattle.records_form.proofs.FormLaws.{FormedSizes}
use Rattle.records_ddf.specs.joints.Gathered.{inputs_from}
use Rattle.records_ddf.proofs.Inputs.{outcome-is}
use Rattle.records_ddf.proofs.Judged.{passed-over, accepted-sizes, judged-early, judged-late, judged-taken}
use borrow.Author.Rules.{rules}
use Rattle.algebra.specs.Kind.{marks}
use Rattle.records.specs.declared.Shape.TheVariants.{Test}
use Rattle.records_ddf.proofs.judge.Goals as goal

pub refusal-requires : goal.refusal-requires
unfolding of_bits
refusal-requires c =
    let h = slot-count 1 Test in
    record { flags_value = (refl, omega arith); sheet_value = (refl, omega arith) }

pub returns-in_err-refusal : goal.returns-in_err-refusal
returns-in_err-refusal c =
    let passed = c.from_residual.ensures.1 in
    let both = judged-early _ _ _ no_entry c.in_err-refusal.ensures.value (no-zero _) refl in
    record { value = number-passed _ _ passed ∙ both.1; answered = passed-over _ _ passed ∙ both.0 }

pub first_slots-firsts-requires : goal.first_slots-firsts-requires
first_slots-firsts-requires c =
    let accepted : refusal c.args.s.now ≡ 0 = sym c.in_ok-refusal.ensures.value in
    let sizes-at-hand : FormedSizes Test 1 c.args.s.now c.parameter_sizes-z.result = accepted-sizes _ _ accepted c.parameter_sizes-z.ensures in
    sizes-at-hand.small

pub test-tested-requires : goal.test-tested-requires
test-tested-requires c =
    let accepted : refusal c.args.s.now ≡ 0 = sym c.in_ok-refusal.ensures.value in
    let sizes-at-hand : FormedSizes Test 1 c.args.s.now c.parameter_sizes-z.result = accepted-sizes _ _ accepted c.parameter_sizes-z.ensures in
    let sheet-at-hand : c.refusal.new.sheet ≡ sheet_after 256 (kinds c.args.s.now) c.args.s.now (count c.args.s.now) = c.in_ok-refusal.ensures.sheet_after in
    let t = sizes-at-hand in
    let f = t.fit in
    let h = slot-count 1 Test in
    let e = ap length sheet-at-hand ∙ length-sheet 256 (kinds c.args.s.now) c.args.s.now (count c.args.s.now) in
    record { coefficients_bound = (t.coefficients, t.contrasts, t.parameters); firsts_value = (c.first_slots-firsts.ensures, omega arith) }

pub returns-then-tested : goal.returns-then-tested
returns-then-tested c =
    let accepted : refusal c.args.s.now ≡ 0 = sym c.in_ok-refusal.ensures.value in
    let sheet-at-hand : c.refusal.new.sheet ≡ sheet_after 256 (kinds c.args.s.now) c.args.s.now (count c.args.s.now) = c.in_ok-refusal.ensures.sheet_after in
    let outcome-at-hand : test marks c.args.c (inputs_from c.refusal.new.sheet c.parameter_sizes-z.result) ≡ fileOutcome c.args.c c.args.s.now = let s = c.args.s.now in
    let t = accepted-sizes s _ accepted refl in
    let f = t.fit in
    let h = slot-count 1 Test in
    outcome-is s t.within 256 (omega arith) c.args.c _ _ c.parameter_sizes-z.ensures sheet-at-hand in
    let o = outcome-at-hand in
    let both = judged-late _ _ no_entry accepted (sym (ap (λ (y : Tested). y.refused) o) ∙ sym (ap (λ (y : Tested). y.refused) c.test-tested.ensures) ∙ c.if-tested.true) refl in
    record { value = both.1; answered = both.0 }

pub returns : goal.returns
returns c =
    let accepted : refusal c.args.s.now ≡ 0 = sym c.in_ok-refusal.ensures.value in
    let sheet-at-hand : c.refusal.new.sheet ≡ sheet_after 256 (kinds c.args.s.now) c.args.s.now (count c.args.s.now) = c.in_ok-refusal.ensures.sheet_after in
    let outcome-at-hand : test marks c.args.c (inputs_from c.refusal.new.sheet c.parameter_sizes-z.result) ≡ fileOutcome c.args.c c.args.s.now = let s = c.args.s.now in
    let t = accepted-sizes s _ accepted refl in
    let f = t.fit in
    let h = slot-count 1 Test in
    outcome-is s t.within 256 (omega arith) c.args.c _ _ c.parameter_sizes-z.ensures sheet-at-hand in
    let o = outcome-at-hand in
    let both = judged-taken _ _ _ accepted (sym (ap (λ (y : Tested). y.refused) o) ∙ sym (ap (λ (y : Tested). y.refused) c.test-tested.ensures) ∙ c.if-tested.false) (ap (λ (y : Tested). y.entry) c.test-tested.ensures ∙ ap (λ (y : Tested). y.entry) o) in
    record { value = both.1; answered = both.0 }
