-- `records_ddf::refusal` meets its contract.
use native.Mathlib.Omega.{arith}
use mathlib.Core.Path.{◌≡◌, sym, ◌∙◌}
use Rattle.records.specs.readers.Parameters.{reader, reasons, refusal}
use Rattle.std.proofs.lemmas.Result.{IfOk-from_err}
use Rattle.records.proofs.format.RefusalNumbers.{no-zero, number-passed}
use Rattle.records.proofs.readers.ReaderLaws.{form-refuses}
use Rattle.records_form.proofs.FormLaws.{FormedSizes, sheet-from}
use Rattle.records_ddf.proofs.Judged.{value-refused, reader-accepts, accepted-sizes}
use borrow.Author.Rules.{rules}
use Rattle.records.specs.declared.Shape.TheVariants.{Test}
use Rattle.records_ddf.proofs.refusal.Goals as goal

pub file_refusal-requires : goal.file_refusal-requires
file_refusal-requires c =
    let p = c.requires in
    (omega arith, omega arith, p.flags_value.0, p.flags_value.1)

pub returns-in_err-file_refusal : goal.returns-in_err-file_refusal
unfolding refusal reasons
returns-in_err-file_refusal c =
    let passed = c.from_residual.ensures in
    record { value = number-passed _ _ passed.1 ∙ form-refuses reader _ _ c.in_err-file_refusal.ensures (no-zero _); sheet_after = IfOk-from_err _ _ passed.0 }

pub returns-then-any_not_finite : goal.returns-then-any_not_finite
returns-then-any_not_finite c = record { value = value-refused _ (sym c.in_ok-file_refusal.ensures) (sym c.any_not_finite.ensures ∙ c.if-any_not_finite.true); sheet_after = tt }

pub first_slots-firsts-requires : goal.first_slots-firsts-requires
first_slots-firsts-requires c =
    let accepted : refusal c.args.s.now ≡ 0 = sym (reader-accepts _ (sym c.in_ok-file_refusal.ensures) (sym c.any_not_finite.ensures ∙ c.if-any_not_finite.false)) in
    let sizes-at-hand : FormedSizes Test 1 c.args.s.now c.parameter_sizes-z.result = accepted-sizes _ _ accepted c.parameter_sizes-z.ensures in
    sizes-at-hand.small

pub fill_sheet-requires : goal.fill_sheet-requires
fill_sheet-requires c =
    let accepted : refusal c.args.s.now ≡ 0 = sym (reader-accepts _ (sym c.in_ok-file_refusal.ensures) (sym c.any_not_finite.ensures ∙ c.if-any_not_finite.false)) in
    let sizes-at-hand : FormedSizes Test 1 c.args.s.now c.parameter_sizes-z.result = accepted-sizes _ _ accepted c.parameter_sizes-z.ensures in
    let t = sizes-at-hand in
    let p = c.requires in
    let f = t.fit in
    record { small = (t.small, c.first_slots-firsts.ensures, t.within); sheet_value = (p.sheet_value.0, omega arith) }

pub returns : goal.returns
returns c =
    let accepted : refusal c.args.s.now ≡ 0 = sym (reader-accepts _ (sym c.in_ok-file_refusal.ensures) (sym c.any_not_finite.ensures ∙ c.if-any_not_finite.false)) in
    record { value = sym accepted; sheet_after = sheet-from Test _ _ _ _ c.parameter_sizes-z.ensures c.fill_sheet.ensures }
