-- `records_second_file::refusal` meets its contract.
use native.Mathlib.Omega.{arith}
use mathlib.Core.Path.{sym, ◌∙◌}
use Rattle.records.specs.declared.Shape.TheVariants.{Second}
use Rattle.records.specs.readers.SecondFile.{reader, reasons, refusal}
use Rattle.std.proofs.lemmas.Result.{IfOk-from_err}
use Rattle.records.proofs.format.RefusalNumbers.{no-zero, number-passed}
use Rattle.records.proofs.readers.ReaderLaws.{form-refuses}
use Rattle.records_form.proofs.FormLaws.{FormedSizes, formed-sizes, sheet-from}
use Rattle.records_second_file.proofs.SecondLaws.{other-coefficients, value-refused, contrast-refused, reader-accepts, same-coefficients, contrast-fits, zero-read}
use borrow.Author.Rules.{rules}
use Rattle.records_second_file.proofs.refusal.Goals as goal

pub file_refusal-requires : goal.file_refusal-requires
file_refusal-requires c =
    let p = c.requires in
    (omega arith, omega arith, p.flags_value.0, p.flags_value.1)

pub returns-in_err-file_refusal : goal.returns-in_err-file_refusal
unfolding refusal reasons
returns-in_err-file_refusal c =
    let passed = c.from_residual.ensures in
    record { value = number-passed _ _ passed.1 ∙ form-refuses (reader c.args.p) _ _ c.in_err-file_refusal.ensures (no-zero _); sheet_after = IfOk-from_err _ _ passed.0 }

pub returns-then-z-p : goal.returns-then-z-p
returns-then-z-p c = record { value = other-coefficients _ _ (sym c.in_ok-file_refusal.ensures) (λ e. c.if-z-p.true (sym (same-coefficients _ _ c.second_sizes-z.ensures) ∙ e)); sheet_after = tt }

pub returns-then-any_not_finite : goal.returns-then-any_not_finite
returns-then-any_not_finite c = record { value = value-refused _ _ (sym c.in_ok-file_refusal.ensures) (same-coefficients _ _ c.second_sizes-z.ensures ∙ c.if-z-p.false) (sym c.any_not_finite.ensures ∙ c.if-any_not_finite.true); sheet_after = tt }

pub first_slots-firsts-requires : goal.first_slots-firsts-requires
first_slots-firsts-requires c =
    let formed : FormedSizes Second 1 c.args.t.now c.second_sizes-z.result = formed-sizes Second 1 (omega arith) (omega arith) _ _ (sym c.in_ok-file_refusal.ensures) c.second_sizes-z.ensures in
    formed.small

pub fill_sheet-requires : goal.fill_sheet-requires
fill_sheet-requires c =
    let formed : FormedSizes Second 1 c.args.t.now c.second_sizes-z.result = formed-sizes Second 1 (omega arith) (omega arith) _ _ (sym c.in_ok-file_refusal.ensures) c.second_sizes-z.ensures in
    let h = formed in
    let p = c.requires in
    let f = h.fit in
    record { small = (h.small, c.first_slots-firsts.ensures, h.within); sheet_value = (p.sheet_value.0, omega arith) }

pub zero_contrast-requires : goal.zero_contrast-requires
zero_contrast-requires c =
    let formed : FormedSizes Second 1 c.args.t.now c.second_sizes-z.result = formed-sizes Second 1 (omega arith) (omega arith) _ _ (sym c.in_ok-file_refusal.ensures) c.second_sizes-z.ensures in
    let h = formed in
    let p = c.requires in
    let f = h.fit in
    (h.small, contrast-fits _ _ _ c.first_slots-firsts.ensures (omega arith))

pub returns-then-zero_contrast : goal.returns-then-zero_contrast
returns-then-zero_contrast c =
    let formed : FormedSizes Second 1 c.args.t.now c.second_sizes-z.result = formed-sizes Second 1 (omega arith) (omega arith) _ _ (sym c.in_ok-file_refusal.ensures) c.second_sizes-z.ensures in
    let h = formed in
    let f = h.fit in
    let p = c.requires in
    let x = zero-read _ _ _ _ _ c.second_sizes-z.ensures c.first_slots-firsts.ensures h.within (omega arith) c.fill_sheet.ensures in
    record { value = contrast-refused _ _ (sym c.in_ok-file_refusal.ensures) (same-coefficients _ _ c.second_sizes-z.ensures ∙ c.if-z-p.false) (sym c.any_not_finite.ensures ∙ c.if-any_not_finite.false) (sym x ∙ sym c.zero_contrast.ensures ∙ c.if-zero_contrast.true); sheet_after = tt }

pub returns : goal.returns
returns c =
    let formed : FormedSizes Second 1 c.args.t.now c.second_sizes-z.result = formed-sizes Second 1 (omega arith) (omega arith) _ _ (sym c.in_ok-file_refusal.ensures) c.second_sizes-z.ensures in
    let h = formed in
    let f = h.fit in
    let p = c.requires in
    let x = zero-read _ _ _ _ _ c.second_sizes-z.ensures c.first_slots-firsts.ensures h.within (omega arith) c.fill_sheet.ensures in
    record { value = reader-accepts _ _ (sym c.in_ok-file_refusal.ensures) (same-coefficients _ _ c.second_sizes-z.ensures ∙ c.if-z-p.false) (sym c.any_not_finite.ensures ∙ c.if-any_not_finite.false) (sym x ∙ sym c.zero_contrast.ensures ∙ c.if-zero_contrast.false); sheet_after = sheet-from Second _ _ _ _ c.second_sizes-z.ensures c.fill_sheet.ensures }
