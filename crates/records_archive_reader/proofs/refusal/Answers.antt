-- `records_archive_reader::refusal` meets its contract.
use mathlib.Core.Path.{◌≡◌, sym, ◌∙◌}
use native.Mathlib.Omega.{arith}
use Rattle.records.specs.declared.Shape.TheVariants.{Archived}
use Rattle.records.specs.readers.Reader.{formed_number}
use Rattle.records.specs.readers.Archive.{reader, reasons, refusal}
use Rattle.std.proofs.lemmas.Result.{IfOk-from_err}
use Rattle.records.proofs.format.RefusalNumbers.{no-zero, number-passed, on-ok}
use Rattle.records.proofs.readers.ReaderLaws.{form-refuses}
use Rattle.records_form.proofs.FormLaws.{FormedSizes, formed-sizes, sheet-from}
use Rattle.records_archive_reader.proofs.ReaderLaws.{value-refused, sheet-room, numbers-refused}
use Rattle.records_archive_reader.proofs.refusal.Goals as goal

pub file_refusal-requires : goal.file_refusal-requires
file_refusal-requires c =
    let p = c.requires in
    (omega arith, omega arith, p.flags_value.0, p.flags_value.1)

pub returns-in_err-file_refusal : goal.returns-in_err-file_refusal
unfolding refusal reasons
returns-in_err-file_refusal c =
    let passed = c.from_residual.ensures in
    record { value = number-passed _ _ passed.1 ∙ form-refuses reader _ _ c.in_err-file_refusal.ensures (no-zero _); sheet_after = IfOk-from_err _ _ passed.0 }

pub returns-then-any_not_finite : goal.returns-then-any_not_finite
returns-then-any_not_finite c =
    let sound : formed_number reader c.args.s.now ≡ 0 = sym c.in_ok-file_refusal.ensures in
    record { value = value-refused _ sound (sym c.any_not_finite.ensures ∙ c.if-any_not_finite.true); sheet_after = tt }

pub first_slots-firsts-requires : goal.first_slots-firsts-requires
first_slots-firsts-requires c =
    let sound : formed_number reader c.args.s.now ≡ 0 = sym c.in_ok-file_refusal.ensures in
    let sizes-at-hand : FormedSizes Archived 1 c.args.s.now c.archive_sizes-z.result = formed-sizes Archived 1 (omega arith) (omega arith) _ _ sound c.archive_sizes-z.ensures in
    sizes-at-hand.small

pub fill_sheet-requires : goal.fill_sheet-requires
fill_sheet-requires c =
    let sound : formed_number reader c.args.s.now ≡ 0 = sym c.in_ok-file_refusal.ensures in
    let sizes-at-hand : FormedSizes Archived 1 c.args.s.now c.archive_sizes-z.result = formed-sizes Archived 1 (omega arith) (omega arith) _ _ sound c.archive_sizes-z.ensures in
    let h = sizes-at-hand in
    let p = c.requires in
    let f = h.fit in
    record { small = (h.small, c.first_slots-firsts.ensures, h.within); sheet_value = (p.sheet_value.0, omega arith) }

pub numbers_refusal-requires : goal.numbers_refusal-requires
numbers_refusal-requires c =
    let sound : formed_number reader c.args.s.now ≡ 0 = sym c.in_ok-file_refusal.ensures in
    let sizes-at-hand : FormedSizes Archived 1 c.args.s.now c.archive_sizes-z.result = formed-sizes Archived 1 (omega arith) (omega arith) _ _ sound c.archive_sizes-z.ensures in
    let h = sizes-at-hand in
    (h.coefficients, h.parameters, c.first_slots-firsts.ensures, sheet-room _ _ _ _ h c.requires.sheet_value.1 c.fill_sheet.ensures)

pub returns : goal.returns
returns c =
    let sound : formed_number reader c.args.s.now ≡ 0 = sym c.in_ok-file_refusal.ensures in
    let p = c.requires in
    let z = c.archive_sizes-z.ensures in
    let x = c.fill_sheet.ensures in
    record { value = numbers-refused _ sound (sym c.any_not_finite.ensures ∙ c.if-any_not_finite.false) _ _ _ _ p.sheet_value.1 z x c.numbers_refusal.ensures; sheet_after = on-ok c.numbers_refusal.result (sheet-from Archived _ _ _ _ z x) }
