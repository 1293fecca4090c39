-- `records_archive_test::fill_tests` meets its contract.
use mathlib.Core.Path.{refl, ap, ◌∙◌}
use Rattle.records.proofs.format.RefusalNumbers.{no-zero, number-passed}
use Rattle.records.specs.format.Layout.{answer_bytes}
use Rattle.records.specs.calls.ArchiveCall.{from_archive_number, from_archive_entries}
use Rattle.records.proofs.calls.CallLaws.{kept-bytes, filled-bytes}
use Rattle.records_archive_test.proofs.fill_tests.Goals as goal

pub returns-in_err-es : goal.returns-in_err-es
returns-in_err-es c =
    let a = c.args in
    let e = c.in_err-es.ensures.value in
    record { value = number-passed _ _ c.from_residual.ensures.1 ∙ e; answer_after = kept-bytes _ (from_archive_number a.c a.archive.now a.tests.now) (answer_bytes (from_archive_entries a.c a.archive.now a.tests.now)) a.answer.now e (no-zero _) }

pub returns : goal.returns
returns c =
    let a = c.args in
    let j = c.in_ok-es.ensures in
    let both = filled-bytes _ (from_archive_number a.c a.archive.now a.tests.now) (answer_bytes (from_archive_entries a.c a.archive.now a.tests.now)) a.answer.now _ j.value refl (c.put_answer.ensures ∙ ap answer_bytes j.answered) in
    record { value = both.0; answer_after = both.1 }
