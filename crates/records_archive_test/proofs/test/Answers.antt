-- `records_archive_test::test` meets its contract.
use mathlib.Core.Path.{refl, sym, ◌∙◌}
use Rattle.records.specs.readers.CutoffTable.{built_in_table}
use Rattle.records.proofs.readers.CutoffLaws.{built-in-accepted, built-in-numbers}
use Rattle.records.specs.calls.ArchiveCall.{from_archive_number, testing_call}
use Rattle.records.proofs.calls.CallLaws.{other_length, own-answer}
use Rattle.records_archive_test.proofs.test.Goals as goal

pub returns-then-answer-ne-ANSWER_LENGTH : goal.returns-then-answer-ne-ANSWER_LENGTH
returns-then-answer-ne-ANSWER_LENGTH c =
    let a = c.args in
    let both = other_length (testing_call a.archive.now a.tests.now) built_in_table a.answer.now c.if-answer-ne-ANSWER_LENGTH.true in
    record { value = both.0; answer_after = both.1 }

pub returns : goal.returns
unfolding from_archive_number
returns c =
    let a = c.args in
    let f = c.fill_tests.ensures in
    let both = own-answer (testing_call a.archive.now a.tests.now) built_in_table a.answer.now refl c.if-answer-ne-ANSWER_LENGTH.false built-in-accepted _ (c.document_cutoffs.ensures ∙ sym built-in-numbers) _ _ f.value f.answer_after in
    record { value = both.0; answer_after = both.1 }
