-- `records_archive_test::test_with` meets its contract.
use mathlib.Core.Path.{refl, sym, ◌∙◌}
use Rattle.records.proofs.readers.CutoffLaws.{table-length}
use Rattle.records.specs.calls.ArchiveCall.{from_archive_number, testing_call}
use Rattle.records.proofs.calls.CallLaws.{other_length, other-table, own-answer}
use Rattle.records_archive_test.proofs.test_with.Goals as goal

pub returns-then-answer-ne-ANSWER_LENGTH : goal.returns-then-answer-ne-ANSWER_LENGTH
returns-then-answer-ne-ANSWER_LENGTH c =
    let a = c.args in
    let both = other_length (testing_call a.archive.now a.tests.now) a.table.now a.answer.now c.if-answer-ne-ANSWER_LENGTH.true in
    record { value = both.0; answer_after = both.1 }

pub returns-then-bad_table : goal.returns-then-bad_table
returns-then-bad_table c =
    let a = c.args in
    let both = other-table (testing_call a.archive.now a.tests.now) a.table.now a.answer.now refl c.if-answer-ne-ANSWER_LENGTH.false (sym c.bad_table.ensures ∙ c.if-bad_table.true) in
    record { value = both.0; answer_after = both.1 }

pub cutoffs_in-requires : goal.cutoffs_in-requires
cutoffs_in-requires c = table-length c.args.table.now (sym c.bad_table.ensures ∙ c.if-bad_table.false)

pub returns : goal.returns
unfolding from_archive_number
returns c =
    let a = c.args in
    let f = c.fill_tests.ensures in
    let both = own-answer (testing_call a.archive.now a.tests.now) a.table.now a.answer.now refl c.if-answer-ne-ANSWER_LENGTH.false (sym c.bad_table.ensures ∙ c.if-bad_table.false) _ c.cutoffs_in.ensures _ _ f.value f.answer_after in
    record { value = both.0; answer_after = both.1 }
