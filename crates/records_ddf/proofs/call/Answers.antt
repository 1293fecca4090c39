-- `records_ddf::call` meets its contract.
use mathlib.Core.Path.{refl, sym, ◌∙◌}
use Rattle.records.specs.readers.CutoffTable.{built_in_table}
use Rattle.records.proofs.readers.CutoffLaws.{built-in-accepted, built-in-numbers}
use Rattle.records.specs.calls.SatterthwaiteCall.{number, test_call}
use Rattle.records.proofs.calls.CallLaws.{other_length, own-answer}
use borrow.Author.Rules.{rules}
use Rattle.records_ddf.proofs.call.Reads as reads
use Rattle.records_ddf.proofs.call.Lts as lts
use Rattle.arithmetic_cutoffs.proofs.document_cutoffs.Reads as document-cutoffs-reads
use Rattle.records_ddf.proofs.fill_entry.Reads as fill-entry-reads
use Rattle.records_ddf.proofs.call.Goals as goal

pub returns-then-answer-ne-ENTRY_LENGTH : goal.returns-then-answer-ne-ENTRY_LENGTH
returns-then-answer-ne-ENTRY_LENGTH c =
    let a = c.args in
    let both = other_length (test_call a.records.now) built_in_table a.answer.now c.if-answer-ne-ENTRY_LENGTH.true in
    record { value = both.0; answer_after = both.1 }

pub returns : goal.returns
unfolding number
returns c =
    let a = c.args in
    let f = c.fill_entry.ensures in
    let both = own-answer (test_call a.records.now) built_in_table a.answer.now refl c.if-answer-ne-ENTRY_LENGTH.false built-in-accepted _ (c.document_cutoffs.ensures ∙ sym built-in-numbers) _ _ f.value f.answer_after in
    record { value = both.0; answer_after = both.1 }
