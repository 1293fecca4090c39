-- `records_ddf::fill_entry` meets its contract.
use mathlib.Core.Path.{refl, ◌∙◌}
use Rattle.records.proofs.format.RefusalNumbers.{no-zero, number-passed}
use Rattle.records.specs.format.Layout.{entry_bytes}
use Rattle.records.specs.calls.SatterthwaiteCall.{number, entry}
use Rattle.records.proofs.calls.CallLaws.{kept-bytes, filled-bytes}
use Rattle.records_ddf.proofs.Judged.{entry-fills}
use borrow.Author.Rules.{rules}
use Rattle.records_ddf.proofs.fill_entry.Reads as reads
use Rattle.records_ddf.proofs.fill_entry.Lts as lts
use Rattle.records_answer_bytes.proofs.put_entry.Reads as put-entry-reads
use Rattle.records_ddf.proofs.judge.Reads as judge-reads
use Rattle.records_ddf.proofs.fill_entry.Goals as goal

pub returns-in_err-e : goal.returns-in_err-e
returns-in_err-e c =
    let a = c.args in
    let e = c.in_err-e.ensures.value in
    record { value = number-passed _ _ c.from_residual.ensures.1 ∙ e; answer_after = kept-bytes _ (number a.c a.records.now) (entry_bytes (entry a.c a.records.now)) a.answer.now e (no-zero _) }

pub returns : goal.returns
returns c =
    let a = c.args in
    let j = c.in_ok-e.ensures in
    let both = filled-bytes _ (number a.c a.records.now) (entry_bytes (entry a.c a.records.now)) a.answer.now _ j.value refl (c.put_entry.ensures ∙ entry-fills _ _ _ c.requires j.answered) in
    record { value = both.0; answer_after = both.1 }
