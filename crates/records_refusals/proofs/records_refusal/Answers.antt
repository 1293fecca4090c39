-- `records_refusals::records_refusal` meets its contract.
use mathlib.Core.Path.{sym, ◌∙◌}
use Rattle.records.proofs.format.RefusalNumbers.{no-zero, number-passed}
use Rattle.records_refusals.proofs.RefusalLaws.{file-refuses, blocks-refuse, none-refuses}
use borrow.Author.Rules.{rules}
use Rattle.records_refusals.proofs.records_refusal.Goals as goal

pub returns-in_err-file_refusal : goal.returns-in_err-file_refusal
returns-in_err-file_refusal c =
    let a = c.args in
    number-passed _ _ c.from_residual.ensures.1 ∙ file-refuses a.w a.s.now _ c.in_err-file_refusal.ensures (no-zero _)

pub returns-then-any_miscounted : goal.returns-then-any_miscounted
returns-then-any_miscounted c =
    let a = c.args in
    blocks-refuse a.w a.s.now (sym c.in_ok-file_refusal.ensures) (sym c.any_miscounted.ensures ∙ c.if-any_miscounted.true)

pub returns : goal.returns
returns c =
    let a = c.args in
    none-refuses a.w a.s.now (sym c.in_ok-file_refusal.ensures) (sym c.any_miscounted.ensures ∙ c.if-any_miscounted.false)
