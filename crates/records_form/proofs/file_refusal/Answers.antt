-- `records_form::file_refusal` meets its contract.
use mathlib.Core.Path.{sym, ◌∙◌}
use Rattle.records_sizes.specs.joints.Gathered.{reader_of}
use Rattle.records_form.proofs.FormLaws.{odd-length, file-falls, file-rises}
use borrow.Author.Rules.{rules}
use Rattle.records_form.proofs.file_refusal.Goals as goal

pub returns-then-s-ne0 : goal.returns-then-s-ne0
returns-then-s-ne0 c =
    let a = c.args in
    odd-length (reader_of a.file a.w) a.s.now c.if-s-ne0.true

pub returns-then-falls : goal.returns-then-falls
returns-then-falls c =
    let a = c.args in
    file-falls (reader_of a.file a.w) a.s.now c.if-s-ne0.false (sym c.falls.ensures ∙ c.if-falls.true)

pub returns : goal.returns
returns c =
    let a = c.args in
    c.form_refusal.ensures ∙ file-rises (reader_of a.file a.w) a.s.now c.if-s-ne0.false (sym c.falls.ensures ∙ c.if-falls.false)
