-- `records_answer_text::put_mark` meets its contract.
use native.Mathlib.Omega.{arith}
use mathlib.Core.Path.{◌≡◌, sym}
use Rattle.records.specs.text.Text.{codes, mark_text}
use Rattle.records_answer_text.proofs.CursorLaws.{named}
use Rattle.records_answer_text.proofs.put_mark.Goals as goal

pub returns-then-inside : goal.returns-then-inside
unfolding codes mark_text
returns-then-inside c =
    let is : codes " inside\n" ≡ mark_text c.args.inside = sym (rw c.if-inside.true) in
    named c.put_text.ensures is (omega arith)

pub returns : goal.returns
unfolding codes mark_text
returns c =
    let is : codes " outside\n" ≡ mark_text c.args.inside = sym (rw c.if-inside.false) in
    named c.put_text-2.ensures is (omega arith)
