-- `records_answer_text::put_coefficient` meets its contract.
use Rattle.records.specs.text.Text.{codes}
use Rattle.records_answer_text.proofs.CursorLaws.{then}
use Rattle.records_answer_text.proofs.TextLaws.{coefficient-unused, coefficient-used}
use Rattle.records_answer_text.proofs.put_coefficient.Goals as goal

pub returns-then-rank-eq0 : goal.returns-then-rank-eq0
returns-then-rank-eq0 c = let g = c.args in coefficient-unused g.out.now g.at g.i g.e c.if-rank-eq0.true

pub returns : goal.returns
unfolding codes
returns c =
    let g = c.args in
    coefficient-used g.i g.e c.if-rank-eq0.false (then (then (then c.put_text-at.ensures c.put_digit-at.ensures) c.put_text-at-2.ensures) c.put_fields.ensures)
