-- `records_answer_text::put_test` meets its contract.
use Rattle.records.specs.text.Text.{codes}
use Rattle.records_answer_text.proofs.CursorLaws.{then}
use Rattle.records_answer_text.proofs.TextLaws.{test-unused, test-used}
use Rattle.records_answer_text.proofs.put_test.Goals as goal

pub returns-then-rank-eq0 : goal.returns-then-rank-eq0
returns-then-rank-eq0 c = let g = c.args in test-unused g.out.now g.at g.e c.if-rank-eq0.true

pub returns : goal.returns
unfolding codes
returns c =
    let g = c.args in
    test-used g.e c.if-rank-eq0.false (then c.put_text-at.ensures c.put_fields.ensures)
