-- `records_answer_text::put_refusal` meets its contract.
use Rattle.records.specs.text.Text.{codes, refusal_text}
use Rattle.records_answer_text.proofs.CursorLaws.{then}
use Rattle.records_answer_text.proofs.put_refusal.Goals as goal

pub returns : goal.returns
unfolding codes refusal_text
returns c =
    let d = rw c.from.ensures at c.put_decimal-at.ensures in
    then (then c.put_text-at.ensures d) c.put_text.ensures
