-- `records_answer_text::put_fields` meets its contract: seven texts one after another.
use Rattle.records.specs.text.Text.{codes, fields_text}
use Rattle.records_answer_text.proofs.CursorLaws.{then}
use Rattle.records_answer_text.proofs.put_fields.Goals as goal

pub returns : goal.returns
unfolding codes fields_text
returns c =
    let d = rw c.from.ensures at c.put_decimal-at.ensures in
    then (then (then (then (then (then c.put_text-at.ensures d) c.put_text-at-2.ensures) c.put_number-at.ensures) c.put_text-at-3.ensures) c.put_number-at-2.ensures) c.put_mark.ensures
