-- `records_season::put_worst` meets its contract: three texts one after another.
use Rattle.records.specs.text.Text.{codes}
use Rattle.records_answer_text.proofs.CursorLaws.{then}
use Rattle.records_season.proofs.put_worst.Goals as goal

pub returns : goal.returns
unfolding codes
returns c = then c.put_text-at.ensures (then c.put_number-at.ensures c.put_text.ensures)
