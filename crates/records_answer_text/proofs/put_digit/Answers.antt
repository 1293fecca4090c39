-- `records_answer_text::put_digit` meets its contract: one byte is stored.
use Rattle.records_answer_text.proofs.CursorLaws.{single}
use Rattle.records_answer_text.proofs.put_digit.Goals as goal

pub returns : goal.returns
returns c = single _ _ _ _ c.letter.ensures
