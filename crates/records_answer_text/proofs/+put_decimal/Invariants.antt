-- `records_answer_text::put_decimal`: the measure is the number of digits that there may be.
use Rattle.records_answer_text.proofs.+put_decimal.Given as goal

abbrev pub decreases-put_decimal : goal.decreases-put_decimal
decreases-put_decimal l = l.n
