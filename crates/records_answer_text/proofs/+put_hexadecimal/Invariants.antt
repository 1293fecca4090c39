-- `records_answer_text::put_hexadecimal`: the measure is the number of digits.
use Rattle.records_answer_text.proofs.+put_hexadecimal.Given as goal

abbrev pub decreases-put_hexadecimal : goal.decreases-put_hexadecimal
decreases-put_hexadecimal l = l.n
