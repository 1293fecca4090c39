-- `records_answer_bytes::bits_of` meets its contract.
use mathlib.Core.Path.{sym, ap, ◌∙◌}
use Rattle.records.specs.format.Layout.{bits_of}
use Rattle.records_answer_bytes.proofs.bits_of.Goals as goal

pub returns-in-Some : goal.returns-in-Some
unfolding bits_of
returns-in-Some c = c.to_bits.ensures ∙ sym (ap bits_of c.in-Some.is)

pub returns-in-None : goal.returns-in-None
unfolding bits_of
returns-in-None c = sym (ap bits_of c.in-None.is)
