-- `records_answer_text::put_number` meets its contract.
use native.Mathlib.Omega.{arith}
use mathlib.Core.Path.{◌≡◌, sym, ap, ◌∙◌}
use Rattle.records.specs.text.Text.{codes, hexadecimal, number_text}
use Rattle.records_answer_text.proofs.CursorLaws.{named}
use Rattle.records_answer_text.proofs.put_number.Goals as goal

pub returns-in-Some : goal.returns-in-Some
unfolding number_text
returns-in-Some c =
    let is : hexadecimal 16 c.to_bits.result ≡ number_text c.args.number = ap (hexadecimal 16) c.to_bits.ensures ∙ sym (ap number_text c.in-Some.is) in
    named c.put_hexadecimal.ensures is (omega arith)

pub returns-in-None : goal.returns-in-None
unfolding codes number_text
returns-in-None c =
    let is : codes "none" ≡ number_text c.args.number = sym (ap number_text c.in-None.is) in
    named c.put_text.ensures is (omega arith)
