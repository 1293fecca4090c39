-- `records_answer_text::put_lines` meets its contract.
use native.Mathlib.Omega.{arith}
use mathlib.Core.Path.{refl}
use Rattle.records.specs.text.Text.{lines_text}
use Rattle.records_answer_text.proofs.CursorLaws.{then, named}
use borrow.Author.Rules.{rules}
use Rattle.records_answer_text.proofs.put_lines.Goals as goal

pub returns : goal.returns
unfolding lines_text
returns c =
    named (then c.put_coefficients-at.ensures c.put_test.ensures) refl (omega arith)
