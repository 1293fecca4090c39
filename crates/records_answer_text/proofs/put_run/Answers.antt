-- `records_answer_text::put_run` meets its contract.
use Rattle.records_answer_text.proofs.CursorLaws.{named}
use Rattle.records_answer_text.proofs.TextLaws.{text-refused, text-accepted}
use native.Mathlib.Omega.{arith}
use Rattle.records_answer_text.proofs.put_run.Goals as goal

pub returns-then-number-ne0 : goal.returns-then-number-ne0
returns-then-number-ne0 c = named c.put_refusal.ensures (text-refused c.args.number c.args.es c.if-number-ne0.true) (omega arith)

pub returns : goal.returns
returns c = named c.put_lines.ensures (text-accepted c.args.number c.args.es c.if-number-ne0.false) (omega arith)
