-- `records_answer_text::put_text` meets its contract.
use mathlib.Core.Path.{refl}
use native.Mathlib.Omega.{arith}
use Rattle.records_answer_text.proofs.CursorLaws.{pasted}
use Rattle.records_answer_text.proofs.put_text.Goals as goal

pub returns : goal.returns
returns c =
    let a = c.args in
    record { stored = pasted a.out.now a.at _ a.text.now _ c.requires (omega arith) c.copy_from_slice.ensures.after; moved = refl; short = omega arith }
