use Prim.Native.Nat.{◌≤◌, ◌+◌, ◌*◌}
use mathlib.Core.Path.{◌≡◌}
use lib.ListN.{length}
use Rattle.records.specs.text.Text.{coefficient_lines}
use Rattle.records_answer_text.specs.joints.Cursor.{Put}
use Rattle.records_answer_text.proofs.put_coefficients.Given as goal

abbrev pub invariant-loop-i : goal.invariant-loop-i
invariant-loop-i l = (l.i ≤ 6) × (length l.es ≡ 7) × (l.at + 378 ≤ length l.initial.out) × (length l.out ≡ length l.initial.out) × Put (63 * l.i) l.initial.out l.at (coefficient_lines l.i l.es) l.out l.next
