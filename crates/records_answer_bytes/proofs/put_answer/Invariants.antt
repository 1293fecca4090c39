use Prim.Native.Nat.{◌≤◌}
use mathlib.Core.Path.{◌≡◌}
use lib.ListN.{length, take}
use lib.Seq.{sets}
use Rattle.records.specs.format.Layout.{answer_bytes}
use Rattle.records_answer_bytes.proofs.put_answer.Given as goal

abbrev pub invariant-loop-i : goal.invariant-loop-i
invariant-loop-i l = (l.i ≤ 7) × (length l.es ≡ 7) × (length l.initial.a ≡ 168) × (length l.a ≡ 168) × (l.a ≡ sets l.initial.a 0 (answer_bytes (take l.i l.es)))
