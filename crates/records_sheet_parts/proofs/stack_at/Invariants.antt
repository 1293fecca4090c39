use Prim.Native.Nat.{◌+◌, ◌*◌, ◌≤◌}
use mathlib.Core.Path.{◌≡◌}
use lib.ListN.{length}
use Rattle.records_sheet_parts.specs.joints.Parts.{stack_at}
use Rattle.records_sheet_parts.proofs.stack_at.Given as goal

abbrev pub invariant-loop-i : goal.invariant-loop-i
invariant-loop-i l = (l.i ≤ l.n) × (l.n ≤ 4) × (l.p ≤ 6) × (l.at + l.n * (l.p * l.p) ≤ length l.sheet) × (l.out ≡ stack_at l.sheet l.at l.i l.p)
