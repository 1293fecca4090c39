use Prim.Native.Nat.{◌≤◌}
use Rattle.records_torn.proofs.PackingTurns.{PackedTo}
use Rattle.records_torn.proofs.pack_rows.Given as goal

abbrev pub invariant-loop-i : goal.invariant-loop-i
invariant-loop-i l = (l.i ≤ l.n) × PackedTo l.at l.stride l.weights l.initial.sheet l.kept l.i l.sheet
