use Prim.Native.Nat.{◌+◌}
use mathlib.Core.Path.{◌≡◌}
use Rattle.algebra.specs.Table.{row}
use Rattle.records.specs.format.Kinds.{kinds_of}
use Rattle.records.specs.format.Cells.{first_slot}
use Rattle.records_sheet.proofs.first_slots.Given as goal

abbrev pub invariant-loop-k : goal.invariant-loop-k
invariant-loop-k l = (l.total ≡ first_slot (kinds_of l.file l.z) l.k) × (l.firsts ≡ row 0 34 (l.k + 1) (first_slot (kinds_of l.file l.z)))
