use Prim.Native.Nat.{◌+◌, ◌-◌, ◌≤◌}
use mathlib.Core.Path.{◌≡◌}
use mathlib.Core.Bool.{not}
use lib.Dec.{eqb}
use Rattle.records.specs.format.Bytes.{byte}
use Rattle.records.specs.format.Scan.{any}
use Rattle.records_season.proofs.other_byte_set.Given as goal

abbrev pub invariant-loop-o : goal.invariant-loop-o
invariant-loop-o l = (l.o ≤ 15) × (l.set ≡ any l.o (λ k. not (eqb (byte l.bytes (1 + k)) 0)))

abbrev pub decreases-loop-o : goal.decreases-loop-o
decreases-loop-o l = 15 - l.o
