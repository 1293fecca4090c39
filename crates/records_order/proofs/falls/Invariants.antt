use mathlib.Core.Path.{◌≡◌}
use mathlib.Core.Bool.{false}
use Rattle.records.specs.format.Scan.{any}
use Rattle.records_order.specs.joints.Keys.{least_key, falls_at}
use Rattle.records_order.proofs.falls.Given as goal

abbrev pub invariant-loop-i : goal.invariant-loop-i
invariant-loop-i l = (l.least ≡ least_key l.s l.i) × (any l.i (falls_at l.s) ≡ false)
