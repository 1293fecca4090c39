use Prim.Native.Nat.{ℕ, ◌≤◌, ◌-◌, ◌+◌}
use mathlib.Core.Path.{◌≡◌, ap}
use Rattle.adjustment.specs.Blocks.{places_before}
use Rattle.algebra.proofs.FoldLaws.{fold_start, fold_next, fold_end}
use Rattle.adjustment_covariance.proofs.BlockLaws.{places-room}
use native.Mathlib.Omega.{arith}
use Rattle.adjustment_covariance.proofs.blocks.places_before.Given as goal

abbrev pub invariant-loop-i : goal.invariant-loop-i
invariant-loop-i l = (l.i ≤ l.b) × (l.total ≡ places_before l.blocks l.i)

abbrev pub decreases-loop-i : goal.decreases-loop-i
decreases-loop-i l = l.b - l.i
