use Prim.Native.Nat.{◌≤◌, ◌-◌}
use mathlib.Core.Path.{◌≡◌, refl}
use Rattle.adjustment.specs.Blocks.{columns_before}
use Rattle.algebra.proofs.FoldLaws.{fold_start, fold_next, fold_end}
use Rattle.adjustment_covariance.proofs.BlockLaws.{columns-room}
use native.Mathlib.Omega.{arith}
use Rattle.adjustment_covariance.proofs.blocks.columns_before.Given as goal

abbrev pub invariant-loop-i : goal.invariant-loop-i
invariant-loop-i l = (l.i ≤ l.b) × (l.total ≡ columns_before l.blocks l.i)

abbrev pub decreases-loop-i : goal.decreases-loop-i
decreases-loop-i l = l.b - l.i
