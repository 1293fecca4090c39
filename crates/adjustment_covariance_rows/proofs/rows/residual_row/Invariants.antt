use Prim.Native.Nat.{◌≤◌, ◌-◌, ◌+◌}
use mathlib.Core.Path.{◌≡◌}
use lib.ListN.{length}
use Rattle.algebra_large.specs.joints.Slab.{put_row}
use Rattle.adjustment.specs.Covariance.{residual_cell}
use Rattle.adjustment_covariance.specs.joints.Lent.{weighted, weights}
use Rattle.adjustment_covariance_rows.proofs.rows.residual_row.Given as goal

abbrev pub invariant-loop-j : goal.invariant-loop-j
invariant-loop-j l = (l.j ≤ l.m) × (length l.out ≡ length l.initial.out) × (l.out ≡ put_row l.d l.j (λ j. residual_cell (weighted l.design) (weights l.design) l.i (l.lo + j)) l.initial.out)

abbrev pub decreases-loop-j : goal.decreases-loop-j
decreases-loop-j l = l.m - l.j
