use Prim.Native.Nat.{◌≤◌, ◌-◌}
use mathlib.Core.Path.{◌≡◌}
use lib.ListN.{length}
use Rattle.algebra_large.specs.joints.Slab.{put_row}
use Rattle.adjustment.specs.Covariance.{sigma_cell}
use Rattle.adjustment_covariance.specs.joints.Lent.{lent_design}
use Rattle.adjustment_sigma.proofs.sigma_row.Given as goal

abbrev pub invariant-loop-lo : goal.invariant-loop-lo
invariant-loop-lo l = (l.lo ≤ l.n) × (length l.work ≡ length l.initial.work) × (l.work ≡ put_row l.a l.lo (sigma_cell (lent_design l.design l.theta) l.i) l.initial.work)

abbrev pub decreases-loop-lo : goal.decreases-loop-lo
decreases-loop-lo l = l.n - l.lo
