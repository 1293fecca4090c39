use Prim.Native.Nat.{◌≤◌, ◌-◌}
use mathlib.Core.Path.{◌≡◌}
use lib.ListN.{length}
use Rattle.algebra_large.specs.joints.Slab.{put_rows}
use Rattle.adjustment.specs.Covariance.{sigma_rows}
use Rattle.adjustment_covariance.specs.joints.Lent.{lent_design}
use Rattle.adjustment_sigma.proofs.build_sigma_g.Given as goal

abbrev pub invariant-loop-i : goal.invariant-loop-i
invariant-loop-i l = (l.i ≤ l.n) × (length l.work ≡ length l.initial.work) × (l.work ≡ put_rows l.s l.d l.i l.n (sigma_rows (lent_design l.design l.theta)) l.initial.work)

abbrev pub decreases-loop-i : goal.decreases-loop-i
decreases-loop-i l = l.n - l.i
