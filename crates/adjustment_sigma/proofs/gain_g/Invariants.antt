use Prim.Native.Nat.{◌≤◌, ◌-◌, ◌+◌}
use mathlib.Core.Path.{◌≡◌}
use mathlib.Core.List.{[]}
use lib.ListN.{length, get_or}
use lib.Ieee.{nan}
use Rattle.algebra_large.specs.joints.Slab.{put_row}
use Rattle.adjustment.specs.Covariance.{g_cell}
use Rattle.adjustment_covariance.specs.joints.Lent.{lent_design, gained_with}
use Rattle.adjustment_sigma.proofs.gain_g.Given as goal

abbrev pub invariant-loop-lo : goal.invariant-loop-lo
invariant-loop-lo l = (l.lo ≤ l.n) × (length l.work ≡ length l.initial.work) × (l.work ≡ put_row l.a l.n (λ j. gained_with l.lo (g_cell (lent_design l.design []) l.r l.i) l.initial.work l.q l.s (get_or l.initial.work (l.a + j) nan) j) l.initial.work)

abbrev pub decreases-loop-lo : goal.decreases-loop-lo
decreases-loop-lo l = l.n - l.lo
