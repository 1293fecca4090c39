use Prim.Native.Nat.{◌≤◌, ◌-◌, ◌+◌}
use mathlib.Core.Path.{◌≡◌}
use lib.ListN.{length, get_or}
use lib.Ieee.{nan}
use Rattle.algebra_large.specs.joints.Slab.{put_row}
use Rattle.adjustment_covariance.specs.joints.Lent.{gained_with}
use Rattle.adjustment_sigma.proofs.gain_cells.Given as goal

abbrev pub invariant-loop-k : goal.invariant-loop-k
invariant-loop-k l = (l.k ≤ l.m) × (length l.work ≡ length l.initial.work) × (l.work ≡ put_row l.a l.n (λ j. gained_with l.k (λ k. get_or l.row k nan) l.initial.work l.q l.s (get_or l.initial.work (l.a + j) nan) j) l.initial.work)

abbrev pub decreases-loop-k : goal.decreases-loop-k
decreases-loop-k l = l.m - l.k
