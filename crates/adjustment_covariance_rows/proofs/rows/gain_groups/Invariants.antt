use Prim.Native.Nat.{◌≤◌, ◌-◌, ◌+◌}
use mathlib.Core.Path.{◌≡◌}
use lib.ListN.{length, get_or}
use lib.Ieee.{nan}
use Rattle.algebra_large.specs.joints.Slab.{put_row}
use Rattle.adjustment.specs.Covariance.{group_cell}
use Rattle.adjustment_covariance_rows.proofs.RowLaws.{gained_terms}
use Rattle.adjustment_covariance.specs.joints.Lent.{z_rows}
use Rattle.adjustment_covariance_rows.proofs.rows.gain_groups.Given as goal

abbrev pub invariant-loop-g : goal.invariant-loop-g
invariant-loop-g l = (l.g ≤ l.t.groups) × (length l.out ≡ length l.initial.out) × (l.out ≡ put_row l.d l.m (λ j. gained_terms (λ g j. group_cell (z_rows l.design) l.t g l.i (l.lo + j)) l.g j (get_or l.initial.out (l.d + j) nan)) l.initial.out)

abbrev pub decreases-loop-g : goal.decreases-loop-g
decreases-loop-g l = l.t.groups - l.g
