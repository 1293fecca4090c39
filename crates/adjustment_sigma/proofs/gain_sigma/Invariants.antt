use Prim.Native.Nat.{◌≤◌, ◌-◌, ◌+◌}
use mathlib.Core.Path.{◌≡◌}
use lib.ListN.{length, get_or}
use lib.Ieee.{nan}
use Rattle.algebra.specs.Kind.{floats}
use Rattle.algebra_large.specs.joints.Slab.{put_row}
use Rattle.adjustment.specs.Blocks.{places_before}
use Rattle.adjustment.specs.Covariance.{factor, g_cell}
use Rattle.adjustment_covariance.specs.joints.Lent.{lent_design}
use Rattle.adjustment_covariance_rows.proofs.RowLaws.{gained_terms}
use Rattle.adjustment_sigma.proofs.gain_sigma.Given as goal

abbrev pub invariant-loop-r : goal.invariant-loop-r
invariant-loop-r l = (l.r ≤ l.last + 1) × (l.last ≡ places_before l.design.blocks l.design.count) × (length l.work ≡ length l.initial.work) × (length l.row ≡ length l.initial.row) × (l.work ≡ put_row l.a l.m (λ j. gained_terms (λ r j. floats.times (factor (lent_design l.design l.theta) r) (g_cell (lent_design l.design l.theta) r l.i (l.lo + j))) l.r j (get_or l.initial.work (l.a + j) nan)) l.initial.work)

abbrev pub decreases-loop-r : goal.decreases-loop-r
decreases-loop-r l = l.last + 1 - l.r
