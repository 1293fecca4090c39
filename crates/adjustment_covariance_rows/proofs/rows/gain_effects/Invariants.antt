use Prim.Native.Nat.{◌≤◌, ◌-◌, ◌+◌}
use mathlib.Core.Path.{◌≡◌}
use lib.ListN.{length, get_or}
use lib.Ieee.{nan}
use Rattle.algebra.specs.Kind.{floats}
use Rattle.algebra.specs.Product.{at, sum}
use Rattle.algebra_large.specs.joints.Slab.{put_row}
use Rattle.adjustment_covariance.specs.joints.Lent.{z_rows}
use Rattle.adjustment_covariance_rows.proofs.rows.gain_effects.Given as goal

abbrev pub invariant-loop-j : goal.invariant-loop-j
invariant-loop-j g l = (l.j ≤ l.m) × (length l.out ≡ length l.initial.out) × (l.out ≡ put_row l.d l.j (λ j. floats.plus (get_or l.initial.out (l.d + j) nan) (sum floats g.row.K (λ b. floats.times (get_or l.directed b nan) (at floats (z_rows l.design) (l.lo + j) (get_or l.columns b 0))))) l.initial.out)

abbrev pub decreases-loop-j : goal.decreases-loop-j
decreases-loop-j g l = l.m - l.j
