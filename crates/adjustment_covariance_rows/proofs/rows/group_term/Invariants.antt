use Prim.Native.Nat.{◌≤◌, ◌-◌}
use mathlib.Core.Path.{◌≡◌}
use lib.ListN.{get_or}
use lib.Ieee.{nan}
use Rattle.algebra.specs.Kind.{floats}
use Rattle.algebra.specs.Product.{at, sum}
use Rattle.adjustment_covariance.specs.joints.Lent.{z_rows}
use Rattle.adjustment_covariance_rows.proofs.rows.group_term.Given as goal

abbrev pub invariant-loop-b : goal.invariant-loop-b
invariant-loop-b g l = (l.b ≤ g.row.K) × (l.total ≡ sum floats l.b (λ b. floats.times (get_or l.directed b nan) (at floats (z_rows l.design) l.i (get_or l.columns b 0))))

abbrev pub decreases-loop-b : goal.decreases-loop-b
decreases-loop-b g l = g.row.K - l.b
