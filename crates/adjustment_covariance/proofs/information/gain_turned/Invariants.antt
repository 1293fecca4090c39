use Prim.Native.Nat.{ℕ, ◌≤◌, ◌-◌, ◌+◌, ◌*◌}
use mathlib.Core.Path.{◌≡◌, refl, ap, ◌∙◌}
use lib.ListN.{length, get_or}
use lib.Ieee.{nan}
use Rattle.algebra_large.specs.joints.Slab.{put_row}
use Rattle.algebra_large.proofs.ProductLaws.{apart-cell}
use Rattle.adjustment_covariance.specs.joints.Lent.{gained_with}
use Rattle.adjustment_covariance.proofs.GainLaws.{with_none, with-more, with-end}
use native.Mathlib.Omega.{arith}
use Rattle.adjustment_covariance.proofs.information.gain_turned.Given as goal

abbrev pub invariant-loop-k : goal.invariant-loop-k
invariant-loop-k l = (l.k ≤ l.n) × (length l.narrow ≡ length l.initial.narrow) × (l.narrow ≡ put_row l.d l.n (λ j. gained_with l.k (λ k. get_or l.initial.narrow (l.o + k * 6 + l.a) nan) l.work l.q l.s (get_or l.initial.narrow (l.d + j) nan) j) l.initial.narrow)

abbrev pub decreases-loop-k : goal.decreases-loop-k
decreases-loop-k l = l.n - l.k
