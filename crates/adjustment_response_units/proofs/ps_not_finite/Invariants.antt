use Prim.Native.Nat.{◌≤◌, ◌-◌}
use mathlib.Core.Path.{◌≡◌}
use Rattle.algebra.specs.Kind.{marks}
use Rattle.algebra.proofs.FoldLaws.{fold_start, fold_next, fold_end}
use mathlib.Core.Bool.{false, ◌||◌}
use Rattle.algebra.specs.Fold.{fold}
use Rattle.adjustment.specs.Adjusted.{matrix_at, scaled_down, not_all_finite, not_all_finite_marked}
use Rattle.adjustment.proofs.AdjustedLaws.{ps-step}
use native.Mathlib.Omega.{arith}
use Rattle.adjustment_response_units.proofs.ps_not_finite.Given as goal

abbrev pub invariant-loop-r : goal.invariant-loop-r
invariant-loop-r l = (l.r ≤ l.n) × (l.found ≡ fold 0 l.r (λ r z. z || not_all_finite l.p l.p (matrix_at l.ps r) || not_all_finite_marked l.p l.p (scaled_down marks l.p (matrix_at l.ps r) l.sigma2)) false)

abbrev pub decreases-loop-r : goal.decreases-loop-r
decreases-loop-r l = l.n - l.r
