use Prim.Native.Nat.{ℕ, ◌≤◌, ◌<◌, ◌-◌}
use mathlib.Core.Path.{◌≡◌}
use mathlib.Core.List.{List}
use lib.ListN.{get_or}
use lib.Ieee.{Float, nan, of_bits}
use Rattle.algebra.specs.Kind.{floats, zero_of}
use Rattle.algebra.specs.Fold.{fold}
use Rattle.algebra.proofs.FoldLaws.{fold_start, fold_next}
use Rattle.tests.specs.Moments.{weight}
use Rattle.tests_moments.proofs.Pairs.{pairs_to, pairs-none, pairs-more, pairs_end}
use native.Mathlib.Omega.{arith}
use Rattle.tests_moments.proofs.a1_sum.Given as goal

-- what the pair (i, j) adds to the running sum
abbrev step : List (List Float) → List Float → ℕ → ℕ → Float → Float
step w ts i j s = floats.plus s (floats.times (floats.times (weight w i j) (get_or ts i nan)) (get_or ts j nan))

abbrev pub invariant-loop-j : goal.invariant-loop-j
invariant-loop-j l = (l.i < l.n) × (l.i ≤ l.j) × (l.j ≤ l.n) × (l.sum ≡ fold l.i l.j (step l.w l.ts l.i) l.initial.sum)

abbrev pub decreases-loop-j : goal.decreases-loop-j
decreases-loop-j l = l.n - l.j

abbrev pub invariant-loop-i : goal.invariant-loop-i
invariant-loop-i l = (l.i ≤ l.n) × (l.sum ≡ pairs_to (step l.w l.ts) (zero_of floats) l.n l.i)

abbrev pub decreases-loop-i : goal.decreases-loop-i
decreases-loop-i l = l.n - l.i
