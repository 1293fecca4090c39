use Prim.Native.Nat.{ℕ, ◌≤◌, ◌<◌, ◌-◌}
use mathlib.Core.Path.{◌≡◌}
use mathlib.Core.List.{List, []}
use lib.ListN.{get_or}
use lib.Ieee.{Float, of_bits}
use Rattle.algebra.specs.Kind.{floats, zero_of}
use Rattle.algebra.specs.Product.{like_cells, transpose}
use Rattle.algebra.specs.Fold.{fold}
use Rattle.algebra.proofs.FoldLaws.{fold_start, fold_next}
use Rattle.tests.specs.Moments.{weight, a2_of}
use Rattle.tests_moments.proofs.Pairs.{pairs_to, pairs-none, pairs-more, pairs_end}
use native.Mathlib.Omega.{arith}
use Rattle.tests_moments.proofs.a2_of.Given as goal

-- what the pair (i, j) adds to the running sum
abbrev step : List (List (List Float)) → List (List Float) → ℕ → ℕ → ℕ → Float → Float
step us w p i j s = floats.plus s (floats.times (weight w i j) (like_cells floats p p (get_or us i []) (transpose floats 6 6 p p (get_or us j []))))

abbrev pub invariant-loop-j : goal.invariant-loop-j
invariant-loop-j l = (l.i < l.n) × (l.i ≤ l.j) × (l.j ≤ l.n) × (l.sum ≡ fold l.i l.j (step l.us l.w l.p l.i) l.initial.sum)

abbrev pub decreases-loop-j : goal.decreases-loop-j
decreases-loop-j l = l.n - l.j

abbrev pub invariant-loop-i : goal.invariant-loop-i
invariant-loop-i l = (l.i ≤ l.n) × (l.sum ≡ pairs_to (step l.us l.w l.p) (zero_of floats) l.n l.i)

abbrev pub decreases-loop-i : goal.decreases-loop-i
decreases-loop-i l = l.n - l.i
