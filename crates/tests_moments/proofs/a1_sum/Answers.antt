-- `tests_moments::a1_sum` meets its contract.
use Prim.Native.Nat.{ℕ, ◌≤◌, ◌<◌, ◌-◌}
use mathlib.Core.Path.{◌≡◌}
use mathlib.Core.List.{List}
use lib.ListN.{get_or}
use lib.Ieee.{Float, nan, of_bits}
use Rattle.algebra.specs.Kind.{floats, zero_of}
use Rattle.algebra.specs.Fold.{fold}
use Rattle.algebra.proofs.FoldLaws.{fold_start, fold_next}
use Rattle.tests.specs.Moments.{weight}
use Rattle.tests_moments.proofs.Pairs.{pairs_to, pairs-none, pairs-more, pairs_end}
use native.Mathlib.Omega.{arith}
use Rattle.tests_moments.proofs.a1_sum.Goals as goal

-- what the pair (i, j) adds to the running sum
abbrev step : List (List Float) → List Float → ℕ → ℕ → Float → Float
step w ts i j s = floats.plus s (floats.times (floats.times (weight w i j) (get_or ts i nan)) (get_or ts j nan))

pub loop-i-init : goal.loop-i-init
unfolding of_bits
loop-i-init c = (omega arith, pairs-none _ _ _)

pub loop-j-init : goal.loop-j-init
loop-j-init c = (omega arith, omega arith, omega arith, fold_start _ _ _)

pub loop-j-preserved : goal.loop-j-preserved
loop-j-preserved c = (omega arith, omega arith, omega arith, fold_next _ _ _ _ _ _ (omega arith) c.loop-j.invariant.3 (rw c.a1_term-sum.ensures))

pub loop-i-preserved : goal.loop-i-preserved
loop-i-preserved c = (omega arith, pairs-more _ _ _ _ _ _ _ c.loop-i.invariant.1 c.loop-j.invariant.3 c.loop-j.invariant.2 c.loop-j-test.false)

pub returns : goal.returns
returns c = pairs_end _ _ _ _ _ c.loop-i.invariant.0 c.loop-i-test.false c.loop-i.invariant.1
