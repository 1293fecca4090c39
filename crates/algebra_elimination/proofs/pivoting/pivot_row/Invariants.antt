use Prim.Native.Nat.{◌≤◌, ◌-◌, ◌+◌}
use mathlib.Core.Path.{◌≡◌}
use Rattle.algebra.specs.Elimination.{pivot_row}
use Rattle.algebra_elimination.proofs.pivoting.pivot_row.Given as goal

abbrev pub invariant-loop-r : goal.invariant-loop-r
invariant-loop-r g l = (l.c + 1 ≤ l.r) × (l.r ≤ l.n) × (l.best ≡ pivot_row g.T.Scalar.arith l.r l.c l.m)

abbrev pub decreases-loop-r : goal.decreases-loop-r
decreases-loop-r g l = l.n - l.r
