use Prim.Native.Nat.{◌≤◌, ◌-◌, ◌+◌}
use mathlib.Core.Path.{◌≡◌}
use Rattle.algebra.specs.Elimination.{less_by}
use Rattle.algebra_elimination.proofs.pivoting.less_by.Given as goal

abbrev pub invariant-loop-j : goal.invariant-loop-j
invariant-loop-j g l = (l.c + 1 ≤ l.j) × (l.j ≤ l.w) × (l.out ≡ less_by g.T.Scalar.arith l.j l.c l.f l.pivots l.lower)

abbrev pub decreases-loop-j : goal.decreases-loop-j
decreases-loop-j g l = l.w - l.j
