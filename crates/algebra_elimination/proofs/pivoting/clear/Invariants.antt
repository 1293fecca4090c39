use Prim.Native.Nat.{◌≤◌, ◌-◌, ◌+◌}
use mathlib.Core.Path.{◌≡◌}
use Rattle.algebra.specs.Elimination.{cleared}
use Rattle.algebra_elimination.proofs.pivoting.clear.Given as goal

abbrev pub invariant-loop-r : goal.invariant-loop-r
invariant-loop-r g l = (l.c + 1 ≤ l.r) × (l.r ≤ l.n) × (l.out ≡ cleared g.T.Scalar.arith l.r l.w l.c l.m)

abbrev pub decreases-loop-r : goal.decreases-loop-r
decreases-loop-r g l = l.n - l.r
