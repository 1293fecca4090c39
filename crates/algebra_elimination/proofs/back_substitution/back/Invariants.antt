use Prim.Native.Nat.{◌≤◌, ◌-◌}
use mathlib.Core.Path.{◌≡◌}
use Rattle.algebra.specs.Elimination.{back_to}
use Rattle.algebra_elimination.proofs.back_substitution.back.Given as goal

abbrev pub invariant-loop-d : goal.invariant-loop-d
invariant-loop-d g l = (l.d ≤ l.n) × (l.x ≡ back_to g.T.Scalar.arith l.d 6 6 l.n l.cols l.m)

abbrev pub decreases-loop-d : goal.decreases-loop-d
decreases-loop-d g l = l.n - l.d
