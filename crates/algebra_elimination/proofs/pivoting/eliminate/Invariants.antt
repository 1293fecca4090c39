use Prim.Native.Nat.{◌≤◌, ◌-◌}
use mathlib.Core.Path.{◌≡◌}
use Rattle.algebra.specs.Elimination.{eliminate_to}
use Rattle.algebra_elimination.proofs.pivoting.eliminate.Given as goal

abbrev pub invariant-loop-c : goal.invariant-loop-c
invariant-loop-c g l = (l.c ≤ l.n) × (l.out ≡ eliminate_to g.T.Scalar.arith l.c l.n l.w l.initial.out)

abbrev pub decreases-loop-c : goal.decreases-loop-c
decreases-loop-c g l = l.n - l.c
