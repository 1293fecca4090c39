use Prim.Native.Nat.{◌≤◌, ◌-◌}
use mathlib.Core.Path.{◌≡◌}
use Rattle.algebra_elimination.specs.joints.Parts.{singular}
use Rattle.algebra_elimination.proofs.is_singular.Given as goal

abbrev pub invariant-loop-c : goal.invariant-loop-c
invariant-loop-c g l = (l.c ≤ l.n) × (l.zero ≡ singular g.T.Scalar.arith l.c l.m)

abbrev pub decreases-loop-c : goal.decreases-loop-c
decreases-loop-c g l = l.n - l.c
