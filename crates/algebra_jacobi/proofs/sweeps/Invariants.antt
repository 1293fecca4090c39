use Prim.Native.Nat.{◌≤◌, ◌<◌, ◌-◌, ◌+◌}
use mathlib.Core.Path.{◌≡◌}
use Rattle.algebra.specs.Jacobi.{row_to, sweep_to, sweeps_to}
use Rattle.algebra_jacobi.specs.joints.States.{state_of}
use Rattle.algebra_jacobi.proofs.sweeps.Given as goal

abbrev pub invariant-loop-q : goal.invariant-loop-q
invariant-loop-q g l = (l.p < l.n) × (l.p + 1 ≤ l.q) × (l.q ≤ l.n) × (state_of l.out ≡ row_to g.T.Scalar.arith l.q l.limit 6 6 l.n l.p (state_of l.initial.out))

abbrev pub decreases-loop-q : goal.decreases-loop-q
decreases-loop-q g l = l.n - l.q

abbrev pub invariant-loop-p : goal.invariant-loop-p
invariant-loop-p g l = (l.i < 30) × (l.p ≤ l.n) × (state_of l.out ≡ sweep_to g.T.Scalar.arith l.p l.limit 6 6 l.n (state_of l.initial.out))

abbrev pub decreases-loop-p : goal.decreases-loop-p
decreases-loop-p g l = l.n - l.p

abbrev pub invariant-loop-i : goal.invariant-loop-i
invariant-loop-i g l = (l.i ≤ 30) × (state_of l.out ≡ sweeps_to g.T.Scalar.arith l.i l.limit 6 6 l.n (state_of l.initial.out))

abbrev pub decreases-loop-i : goal.decreases-loop-i
decreases-loop-i g l = 30 - l.i
