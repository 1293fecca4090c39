use Prim.Native.Nat.{◌≤◌, ◌-◌}
use mathlib.Core.Path.{◌≡◌}
use Rattle.algebra.specs.Kind.{marks}
use Rattle.tests.specs.Both.{stack_seen}
use Rattle.tests.proofs.both.stack_seen.Given as goal

abbrev pub invariant-loop-i : goal.invariant-loop-i
invariant-loop-i l = (l.i ≤ l.n) × (l.all ≡ stack_seen marks l.i l.q l.ms l.initial.all)

abbrev pub decreases-loop-i : goal.decreases-loop-i
decreases-loop-i l = l.n - l.i
