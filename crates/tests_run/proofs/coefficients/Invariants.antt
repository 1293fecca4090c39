use Prim.Native.Nat.{◌≤◌, ◌-◌}
use mathlib.Core.Path.{◌≡◌}
use Rattle.algebra.specs.Kind.{marks}
use Rattle.tests.specs.KenwardRoger.{coefficients_to}
use Rattle.tests_kr_modcomp.specs.joints.Parts.{scaled_of}
use Rattle.tests_run.proofs.coefficients.Given as goal

abbrev pub invariant-loop-i : goal.invariant-loop-i
invariant-loop-i l = (l.i ≤ l.s.p) × (l.run ≡ coefficients_to marks l.i l.c (scaled_of l.s l.ps) l.beta)

abbrev pub decreases-loop-i : goal.decreases-loop-i
decreases-loop-i l = l.s.p - l.i
