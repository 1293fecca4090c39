use Prim.Native.Nat.{◌≤◌, ◌-◌}
use mathlib.Core.Path.{◌≡◌, refl}
use lib.Ieee.{of_bits}
use Rattle.algebra.specs.Kind.{marks}
use Rattle.algebra.specs.Table.{row}
use Rattle.algebra.proofs.FoldLaws.{fold_start, fold_next, fold_end}
use Rattle.tests.specs.Satterthwaite.{eigenvalues}
use native.Mathlib.Omega.{arith}
use Rattle.tests_ddf.proofs.components.eigenvalues.Given as goal

abbrev pub invariant-loop-i : goal.invariant-loop-i
invariant-loop-i l = (l.i ≤ l.q) × (l.out ≡ eigenvalues marks l.i l.d)

abbrev pub decreases-loop-i : goal.decreases-loop-i
decreases-loop-i l = l.q - l.i
