use Prim.Native.Nat.{◌≤◌, ◌-◌}
use mathlib.Core.Path.{◌≡◌}
use Rattle.tests.specs.Basis.{sweep_to}
use Rattle.algebra.proofs.FoldLaws.{fold_start, fold_next, fold_end}
use native.Mathlib.Omega.{arith}
use Rattle.tests_basis.proofs.basis.sweep.Given as goal

abbrev pub invariant-loop-i : goal.invariant-loop-i
invariant-loop-i l = (l.i ≤ l.rows) × (l.out ≡ sweep_to l.i l.rows l.p l.initial.out)

abbrev pub decreases-loop-i : goal.decreases-loop-i
decreases-loop-i l = l.rows - l.i
