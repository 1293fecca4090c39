use Prim.Native.Nat.{◌≤◌, ◌<◌, ◌-◌, ◌+◌}
use mathlib.Core.Path.{◌≡◌}
use Rattle.algebra.specs.Kind.{floats}
use Rattle.algebra.specs.Elimination.{pivot_row}
use Rattle.algebra.proofs.FoldLaws.{fold_start, fold_next, fold_end}
use Rattle.algebra_large.specs.joints.Slab.{rows_at}
use native.Mathlib.Omega.{arith}
use Rattle.algebra_large_inverse.proofs.solve.find_pivot.Given as goal

abbrev pub invariant-loop-r : goal.invariant-loop-r
invariant-loop-r l = (l.c + 1 ≤ l.r) × (l.r ≤ l.n) × (l.best < l.n) × (l.best ≡ pivot_row floats l.r l.c (rows_at l.s l.a l.n l.w l.work))

abbrev pub decreases-loop-r : goal.decreases-loop-r
decreases-loop-r l = l.n - l.r
