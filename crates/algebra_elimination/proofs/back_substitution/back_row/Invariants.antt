use Prim.Native.Nat.{◌≤◌, ◌-◌, ◌+◌}
use mathlib.Core.Path.{◌≡◌}
use Rattle.algebra.specs.Kind.{zero_of}
use Rattle.algebra.specs.Table.{row}
use Rattle.algebra_elimination.specs.joints.BackSubstitution.{less_known, known_cell}
use Rattle.algebra_elimination.proofs.back_substitution.back_row.Given as goal

abbrev pub invariant-loop-j : goal.invariant-loop-j
invariant-loop-j g l = (l.i + 1 ≤ l.j) × (l.j ≤ l.n) × (l.sum ≡ less_known g.T.Scalar.arith l.n l.j l.a l.x l.i l.k)

abbrev pub decreases-loop-j : goal.decreases-loop-j
decreases-loop-j g l = l.n - l.j

abbrev pub invariant-loop-k : goal.invariant-loop-k
invariant-loop-k g l = (l.k ≤ l.cols) × (l.out ≡ row (zero_of g.T.Scalar.arith) 6 l.k (known_cell g.T.Scalar.arith l.n l.a l.x l.i))

abbrev pub decreases-loop-k : goal.decreases-loop-k
decreases-loop-k g l = l.cols - l.k
