use Prim.Native.Nat.{◌≤◌, ◌-◌, ◌+◌}
use mathlib.Core.Path.{◌≡◌}
use lib.ListN.{get_or, set}
use Rattle.algebra.specs.Fold.{fold}
use Rattle.algebra.specs.Table.{row}
use Rattle.algebra.specs.Kind.{zero_of}
use Rattle.algebra_elimination.specs.joints.Parts.{joined_cell}
use Rattle.algebra_elimination.proofs.joined_row.Given as goal

abbrev pub invariant-loop-j : goal.invariant-loop-j
invariant-loop-j g l = (l.j ≤ l.n) × (l.out ≡ row (zero_of g.T.Scalar.arith) 12 l.j (joined_cell g.T.Scalar.arith l.n l.a l.b))

abbrev pub decreases-loop-j : goal.decreases-loop-j
decreases-loop-j g l = l.n - l.j

abbrev pub invariant-loop-k : goal.invariant-loop-k
invariant-loop-k g l = (l.k ≤ l.cols) × (l.out ≡ fold 0 l.k (λ k y. set y (l.n + k) (get_or l.b k g.T.Scalar.arith.void)) l.initial.out)

abbrev pub decreases-loop-k : goal.decreases-loop-k
decreases-loop-k g l = l.cols - l.k
