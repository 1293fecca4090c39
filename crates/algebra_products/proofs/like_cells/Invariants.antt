use Prim.Native.Nat.{◌≤◌, ◌<◌, ◌-◌}
use mathlib.Core.Path.{◌≡◌}
use Rattle.algebra.specs.Kind.{zero_of}
use Rattle.algebra.specs.Fold.{fold}
use Rattle.algebra_products.proofs.LoopLaws.{like_step, rows_to}
use Rattle.algebra_products.proofs.like_cells.Given as goal

abbrev pub invariant-loop-j : goal.invariant-loop-j
invariant-loop-j g l = (l.i < l.rows) × (l.j ≤ l.cols) × (l.sum ≡ fold 0 l.j (like_step g.T.Scalar.arith l.a l.b l.i) l.initial.sum)

abbrev pub decreases-loop-j : goal.decreases-loop-j
decreases-loop-j g l = l.cols - l.j

abbrev pub invariant-loop-i : goal.invariant-loop-i
invariant-loop-i g l = (l.i ≤ l.rows) × (l.sum ≡ rows_to (like_step g.T.Scalar.arith l.a l.b) (zero_of g.T.Scalar.arith) l.cols l.i)

abbrev pub decreases-loop-i : goal.decreases-loop-i
decreases-loop-i g l = l.rows - l.i
