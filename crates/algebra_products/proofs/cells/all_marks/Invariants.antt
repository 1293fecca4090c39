use Prim.Native.Nat.{◌≤◌, ◌<◌, ◌-◌}
use mathlib.Core.Path.{◌≡◌}
use Rattle.algebra.specs.Fold.{fold}
use Rattle.algebra_products.proofs.LoopLaws.{mark_step, rows_to}
use Rattle.algebra_products.proofs.cells.all_marks.Given as goal

abbrev pub invariant-loop-j : goal.invariant-loop-j
invariant-loop-j g l = (l.i < l.rows) × (l.j ≤ l.cols) × (l.all ≡ fold 0 l.j (mark_step g.T.Scalar.arith l.a l.i) l.initial.all)

abbrev pub decreases-loop-j : goal.decreases-loop-j
decreases-loop-j g l = l.cols - l.j

abbrev pub invariant-loop-i : goal.invariant-loop-i
invariant-loop-i g l = (l.i ≤ l.rows) × (l.all ≡ rows_to (mark_step g.T.Scalar.arith l.a) l.initial.all l.cols l.i)

abbrev pub decreases-loop-i : goal.decreases-loop-i
decreases-loop-i g l = l.rows - l.i
