use Prim.Native.Nat.{◌≤◌, ◌<◌, ◌-◌}
use mathlib.Core.Path.{◌≡◌}
use Rattle.algebra_products.specs.joints.CellMarks.{column_mark, column_marks}
use Rattle.algebra_products.proofs.CellMarkLaws.{Adding, Added}
use Rattle.algebra_products.proofs.marked_product.column_marks.Given as goal

abbrev pub invariant-loop-k : goal.invariant-loop-k
invariant-loop-k l = (l.j < l.cols) × (l.k ≤ l.inner) × (l.mark ≡ column_mark l.k l.b l.j) × Adding l.b l.j l.initial.total l.k l.total

abbrev pub decreases-loop-k : goal.decreases-loop-k
decreases-loop-k l = l.inner - l.k

abbrev pub invariant-loop-j : goal.invariant-loop-j
invariant-loop-j l = (l.j ≤ l.cols) × (l.marks ≡ column_marks 6 l.j l.inner l.b) × Added l.inner l.b l.j l.total

abbrev pub decreases-loop-j : goal.decreases-loop-j
decreases-loop-j l = l.cols - l.j
