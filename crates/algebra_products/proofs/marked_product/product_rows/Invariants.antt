use Prim.Native.Nat.{◌≤◌, ◌<◌, ◌-◌}
use mathlib.Core.Path.{◌≡◌}
use mathlib.Core.List.{[]}
use lib.ListN.{get_or}
use Rattle.algebra.specs.Table.{table}
use Rattle.algebra.specs.Kind.{marks, zero_of}
use Rattle.algebra.specs.Product.{at, cell}
use Rattle.algebra.proofs.TableLaws.{Filling}
use Rattle.algebra_products.proofs.RowLaws.{Gaining}
use Rattle.algebra_products.specs.joints.CellMarks.{results}
use Rattle.algebra_products.proofs.CellMarkLaws.{RowSums}
use Rattle.algebra_products.proofs.marked_product.product_rows.Given as goal

abbrev pub invariant-loop-j : goal.invariant-loop-j
invariant-loop-j l = (l.i < l.rows) × (l.k < l.inner) × (l.j ≤ l.cols) × (l.v ≡ (at marks l.a l.i l.k).value) × Gaining results l.initial.sums (at marks l.a l.i l.k) (get_or l.b l.k []) l.j l.sums

abbrev pub decreases-loop-j : goal.decreases-loop-j
decreases-loop-j l = l.cols - l.j

abbrev pub invariant-loop-k : goal.invariant-loop-k
invariant-loop-k l = (l.i < l.rows) × (l.k ≤ l.inner) × RowSums 6 l.cols l.a l.b l.i l.k l.sums l.row

abbrev pub decreases-loop-k : goal.decreases-loop-k
decreases-loop-k l = l.inner - l.k

abbrev pub invariant-loop-j-2 : goal.invariant-loop-j-2
invariant-loop-j-2 l = (l.i < l.rows) × (l.j ≤ l.cols) × Filling (zero_of marks) 6 6 (cell marks l.inner l.a l.b) l.cols l.i l.j l.initial.out l.out

abbrev pub decreases-loop-j-2 : goal.decreases-loop-j-2
decreases-loop-j-2 l = l.cols - l.j

abbrev pub invariant-loop-i : goal.invariant-loop-i
invariant-loop-i l = (l.i ≤ l.rows) × (l.out ≡ table (zero_of marks) 6 6 l.i l.cols (cell marks l.inner l.a l.b))

abbrev pub decreases-loop-i : goal.decreases-loop-i
decreases-loop-i l = l.rows - l.i
