use Prim.Native.Nat.{◌≤◌, ◌<◌, ◌-◌}
use mathlib.Core.Path.{◌≡◌}
use Rattle.algebra.specs.Table.{table}
use Rattle.algebra.specs.Kind.{zero_of}
use Rattle.algebra.specs.Product.{cell}
use Rattle.algebra_products.proofs.RowLaws.{Summing}
use Rattle.algebra_products.proofs.by_rows.Given as goal

abbrev pub invariant-loop-k : goal.invariant-loop-k
invariant-loop-k g l = (l.i < l.rows) × (l.k ≤ l.inner) × Summing g.T.Scalar.arith 6 6 l.inner l.cols l.a l.b l.i l.k l.initial.out l.out

abbrev pub decreases-loop-k : goal.decreases-loop-k
decreases-loop-k g l = l.inner - l.k

abbrev pub invariant-loop-i : goal.invariant-loop-i
invariant-loop-i g l = (l.i ≤ l.rows) × (l.out ≡ table (zero_of g.T.Scalar.arith) 6 6 l.i l.cols (cell g.T.Scalar.arith l.inner l.a l.b))

abbrev pub decreases-loop-i : goal.decreases-loop-i
decreases-loop-i g l = l.rows - l.i
