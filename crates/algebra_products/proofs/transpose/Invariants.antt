use Prim.Native.Nat.{◌≤◌, ◌<◌, ◌-◌}
use mathlib.Core.Path.{◌≡◌}
use Rattle.algebra.specs.Table.{table}
use Rattle.algebra.specs.Kind.{zero_of}
use Rattle.algebra.specs.Product.{at}
use Rattle.algebra.proofs.TableLaws.{Filling}
use Rattle.algebra_products.proofs.transpose.Given as goal

abbrev pub invariant-loop-j : goal.invariant-loop-j
invariant-loop-j g l = (l.i < l.cols) × (l.j ≤ l.rows) × Filling (zero_of g.T.Scalar.arith) 6 6 (λ i j. at g.T.Scalar.arith l.a j i) l.rows l.i l.j l.initial.out l.out

abbrev pub decreases-loop-j : goal.decreases-loop-j
decreases-loop-j g l = l.rows - l.j

abbrev pub invariant-loop-i : goal.invariant-loop-i
invariant-loop-i g l = (l.i ≤ l.cols) × (l.out ≡ table (zero_of g.T.Scalar.arith) 6 6 l.i l.rows (λ i j. at g.T.Scalar.arith l.a j i))

abbrev pub decreases-loop-i : goal.decreases-loop-i
decreases-loop-i g l = l.cols - l.i
