use Prim.Native.Nat.{◌≤◌, ◌<◌, ◌-◌}
use mathlib.Core.Path.{◌≡◌}
use Rattle.algebra.specs.Table.{table}
use Rattle.algebra.specs.Kind.{floats, zero_of}
use Rattle.algebra.specs.Product.{at}
use Rattle.algebra.proofs.TableLaws.{Filling}
use Rattle.algebra_products.proofs.cells.values.Given as goal

abbrev pub invariant-loop-j : goal.invariant-loop-j
invariant-loop-j g l = (l.i < l.rows) × (l.j ≤ l.cols) × Filling (zero_of floats) 6 6 (λ i j. g.T.Scalar.arith.value (at g.T.Scalar.arith l.a i j)) l.cols l.i l.j l.initial.out l.out

abbrev pub decreases-loop-j : goal.decreases-loop-j
decreases-loop-j g l = l.cols - l.j

abbrev pub invariant-loop-i : goal.invariant-loop-i
invariant-loop-i g l = (l.i ≤ l.rows) × (l.out ≡ table (zero_of floats) 6 6 l.i l.cols (λ i j. g.T.Scalar.arith.value (at g.T.Scalar.arith l.a i j)))

abbrev pub decreases-loop-i : goal.decreases-loop-i
decreases-loop-i g l = l.rows - l.i
