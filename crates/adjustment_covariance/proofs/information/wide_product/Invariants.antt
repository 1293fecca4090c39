use Prim.Native.Nat.{◌≤◌, ◌<◌, ◌-◌}
use mathlib.Core.Path.{◌≡◌}
use borrow.Author.Rules.{rules}
use Rattle.arithmetic.specs.Numbers.{plus_zero}
use Rattle.algebra.specs.Table.{table}
use Rattle.algebra.specs.Kind.{floats}
use Rattle.algebra.specs.Product.{cell, product}
use Rattle.algebra.proofs.TableLaws.{table_none, Filling, filling-none, filling-more, filling-row}
use Rattle.algebra_large.specs.joints.Slab.{rows_at}
use Rattle.algebra_products.proofs.LoopLaws.{table-end}
use native.Mathlib.Omega.{arith}
use Rattle.adjustment_covariance.proofs.information.wide_product.Given as goal

abbrev pub invariant-loop-b : goal.invariant-loop-b
invariant-loop-b l = (l.a < l.p) × (l.b ≤ l.p) × Filling plus_zero 6 6 (cell floats l.n (rows_at l.n l.e l.p l.n l.narrow) (rows_at 6 l.o l.n l.p l.narrow)) l.p l.a l.b l.initial.out l.out

abbrev pub decreases-loop-b : goal.decreases-loop-b
decreases-loop-b l = l.p - l.b

abbrev pub invariant-loop-a : goal.invariant-loop-a
invariant-loop-a l = (l.a ≤ l.p) × (l.out ≡ table plus_zero 6 6 l.a l.p (cell floats l.n (rows_at l.n l.e l.p l.n l.narrow) (rows_at 6 l.o l.n l.p l.narrow)))

abbrev pub decreases-loop-a : goal.decreases-loop-a
decreases-loop-a l = l.p - l.a
