use Prim.Native.Nat.{◌≤◌, ◌-◌}
use mathlib.Core.Path.{◌≡◌}
use Rattle.algebra.specs.Table.{table}
use Rattle.tests.specs.Basis.{basis_rows}
use Rattle.algebra.proofs.FoldLaws.{fold_next}
use Rattle.algebra.proofs.TableLaws.{table_none}
use Rattle.algebra_products.proofs.LoopLaws.{table-end}
use borrow.Author.Rules.{rules}
use native.Mathlib.Omega.{arith}
use Rattle.tests_basis.proofs.basis.basis_rows.Given as goal

abbrev pub invariant-loop-k : goal.invariant-loop-k
invariant-loop-k l = (l.k ≤ l.rank) × (l.out ≡ basis_rows l.rows l.p l.k l.m l.ns)

abbrev pub decreases-loop-k : goal.decreases-loop-k
decreases-loop-k l = l.rank - l.k
