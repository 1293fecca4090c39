-- `tests_basis::basis::basis_rows` meets its contract.
use Prim.Native.Nat.{◌≤◌, ◌-◌}
use mathlib.Core.Path.{◌≡◌}
use Rattle.algebra.specs.Table.{table}
use Rattle.tests.specs.Basis.{basis_rows}
use Rattle.algebra.proofs.FoldLaws.{fold_next}
use Rattle.algebra.proofs.TableLaws.{table_none}
use Rattle.algebra_products.proofs.LoopLaws.{table-end}
use borrow.Author.Rules.{rules}
use native.Mathlib.Omega.{arith}
use Rattle.tests_basis.proofs.basis.basis_rows.Goals as goal

pub loop-k-init : goal.loop-k-init
unfolding basis_rows
loop-k-init c = (omega arith, table_none _ _ _ _ _ _ c.zeros-out.ensures)

pub loop-k-preserved : goal.loop-k-preserved
unfolding basis_rows table
loop-k-preserved c = (omega arith, fold_next _ _ _ _ _ _ (omega arith) c.loop-k.invariant.1 (rw c.basis_row.ensures))

pub returns : goal.returns
unfolding basis_rows
returns c = table-end _ _ _ _ _ _ _ _ c.loop-k.invariant.0 c.loop-k-test.false c.loop-k.invariant.1
