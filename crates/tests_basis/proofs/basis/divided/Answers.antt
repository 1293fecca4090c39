-- `tests_basis::basis::divided` meets its contract.
use Prim.Native.Nat.{◌≤◌, ◌<◌, ◌-◌}
use mathlib.Core.Path.{◌≡◌}
use Rattle.algebra.specs.Kind.{marks}
use Rattle.algebra.specs.Table.{table}
use Rattle.arithmetic.specs.Numbers.{plus_zero}
use Rattle.arithmetic.specs.Marks.{given}
use Rattle.tests.specs.Basis.{divided_cell, divided}
use Rattle.algebra.proofs.TableLaws.{table_none, Filling, filling-none, filling-more, filling-row}
use Rattle.algebra_products.proofs.LoopLaws.{table-end}
use borrow.Author.Rules.{rules}
use native.Mathlib.Omega.{arith}
use Rattle.tests_basis.proofs.basis.divided.Goals as goal

pub loop-i-init : goal.loop-i-init
loop-i-init c = (omega arith, table_none _ _ _ _ _ _ c.zeros-out.ensures)

pub loop-j-init : goal.loop-j-init
loop-j-init c = (omega arith, omega arith, filling-none (omega arith) c.loop-i.invariant.1)

pub loop-j-preserved : goal.loop-j-preserved
loop-j-preserved c = (omega arith, omega arith, filling-more (omega arith) c.loop-j.invariant.2 c.divided_cell.ensures)

pub loop-i-preserved : goal.loop-i-preserved
loop-i-preserved c = (omega arith, filling-row c.loop-j.invariant.2 c.loop-j.invariant.1 c.loop-j-test.false)

pub returns : goal.returns
unfolding divided
returns c = table-end _ _ _ _ _ _ _ _ c.loop-i.invariant.0 c.loop-i-test.false c.loop-i.invariant.1
