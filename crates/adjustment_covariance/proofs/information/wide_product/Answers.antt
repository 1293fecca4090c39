-- `adjustment_covariance::information::wide_product` meets its contract.
use Prim.Native.Nat.{◌≤◌, ◌<◌, ◌-◌}
use mathlib.Core.Path.{◌≡◌}
use borrow.Author.Rules.{rules}
use Rattle.arithmetic.specs.Numbers.{plus_zero}
use Rattle.algebra.specs.Table.{table}
use Rattle.algebra.specs.Kind.{floats}
use Rattle.algebra.specs.Product.{cell, product}
use Rattle.algebra.proofs.TableLaws.{table_none, Filling, filling-none, filling-more, filling-row}
use Rattle.algebra_large.specs.joints.Slab.{rows_at}
use Rattle.algebra_products.proofs.LoopLaws.{table-end}
use native.Mathlib.Omega.{arith}
use Rattle.adjustment_covariance.proofs.information.wide_product.Goals as goal

pub loop-a-init : goal.loop-a-init
loop-a-init c = (omega arith, table_none _ _ _ _ _ _ c.zeros-out.ensures)

pub loop-b-init : goal.loop-b-init
loop-b-init c = (omega arith, omega arith, filling-none (omega (arith, c.requires.1.wide)) c.loop-a.invariant.1)

pub wide_cell-requires : goal.wide_cell-requires
wide_cell-requires c = (c.requires.0, c.requires.1, omega arith, omega arith)

pub offset_bounds-out-a : goal.offset_bounds-out-a
offset_bounds-out-a c = omega (arith, c.requires.1.wide)

pub offset_bounds-out-b : goal.offset_bounds-out-b
offset_bounds-out-b c = omega (arith, c.requires.1.wide)

pub bounds-out-a : goal.bounds-out-a
bounds-out-a c = omega (arith, c.requires.1.wide)

pub bounds-out-b : goal.bounds-out-b
bounds-out-b c = omega (arith, c.requires.1.wide)

pub loop-b-preserved : goal.loop-b-preserved
loop-b-preserved c = (omega arith, omega arith, filling-more (omega (arith, c.requires.1.wide)) c.loop-b.invariant.2 c.wide_cell.ensures)

pub loop-a-preserved : goal.loop-a-preserved
loop-a-preserved c = (omega arith, filling-row c.loop-b.invariant.2 c.loop-b.invariant.1 c.loop-b-test.false)

pub returns : goal.returns
unfolding product
returns c = table-end _ _ _ _ _ _ _ _ c.loop-a.invariant.0 c.loop-a-test.false c.loop-a.invariant.1
