-- `adjustment_stacks::upper_half` meets its contract.
use Rattle.adjustment_work.specs.joints.Steps.{ie_at, upper_cell, upper}
use Rattle.algebra_products.proofs.LoopLaws.{table-end}
use Rattle.algebra.specs.Table.{table}
use Rattle.algebra.proofs.TableLaws.{table_none, Filling, filling-none, filling-more, filling-row}
use Rattle.arithmetic.specs.Numbers.{plus_zero}
use borrow.Author.Rules.{rules}
use native.Mathlib.Omega.{arith}
use mathlib.Core.Path.{◌≡◌}
use Prim.Native.Nat.{◌≤◌, ◌<◌, ◌-◌}
use Rattle.adjustment_stacks.proofs.upper_half.Goals as goal

pub loop-r-init : goal.loop-r-init
loop-r-init c = (omega arith, table_none _ _ _ _ _ _ c.zeros-out.ensures)

pub loop-t-init : goal.loop-t-init
loop-t-init c = (omega arith, omega arith, filling-none (omega (arith, c.requires.3)) c.loop-r.invariant.1)

pub upper_cell-requires : goal.upper_cell-requires
upper_cell-requires c = let g = c.requires in (g.0, g.1, g.2, g.3, omega arith, omega arith)

pub offset_bounds-out-r : goal.offset_bounds-out-r
offset_bounds-out-r c = omega (arith, c.requires.3)

pub offset_bounds-out-t : goal.offset_bounds-out-t
offset_bounds-out-t c = omega (arith, c.requires.3)

pub bounds-out-r : goal.bounds-out-r
bounds-out-r c = omega (arith, c.requires.3)

pub bounds-out-t : goal.bounds-out-t
bounds-out-t c = omega (arith, c.requires.3)

pub loop-t-preserved : goal.loop-t-preserved
loop-t-preserved c = (omega arith, omega arith, filling-more (omega (arith, c.requires.3)) c.loop-t.invariant.2 c.upper_cell.ensures)

pub loop-r-preserved : goal.loop-r-preserved
loop-r-preserved c = (omega arith, filling-row c.loop-t.invariant.2 c.loop-t.invariant.1 c.loop-t-test.false)

pub returns : goal.returns
unfolding upper
returns c = table-end _ _ _ _ _ _ _ _ c.loop-r.invariant.0 c.loop-r-test.false c.loop-r.invariant.1
