-- `adjustment_covariance::information::p_of` meets its contract.
use Prim.Native.Nat.{◌≤◌, ◌<◌, ◌-◌}
use mathlib.Core.Path.{◌≡◌, sym, ap, ◌∙◌}
use lib.Ieee.{Float, of_bits, neg, binary64, mul}
use borrow.Author.Rules.{rules}
use Rattle.arithmetic.specs.Numbers.{plus_zero, minus_one}
use Rattle.algebra.specs.Table.{table}
use Rattle.algebra.specs.Kind.{floats}
use Rattle.algebra.specs.Product.{at, product, transpose}
use Rattle.algebra.proofs.TableLaws.{table_none, Filling, filling-none, filling-more, filling-row}
use Rattle.algebra_large.specs.joints.Slab.{rows_at}
use Rattle.adjustment.specs.Information.{p_rows}
use Rattle.algebra_products.proofs.LoopLaws.{table-end}
use Rattle.adjustment_covariance.proofs.GainLaws.{small-product-at}
use native.Mathlib.Omega.{arith}
use Rattle.adjustment_covariance.proofs.information.p_of.Goals as goal

pub loop-a-init : goal.loop-a-init
loop-a-init c = (omega arith, table_none _ _ _ _ _ _ c.zeros-out.ensures)

pub loop-b-init : goal.loop-b-init
loop-b-init c = (omega arith, omega arith, filling-none (omega (arith, c.requires.0.wide)) c.loop-a.invariant.1)

pub cross_cell-requires : goal.cross_cell-requires
cross_cell-requires c = (c.requires.0, c.requires.1, omega arith, omega arith)

pub offset_bounds-out-a : goal.offset_bounds-out-a
offset_bounds-out-a c = omega (arith, c.requires.0.wide)

pub offset_bounds-out-b : goal.offset_bounds-out-b
offset_bounds-out-b c = omega (arith, c.requires.0.wide)

pub bounds-out-a : goal.bounds-out-a
bounds-out-a c = omega (arith, c.requires.0.wide)

pub bounds-out-b : goal.bounds-out-b
bounds-out-b c = omega (arith, c.requires.0.wide)

pub loop-b-preserved : goal.loop-b-preserved
unfolding of_bits neg
loop-b-preserved c = (
  omega arith,
  omega arith,
  filling-more (omega (arith, c.requires.0.wide)) c.loop-b.invariant.2
      (ap (λ (x : Float). mul binary64 minus_one x) (c.cross_cell.ensures ∙ sym (small-product-at _ _ _ _ _ _ c.requires.0.wide (omega arith) (omega arith)))),
)

pub loop-a-preserved : goal.loop-a-preserved
loop-a-preserved c = (omega arith, filling-row c.loop-b.invariant.2 c.loop-b.invariant.1 c.loop-b-test.false)

pub returns : goal.returns
unfolding p_rows
returns c = table-end _ _ _ _ _ _ _ _ c.loop-a.invariant.0 c.loop-a-test.false c.loop-a.invariant.1
