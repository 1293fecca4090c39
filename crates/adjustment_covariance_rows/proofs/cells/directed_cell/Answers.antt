-- `adjustment_covariance_rows::cells::directed_cell` meets its contract.
use lib.Ieee.{of_bits}
use Rattle.algebra.specs.Kind.{floats}
use Rattle.adjustment.specs.Covariance.{directed_cell}
use Rattle.algebra_products.proofs.LoopLaws.{sum-none, sum_more, sum-end}
use native.Mathlib.Omega.{arith}
use Rattle.adjustment_covariance_rows.proofs.cells.directed_cell.Goals as goal

pub loop-a-init : goal.loop-a-init
unfolding of_bits
loop-a-init c = (omega arith, sum-none floats _)

pub loop-a-preserved : goal.loop-a-preserved
loop-a-preserved c = (omega arith, sum_more floats _ _ _ _ c.loop-a.invariant.1 (rw (c.cell_of.ensures, c.direction.ensures, c.group_column-j.ensures.0)))

pub returns : goal.returns
unfolding directed_cell
returns c = sum-end floats _ _ _ _ c.loop-a.invariant.0 c.loop-a-test.false c.loop-a.invariant.1
