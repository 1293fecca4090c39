-- `adjustment_covariance_rows::rows::group_term` meets its contract.
use lib.Ieee.{of_bits}
use Rattle.algebra.specs.Kind.{floats}
use Rattle.algebra_products.proofs.LoopLaws.{sum-none, sum_more, sum-end}
use native.Mathlib.Omega.{arith}
use Rattle.adjustment_covariance_rows.proofs.rows.group_term.Goals as goal

pub loop-b-init : goal.loop-b-init
unfolding of_bits
loop-b-init g c = (omega arith, sum-none floats _)

pub loop-b-preserved : goal.loop-b-preserved
loop-b-preserved g c = (omega arith, sum_more floats _ _ _ _ c.loop-b.invariant.1 (rw c.cell_of.ensures))

pub returns : goal.returns
returns g c = sum-end floats _ _ _ _ c.loop-b.invariant.0 c.loop-b-test.false c.loop-b.invariant.1
