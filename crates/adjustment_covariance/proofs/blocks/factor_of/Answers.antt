-- `adjustment_covariance::blocks::factor_of` meets its contract.
use Prim.Native.Nat.{◌≤◌, ◌-◌}
use mathlib.Core.Path.{◌≡◌}
use lib.Ieee.{of_bits, binary64, mul}
use Rattle.algebra.specs.Kind.{floats}
use Rattle.algebra.specs.Product.{sum}
use Rattle.adjustment.specs.Blocks.{theta_cell, factor_of}
use Rattle.algebra_products.proofs.LoopLaws.{sum-none, sum_more, sum-end}
use native.Mathlib.Omega.{arith}
use Rattle.adjustment_covariance.proofs.blocks.factor_of.Goals as goal

pub loop-c-init : goal.loop-c-init
unfolding of_bits
loop-c-init c = (omega arith, sum-none floats _)

pub loop-c-preserved : goal.loop-c-preserved
loop-c-preserved c = (omega arith, sum_more floats _ _ _ _ c.loop-c.invariant.1 (rw (c.theta_cell.ensures, c.theta_cell-in-loop-c.ensures)))

pub returns : goal.returns
unfolding factor_of
returns c = sum-end floats _ _ _ _ c.loop-c.invariant.0 c.loop-c-test.false c.loop-c.invariant.1
