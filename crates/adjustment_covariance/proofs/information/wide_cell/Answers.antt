-- `adjustment_covariance::information::wide_cell` meets its contract.
use Prim.Native.Nat.{◌≤◌, ◌-◌}
use mathlib.Core.Path.{◌≡◌}
use lib.Ieee.{of_bits}
use Rattle.algebra.specs.Kind.{floats}
use Rattle.algebra.specs.Product.{cell}
use Rattle.algebra_large.specs.joints.Slab.{rows_at}
use Rattle.algebra_large.proofs.InPlace.{read_at}
use Rattle.algebra_products.proofs.LoopLaws.{sum-none, sum_more, sum-end}
use native.Mathlib.Omega.{arith}
use Rattle.adjustment_covariance.proofs.information.wide_cell.Goals as goal

pub loop-k-init : goal.loop-k-init
unfolding cell of_bits
loop-k-init c = (omega arith, sum-none floats _)

pub loop-k-preserved : goal.loop-k-preserved
unfolding cell
loop-k-preserved c = (
  omega arith,
  sum_more floats _ _ _ _ c.loop-k.invariant.1
      (rw (read_at _ _ _ _ _ _ _ _ c.requires.2 c.loop-k-test.true c.start-u.ensures.0, read_at _ _ _ _ _ _ _ _ c.loop-k-test.true c.requires.3 c.start-v.ensures.0)),
)

pub returns : goal.returns
unfolding cell
returns c = sum-end floats _ _ _ _ c.loop-k.invariant.0 c.loop-k-test.false c.loop-k.invariant.1
