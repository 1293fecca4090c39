-- `adjustment_covariance::blocks::direction` meets its contract.
use lib.Ieee.{of_bits}
use Rattle.adjustment.specs.Blocks.{direction}
use Rattle.adjustment_covariance.proofs.blocks.direction.Goals as goal

pub returns-then-a-t : goal.returns-then-a-t
unfolding direction of_bits
returns-then-a-t c = rw c.if-a-t.true

pub returns : goal.returns
unfolding direction of_bits
returns c = rw c.if-a-t.false
