-- `arithmetic::plain::magnitude` meets its contract.
use lib.Ieee.{of_bits}
use Rattle.arithmetic.proofs.PlainLaws.{magnitude-zero, magnitude-negative, magnitude-positive}
use Rattle.arithmetic.proofs.plain.magnitude.Goals as goal

pub returns-then-x : goal.returns-then-x
unfolding of_bits
returns-then-x c = magnitude-zero _ c.well_formed.0.1 c.if-x.true

pub returns-then-x-2 : goal.returns-then-x-2
unfolding of_bits
returns-then-x-2 c = magnitude-negative _ c.if-x-2.true

pub returns-else-x-2 : goal.returns-else-x-2
unfolding of_bits
returns-else-x-2 c = magnitude-positive _ c.if-x.false c.if-x-2.false
