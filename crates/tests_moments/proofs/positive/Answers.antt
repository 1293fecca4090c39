-- `tests_moments::positive` meets its contract.
use lib.Ieee.{of_bits}
use Rattle.tests.specs.Moments.{positive}
use Rattle.tests_moments.proofs.positive.Goals as goal

pub returns-then-x : goal.returns-then-x
unfolding positive of_bits
returns-then-x c = rw c.if-x.true

pub returns-else-x : goal.returns-else-x
unfolding positive of_bits
returns-else-x c = rw c.if-x.false
