-- `tests_moments::less_a2` meets its contract.
use lib.Ieee.{of_bits}
use Rattle.tests.specs.Moments.{less_a2}
use borrow.Author.Rules.{rules}
use Rattle.tests_moments.proofs.less_a2.Goals as goal

pub returns : goal.returns
unfolding less_a2 of_bits
returns c = rw (← c.of_count.ensures)
