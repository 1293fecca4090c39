-- `tests_moments::b_of` meets its contract.
use lib.Ieee.{of_bits}
use Rattle.tests.specs.Moments.{b_of}
use borrow.Author.Rules.{rules}
use Rattle.tests_moments.proofs.b_of.Goals as goal

pub returns : goal.returns
unfolding b_of of_bits
returns c = rw (← c.of_count.ensures)
