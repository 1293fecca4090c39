-- `tests_moments::d_of` meets its contract.
use lib.Ieee.{of_bits}
use Rattle.tests.specs.Moments.{d_of}
use borrow.Author.Rules.{rules}
use Rattle.tests_moments.proofs.d_of.Goals as goal

pub returns : goal.returns
unfolding d_of of_bits
returns c = rw (← c.of_count.ensures, ← c.g_of.ensures)
