-- `tests_moments::excess_of` meets its contract.
use lib.Ieee.{of_bits}
use borrow.Author.Rules.{rules}
use Rattle.tests_moments.proofs.excess_of.Goals as goal

pub returns : goal.returns
unfolding of_bits
returns c = rw (← c.of_count.ensures, ← c.rho_of.ensures)
