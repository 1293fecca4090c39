-- `tests_moments::rho_of` meets its contract.
use lib.Ieee.{of_bits}
use Rattle.tests.specs.Moments.{rho_of}
use borrow.Author.Rules.{rules}
use Rattle.tests_moments.proofs.rho_of.Goals as goal

pub returns : goal.returns
unfolding rho_of of_bits
returns c = rw (← c.rho_root-root.ensures, ← c.rho_factor-factor.ensures, ← c.of_count.ensures)
