-- `tests_moments::v0_of` meets its contract.
use lib.Ieee.{of_bits}
use Rattle.tests.specs.Moments.{v0_of}
use borrow.Author.Rules.{rules}
use Rattle.tests_moments.proofs.v0_of.Goals as goal

pub returns : goal.returns
unfolding v0_of of_bits
returns c = rw (← c.c1_of.ensures, ← c.b_of.ensures) c.leading_of.ensures
