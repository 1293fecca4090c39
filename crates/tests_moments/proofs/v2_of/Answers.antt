-- `tests_moments::v2_of` meets its contract.
use lib.Ieee.{of_bits}
use Rattle.tests.specs.Moments.{v2_of}
use borrow.Author.Rules.{rules}
use Rattle.tests_moments.proofs.v2_of.Goals as goal

pub returns : goal.returns
unfolding v2_of of_bits
returns c = rw (← c.c3_of.ensures, ← c.b_of.ensures) c.leading_of.ensures
