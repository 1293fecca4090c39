-- `tests_moments::v1_of` meets its contract.
use lib.Ieee.{of_bits}
use Rattle.tests.specs.Moments.{v1_of}
use borrow.Author.Rules.{rules}
use Rattle.tests_moments.proofs.v1_of.Goals as goal

pub returns : goal.returns
unfolding v1_of of_bits
returns c = rw (← c.c2_of.ensures, ← c.b_of.ensures)
