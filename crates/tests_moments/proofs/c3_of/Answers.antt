-- `tests_moments::c3_of` meets its contract.
use lib.Ieee.{of_bits}
use Rattle.tests.specs.Moments.{c3_of}
use borrow.Author.Rules.{rules}
use Rattle.tests_moments.proofs.c3_of.Goals as goal

pub returns : goal.returns
unfolding c3_of of_bits
returns c = rw (← c.of_count.ensures, ← c.g_of.ensures, ← c.d_of.ensures)
