-- `tests_moments::g_of` meets its contract.
use lib.Ieee.{of_bits}
use Rattle.tests.specs.Moments.{g_of}
use borrow.Author.Rules.{rules}
use Rattle.tests_moments.proofs.g_of.Goals as goal

pub returns-then-c-magnitude : goal.returns-then-c-magnitude
unfolding g_of of_bits
returns-then-c-magnitude c = rw (← c.magnitude.ensures, c.if-c-magnitude.true, ← c.of_count.ensures, ← c.of_count-then-c-magnitude.ensures, ← c.of_count-then-c-magnitude-2.ensures)

pub returns : goal.returns
unfolding g_of of_bits
returns c = rw (← c.magnitude.ensures, c.if-c-magnitude.false)
