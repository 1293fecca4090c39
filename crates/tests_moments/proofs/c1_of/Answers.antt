-- `tests_moments::c1_of` meets its contract.
use lib.Ieee.{of_bits}
use Rattle.tests.specs.Moments.{c1_of}
use borrow.Author.Rules.{rules}
use Rattle.tests_moments.proofs.c1_of.Goals as goal

pub returns-then-c-magnitude : goal.returns-then-c-magnitude
unfolding c1_of of_bits
returns-then-c-magnitude c = rw (← c.d_of-d.ensures, ← c.magnitude.ensures, c.if-c-magnitude.true, ← c.g_of.ensures)

pub returns : goal.returns
unfolding c1_of of_bits
returns c = rw (← c.d_of-d.ensures, ← c.magnitude.ensures, c.if-c-magnitude.false)
