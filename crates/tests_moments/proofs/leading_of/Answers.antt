-- `tests_moments::leading_of` meets its contract.
use lib.Ieee.{of_bits}
use Rattle.tests.specs.Moments.{leading_of}
use borrow.Author.Rules.{rules}
use Rattle.tests_moments.proofs.leading_of.Goals as goal

pub returns-then-magnitude-c : goal.returns-then-magnitude-c
unfolding leading_of of_bits
returns-then-magnitude-c c = rw (← c.magnitude.ensures, c.if-magnitude-c.true)

pub returns : goal.returns
unfolding leading_of of_bits
returns c = rw (← c.magnitude.ensures, c.if-magnitude-c.false)
