-- `tests_moments::div_zero` meets its contract.
use lib.Ieee.{of_bits}
use Rattle.tests.specs.Moments.{div_of}
use borrow.Author.Rules.{rules}
use Rattle.tests_moments.proofs.div_zero.Goals as goal

pub returns-then-magnitude-c : goal.returns-then-magnitude-c
unfolding div_of of_bits
returns-then-magnitude-c c = rw (← c.magnitude.ensures, c.if-magnitude-c.true)

pub returns : goal.returns
unfolding div_of of_bits
returns c = rw (← c.magnitude.ensures, c.if-magnitude-c.false)
