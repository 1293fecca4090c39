-- `tests_moments::scaling_of_df` meets its contract.
use lib.Ieee.{of_bits}
use Rattle.tests.specs.Moments.{scaling_at}
use borrow.Author.Rules.{rules}
use Rattle.tests_moments.proofs.scaling_of_df.Goals as goal

pub returns-then-magnitude-c : goal.returns-then-magnitude-c
unfolding scaling_at of_bits
returns-then-magnitude-c c = rw (← c.magnitude.ensures, c.if-magnitude-c.true)

pub returns : goal.returns
unfolding scaling_at of_bits
returns c = rw (← c.magnitude.ensures, c.if-magnitude-c.false, ← c.less_a2.ensures) c.number_of.ensures
