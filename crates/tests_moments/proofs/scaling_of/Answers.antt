-- `tests_moments::scaling_of` meets its contract.
use lib.Ieee.{of_bits}
use Rattle.tests.specs.Moments.{scaling_of}
use borrow.Author.Rules.{rules}
use Rattle.tests_moments.proofs.scaling_of.Goals as goal

pub returns-then-rank_one : goal.returns-then-rank_one
unfolding scaling_of of_bits
returns-then-rank_one c = rw (← c.rank_one.ensures, c.if-rank_one.true)

pub returns : goal.returns
unfolding scaling_of of_bits
returns c = rw (← c.rank_one.ensures, c.if-rank_one.false, ← c.general_df.ensures) c.scaling_at.ensures
