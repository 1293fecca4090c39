-- `tests_moments::df_of` meets its contract.
use lib.Ieee.{of_bits}
use Rattle.tests.specs.Moments.{df_of}
use borrow.Author.Rules.{rules}
use Rattle.tests_moments.proofs.df_of.Goals as goal

pub returns-then-rank_one : goal.returns-then-rank_one
unfolding df_of of_bits
returns-then-rank_one c = rw (← c.rank_one.ensures, c.if-rank_one.true)

pub returns : goal.returns
unfolding df_of of_bits
returns c = rw (← c.rank_one.ensures, c.if-rank_one.false) c.general_df.ensures
