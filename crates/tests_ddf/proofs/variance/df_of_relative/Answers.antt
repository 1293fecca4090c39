-- `tests_ddf::variance::df_of_relative` meets its contract.
use lib.Ieee.{of_bits}
use Rattle.tests.specs.VarianceDf.{df_of_relative}
use borrow.Author.Rules.{rules}
use Rattle.tests_ddf.proofs.variance.df_of_relative.Goals as goal

pub returns-then-is_positive : goal.returns-then-is_positive
unfolding df_of_relative of_bits
returns-then-is_positive c = rw (← c.is_positive.ensures, c.if-is_positive.true)

pub returns-else-is_positive : goal.returns-else-is_positive
unfolding df_of_relative
returns-else-is_positive c = rw (← c.is_positive.ensures, c.if-is_positive.false)
