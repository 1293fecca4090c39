-- `tests_ddf::variance::variance_df` meets its contract.
use Rattle.tests.specs.VarianceDf.{variance_df}
use borrow.Author.Rules.{rules}
use Rattle.tests_ddf.proofs.variance.variance_df.Goals as goal

pub returns-then-is_positive : goal.returns-then-is_positive
unfolding variance_df
returns-then-is_positive c = rw (← c.is_positive.ensures, c.if-is_positive.true, ← c.relative_gradient-g.ensures, ← c.qform_grad.ensures) c.df_of_relative.ensures

pub returns : goal.returns
unfolding variance_df
returns c = rw (← c.is_positive.ensures, c.if-is_positive.false)
