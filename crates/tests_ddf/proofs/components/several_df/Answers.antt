-- `tests_ddf::components::several_df` meets its contract.
use Rattle.tests.specs.Satterthwaite.{several_df}
use borrow.Author.Rules.{rules}
use Rattle.tests_ddf.proofs.components.several_df.Goals as goal

pub returns-then-any_none : goal.returns-then-any_none
unfolding several_df
returns-then-any_none c = rw (← c.any_none.ensures, c.if-any_none.true)

pub returns : goal.returns
unfolding several_df
returns c = rw (← c.any_none.ensures, c.if-any_none.false, ← c.tolerance.ensures, ← c.get_fstat_ddf.ensures) c.number_of.ensures
