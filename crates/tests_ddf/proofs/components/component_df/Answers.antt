-- `tests_ddf::components::component_df` meets its contract.
use Rattle.tests.specs.Satterthwaite.{component_df}
use borrow.Author.Rules.{rules}
use Rattle.tests_ddf.proofs.components.component_df.Goals as goal

pub returns : goal.returns
unfolding component_df
returns c = rw (← c.gradient_at-gradient.ensures, ← c.variance_df-df.ensures) c.capped.ensures
