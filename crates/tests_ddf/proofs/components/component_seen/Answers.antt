-- `tests_ddf::components::component_seen` meets its contract.
use borrow.Author.Rules.{rules}
use Rattle.tests_ddf.proofs.components.component_seen.Goals as goal

pub returns : goal.returns
returns c = rw (← c.gradient_at-gradient.ensures) c.gradient_seen.ensures
