-- `tests_ddf::components::gradient_at` meets its contract.
use Rattle.tests.specs.Satterthwaite.{gradient_at}
use borrow.Author.Rules.{rules}
use Rattle.tests_ddf.proofs.components.gradient_at.Goals as goal

pub returns : goal.returns
unfolding gradient_at
returns c = rw (← c.transpose-turned.ensures) c.gradient_of.ensures
