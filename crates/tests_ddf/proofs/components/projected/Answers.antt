-- `tests_ddf::components::projected` meets its contract.
use Rattle.tests.specs.Satterthwaite.{projected}
use borrow.Author.Rules.{rules}
use Rattle.tests_ddf.proofs.components.projected.Goals as goal

pub returns : goal.returns
unfolding projected
returns c = rw (← c.transpose-turned.ensures) c.product.ensures
