-- `tests_ddf::components::square_over` meets its contract.
use borrow.Author.Rules.{rules}
use Rattle.tests_ddf.proofs.components.square_over.Goals as goal

pub returns : goal.returns
returns c = rw (← c.mul.ensures) c.div.ensures
