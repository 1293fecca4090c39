-- `tests_ddf::starts::transformed` meets its contract.
use Rattle.tests.specs.Satterthwaite.{transformed}
use borrow.Author.Rules.{rules}
use Rattle.tests_ddf.proofs.starts.transformed.Goals as goal

pub returns : goal.returns
unfolding transformed
returns c = rw (← c.given_cells-inner.ensures) c.sandwich.ensures
