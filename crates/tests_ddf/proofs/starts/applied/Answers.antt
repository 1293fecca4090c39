-- `tests_ddf::starts::applied` meets its contract.
use borrow.Author.Rules.{rules}
use Rattle.tests_ddf.proofs.starts.applied.Goals as goal

pub returns : goal.returns
returns c = rw (← c.column-b.ensures) c.product.ensures
