-- `tests_ddf::components::variance_at` meets its contract.
use borrow.Author.Rules.{rules}
use Rattle.tests_ddf.proofs.components.variance_at.Goals as goal

pub returns : goal.returns
returns c = rw c.index_at-i.ensures.0
