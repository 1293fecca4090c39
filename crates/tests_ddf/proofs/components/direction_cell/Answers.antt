-- `tests_ddf::components::direction_cell` meets its contract.
use borrow.Author.Rules.{rules}
use Rattle.tests_ddf.proofs.components.direction_cell.Goals as goal

pub returns : goal.returns
returns c = rw c.index_at-i.ensures.0
