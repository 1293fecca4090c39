-- `tests_ddf::components::float_of` meets its contract.
use lib.Ieee.{div, of_bits}
use borrow.Author.Rules.{rules}
use Rattle.tests_ddf.proofs.components.float_of.Goals as goal

pub returns : goal.returns
unfolding of_bits div
returns c = c.unwrap_or.ensures
