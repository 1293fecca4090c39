-- `tests_ddf::components::squares_over` meets its contract.
use Rattle.tests.specs.Satterthwaite.{squares_over}
use borrow.Author.Rules.{rules}
use Rattle.tests_ddf.proofs.components.squares_over.Goals as goal

pub returns : goal.returns
unfolding squares_over
returns c = rw (← c.squares_sum.ensures, ← c.of_count.ensures, ← c.given.ensures) c.div.ensures
