-- `tests_moments::rank_one` meets its contract.
use Rattle.tests.specs.Moments.{rank_one}
use borrow.Author.Rules.{rules}
use Rattle.tests_moments.proofs.rank_one.Goals as goal

pub returns : goal.returns
unfolding rank_one
returns c = rw c.is_positive.ensures
