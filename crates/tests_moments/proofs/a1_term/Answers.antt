-- `tests_moments::a1_term` meets its contract.
use borrow.Author.Rules.{rules}
use Rattle.tests_moments.proofs.a1_term.Goals as goal

pub returns : goal.returns
returns c = rw c.weight.ensures
