-- `tests_basis::basis::singular` meets its contract.
use Rattle.tests.specs.Basis.{singular}
use borrow.Author.Rules.{rules}
use Rattle.tests_basis.proofs.basis.singular.Goals as goal

pub returns : goal.returns
unfolding singular
returns c = rw c.index_at-i.ensures.0
