-- `tests_basis::basis::rank_of` meets its contract.
use Rattle.tests_basis.proofs.BasisLaws.{rank_is}
use borrow.Author.Rules.{rules}
use Rattle.tests_basis.proofs.basis.rank_of.Goals as goal

pub returns : goal.returns
returns c = (rank_is _ _ _ _ _ _ c.tolerance-limit.ensures c.min.ensures c.above.ensures.0, c.above.ensures.1)
