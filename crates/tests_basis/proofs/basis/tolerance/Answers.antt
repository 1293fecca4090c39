-- `tests_basis::basis::tolerance` meets its contract.
use lib.Ieee.{of_bits}
use Rattle.tests_basis.proofs.BasisLaws.{tolerance-is}
use borrow.Author.Rules.{rules}
use Rattle.tests_basis.proofs.basis.tolerance.Goals as goal

pub returns : goal.returns
unfolding of_bits
returns c = tolerance-is _ _ _ _ _ _ c.max.ensures c.of_count.ensures c.singular.ensures
