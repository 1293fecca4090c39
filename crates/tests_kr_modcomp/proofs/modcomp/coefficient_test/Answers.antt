-- `tests_kr_modcomp::modcomp::coefficient_test` meets its contract.
use lib.Ieee.{of_bits}
use Rattle.tests_kr_modcomp.proofs.ByBasis.{coefficient-is}
use borrow.Author.Rules.{rules}
use Rattle.tests_kr_modcomp.proofs.modcomp.coefficient_test.Goals as goal

pub returns : goal.returns
unfolding of_bits
returns c = coefficient-is _ _ _ _ _ _ c.unit_row.ensures c.kr_modcomp_test.ensures
