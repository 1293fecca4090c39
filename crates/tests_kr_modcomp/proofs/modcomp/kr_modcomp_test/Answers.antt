-- `tests_kr_modcomp::modcomp::kr_modcomp_test` meets its contract.
use Rattle.tests_kr_modcomp.proofs.ByBasis.{contrast-is}
use borrow.Author.Rules.{rules}
use Rattle.tests_kr_modcomp.proofs.modcomp.kr_modcomp_test.Goals as goal

pub returns : goal.returns
returns c = contrast-is _ _ _ _ _ _ _ _ c.contrast_basis-basis.ensures.0 c.kr_modcomp_full_rank.ensures
