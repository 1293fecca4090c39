-- `tests_moments::a1_of` meets its contract.
use Rattle.tests_moments.proofs.MomentLaws.{a1-is}
use borrow.Author.Rules.{rules}
use Rattle.tests_moments.proofs.a1_of.Goals as goal

pub returns : goal.returns
returns c = a1-is _ _ _ _ _ c.requires.0 c.traces-ts.ensures _ c.a1_sum.ensures
