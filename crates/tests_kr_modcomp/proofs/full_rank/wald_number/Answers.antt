-- `tests_kr_modcomp::full_rank::wald_number` meets its contract.
use Rattle.tests_kr_modcomp.specs.joints.Parts.{wald_number_of}
use borrow.Author.Rules.{rules}
use Rattle.tests_kr_modcomp.proofs.full_rank.wald_number.Goals as goal

pub returns-then-one_row-is_positive : goal.returns-then-one_row-is_positive
unfolding wald_number_of
returns-then-one_row-is_positive c = rw (← c.is_positive.ensures, c.if-one_row-is_positive.true)

pub returns : goal.returns
unfolding wald_number_of
returns c = rw (← c.is_positive.ensures, c.if-one_row-is_positive.false) c.number_of.ensures
