-- `tests_ddf::variance::no_marks` meets its contract.
use borrow.Author.Rules.{rules}
use Rattle.tests_ddf.proofs.variance.no_marks.Goals as goal

pub returns : goal.returns
returns c = rw c.zero_of-zero.ensures
