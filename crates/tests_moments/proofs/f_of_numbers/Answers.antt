-- `tests_moments::f_of_numbers` meets its contract.
use Rattle.tests.specs.Moments.{f_of}
use borrow.Author.Rules.{rules}
use Rattle.tests_moments.proofs.f_of_numbers.Goals as goal

pub returns : goal.returns
unfolding f_of
returns c = rw (← c.of_count.ensures) c.number_of.ensures
