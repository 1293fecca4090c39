-- `tests_moments::f_of` meets its contract.
use Rattle.tests.specs.Moments.{f_of}
use borrow.Author.Rules.{rules}
use Rattle.tests_moments.proofs.f_of.Goals as goal

pub returns-in_err-scaling : goal.returns-in_err-scaling
unfolding f_of
returns-in_err-scaling c = rw c.in_err-scaling.was c.from_residual.ensures

pub returns-in_err-wald : goal.returns-in_err-wald
unfolding f_of
returns-in_err-wald c = rw (c.in_ok-scaling.was, c.in_err-wald.was) c.from_residual-in_err-wald.ensures
