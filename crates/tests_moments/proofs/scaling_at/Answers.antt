-- `tests_moments::scaling_at` meets its contract.
use Rattle.tests.specs.Moments.{scaling_at}
use borrow.Author.Rules.{rules}
use Rattle.tests_moments.proofs.scaling_at.Goals as goal

pub returns-in_err-df : goal.returns-in_err-df
unfolding scaling_at
returns-in_err-df c = rw c.in_err-df.was c.from_residual.ensures
