-- `tests_ddf::components::capped` meets its contract.
use Rattle.tests.specs.Satterthwaite.{capped}
use borrow.Author.Rules.{rules}
use Rattle.tests_ddf.proofs.components.capped.Goals as goal

pub returns-in_err-df : goal.returns-in_err-df
unfolding capped
returns-in_err-df c = rw c.in_err-df.was c.from_residual.ensures
