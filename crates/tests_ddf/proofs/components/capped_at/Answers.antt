-- `tests_ddf::components::capped_at` meets its contract.
use Rattle.tests.specs.Satterthwaite.{capped}
use Rattle.tests_ddf.proofs.components.capped_at.Goals as goal

pub returns-then-c-x : goal.returns-then-c-x
unfolding capped
returns-then-c-x c = rw c.if-c-x.true

pub returns-else-c-x : goal.returns-else-c-x
unfolding capped
returns-else-c-x c = rw c.if-c-x.false
