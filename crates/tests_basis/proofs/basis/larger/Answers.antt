-- `tests_basis::basis::larger` meets its contract.
use Rattle.tests_basis.proofs.basis.larger.Goals as goal

pub returns-then-s-v : goal.returns-then-s-v
returns-then-s-v c = rw c.if-s-v.true

pub returns-else-s-v : goal.returns-else-s-v
returns-else-s-v c = rw c.if-s-v.false
