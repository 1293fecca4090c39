-- `tests_moments::rho_root` meets its contract.
use borrow.Author.Rules.{rules}
use Rattle.tests_moments.proofs.rho_root.Goals as goal

pub returns : goal.returns
returns c = rw (← c.less_a2.ensures, ← c.v1_of.ensures) c.div_zero.ensures
