-- `tests_moments::rho_factor` meets its contract.
use borrow.Author.Rules.{rules}
use Rattle.tests_moments.proofs.rho_factor.Goals as goal

pub returns : goal.returns
returns c = rw (← c.v0_of.ensures, ← c.v2_of.ensures) c.div_zero.ensures
