-- `tests_kr_modcomp::full_rank::theta_phi` meets its contract.
use borrow.Author.Rules.{rules}
use Rattle.tests_kr_modcomp.proofs.full_rank.theta_phi.Goals as goal

pub returns : goal.returns
returns c = rw (← c.theta_of-theta.ensures) c.product.ensures
