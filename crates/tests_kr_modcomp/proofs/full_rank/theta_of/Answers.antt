-- `tests_kr_modcomp::full_rank::theta_of` meets its contract.
use Rattle.tests.specs.KenwardRoger.{theta_of}
use borrow.Author.Rules.{rules}
use Rattle.tests_kr_modcomp.proofs.full_rank.theta_of.Goals as goal

pub returns : goal.returns
unfolding theta_of
returns c = rw (← c.transpose-turned.ensures) c.product.ensures
