-- `tests_kr_modcomp::full_rank::u_of` meets its contract.
use Rattle.tests.specs.KenwardRoger.{u_of}
use borrow.Author.Rules.{rules}
use Rattle.tests_kr_modcomp.proofs.full_rank.u_of.Goals as goal

pub returns : goal.returns
unfolding u_of
returns c = rw (← c.product-left.ensures) c.product.ensures
