-- `adjustment_adjusted::phi_a_of` meets its contract.
use borrow.Author.Rules.{rules}
use Rattle.adjustment_adjusted.proofs.phi_a_of.Goals as goal

pub returns : goal.returns
returns c = (cc)
