-- `adjustment_adjusted::u_terms::u_term` meets its contract.
use Rattle.adjustment.specs.Adjusted.{u_term}
use borrow.Author.Rules.{rules}
use Rattle.adjustment_adjusted.proofs.u_terms.u_term.Goals as goal

pub returns : goal.returns
unfolding u_term
returns c = cc
