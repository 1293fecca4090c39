-- `adjustment_adjusted::u_terms::u_term_at` meets its contract.
use borrow.Author.Rules.{rules}
use Rattle.adjustment_adjusted.proofs.u_terms.u_term_at.Goals as goal

pub returns : goal.returns
returns c = rw (← c.index_symmat2vec-at.ensures.0) c.u_term.ensures
