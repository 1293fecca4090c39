-- `tests_moments::a2_term` meets its contract.
use borrow.Author.Rules.{rules}
use Rattle.tests_moments.proofs.a2_term.Goals as goal

pub returns : goal.returns
returns c = rw (c.weight.ensures, c.sum_ui_t_uj.ensures)
