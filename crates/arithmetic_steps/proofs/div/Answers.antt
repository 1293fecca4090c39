-- `arithmetic_steps::div` meets its contract.
use Rattle.arithmetic.specs.Marks.{marked_div}
use borrow.Author.Rules.{rules}
use Rattle.arithmetic_steps.proofs.div.Goals as goal

pub returns : goal.returns
unfolding marked_div
returns c = rw (c.lost_quotient.ensures, c.step_mark.ensures)
