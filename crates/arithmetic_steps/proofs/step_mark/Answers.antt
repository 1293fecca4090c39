-- `arithmetic_steps::step_mark` meets its contract.
use Rattle.arithmetic.specs.Marks.{step_mark}
use borrow.Author.Rules.{rules}
use Rattle.arithmetic_steps.proofs.step_mark.Goals as goal

pub returns : goal.returns
unfolding step_mark
returns c = rw (c.in_range-3.ensures, c.in_range-2.ensures, c.in_range.ensures)
