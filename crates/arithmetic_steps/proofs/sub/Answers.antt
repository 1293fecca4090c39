-- `arithmetic_steps::sub` meets its contract.
use Rattle.arithmetic.specs.Marks.{marked_sub}
use borrow.Author.Rules.{rules}
use Rattle.arithmetic_steps.proofs.sub.Goals as goal

pub returns : goal.returns
unfolding marked_sub
returns c = rw c.step_mark.ensures
