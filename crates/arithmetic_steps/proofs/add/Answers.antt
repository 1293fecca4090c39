-- `arithmetic_steps::add` meets its contract.
use Rattle.arithmetic.specs.Marks.{marked_add}
use borrow.Author.Rules.{rules}
use Rattle.arithmetic_steps.proofs.add.Goals as goal

pub returns : goal.returns
unfolding marked_add
returns c = rw c.step_mark.ensures
