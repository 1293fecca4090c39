-- `arithmetic_steps::unsigned` meets its contract.
use Rattle.arithmetic.specs.Marks.{marked_magnitude}
use borrow.Author.Rules.{rules}
use Rattle.arithmetic_steps.proofs.unsigned.Goals as goal

pub returns : goal.returns
unfolding marked_magnitude
returns c = rw c.magnitude.ensures
