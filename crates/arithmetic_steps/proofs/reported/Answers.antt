-- `arithmetic_steps::reported` meets its contract.
use borrow.Author.Rules.{rules}
use Rattle.arithmetic_steps.proofs.reported.Goals as goal

pub returns : goal.returns
returns c = rw c.in_range.ensures
