-- `arithmetic_steps::lost_quotient` meets its contract.
use Rattle.arithmetic.specs.Marks.{lost_quotient}
use borrow.Author.Rules.{rules}
use Rattle.arithmetic_steps.proofs.lost_quotient.Goals as goal

pub returns : goal.returns
unfolding lost_quotient
returns c = rw (c.is_zero-2.ensures, c.is_zero.ensures)
