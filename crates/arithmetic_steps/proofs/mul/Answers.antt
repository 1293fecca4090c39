-- `arithmetic_steps::mul` meets its contract.
use Rattle.arithmetic.specs.Marks.{marked_mul}
use borrow.Author.Rules.{rules}
use Rattle.arithmetic_steps.proofs.mul.Goals as goal

pub returns : goal.returns
unfolding marked_mul
returns c = rw (c.lost_product.ensures, c.step_mark.ensures)
