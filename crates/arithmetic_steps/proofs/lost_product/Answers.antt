-- `arithmetic_steps::lost_product` meets its contract.
use Rattle.arithmetic.specs.Marks.{lost_product}
use borrow.Author.Rules.{rules}
use Rattle.arithmetic_steps.proofs.lost_product.Goals as goal

pub returns : goal.returns
unfolding lost_product
returns c = rw (c.is_zero-3.ensures, c.is_zero-2.ensures, c.is_zero.ensures)
