-- `arithmetic_steps::with_product` meets its contract.
use borrow.Author.Rules.{rules}
use Rattle.arithmetic_steps.proofs.with_product.Goals as goal

pub returns : goal.returns
returns c = rw (c.in_range-2.ensures, c.lost_product.ensures, c.in_range.ensures)
