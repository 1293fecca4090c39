-- `arithmetic_steps::square_root` meets its contract.
use Rattle.arithmetic.specs.Marks.{marked_root}
use borrow.Author.Rules.{rules}
use Rattle.arithmetic_steps.proofs.square_root.Goals as goal

pub returns : goal.returns
unfolding marked_root
returns c = rw (c.in_range-2.ensures, c.in_range.ensures, c.sqrt-r.ensures)
