-- `algebra_large_inverse::back::invert` meets its contract.
use Rattle.algebra_large_inverse.proofs.InverseLaws.{invert-done, singular-done}
use borrow.Author.Rules.{rules}
use Rattle.algebra_large_inverse.proofs.back.invert.Goals as goal

pub returns : goal.returns
returns c = let g = c.requires in record { work_after = invert-done _ _ _ _ _ _ _ _ _ _ g.holds.1 c.join.ensures c.eliminate.ensures c.back.ensures; value = singular-done _ _ _ _ _ _ _ _ g.holds.1 c.join.ensures c.eliminate.ensures c.is_singular-z.ensures }
