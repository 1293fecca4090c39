-- `algebra_large_inverse::back::back` meets its contract.
use Rattle.algebra_large_inverse.proofs.BackLaws.{back_done}
use borrow.Author.Rules.{rules}
use Rattle.algebra_large_inverse.proofs.back.back.Goals as goal

pub returns : goal.returns
returns c =
    let g = c.requires in
    back_done _ _ _ _ _ _ _ _ _ g.0 g.1.wide g.2 c.clear.ensures c.back_rows.ensures
