-- `algebra_large_inverse::solve::eliminate_column` meets its contract.
use Rattle.algebra_large_inverse.proofs.EliminationLaws.{rows-paired, column-done}
use native.Mathlib.Omega.{arith}
use borrow.Author.Rules.{rules}
use Rattle.algebra_large_inverse.proofs.solve.eliminate_column.Goals as goal

pub swap_rows-requires : goal.swap_rows-requires
swap_rows-requires c =
    let g = c.requires in
    (omega arith, omega arith, rows-paired _ _ _ _ _ _ _ _ g.1 c.find_pivot-b.ensures.1 g.0.wide c.start-p.ensures.0 c.start-q.ensures.0)

pub returns : goal.returns
returns c =
    let g = c.requires in
    column-done _ _ _ _ _ _ _ _ _ _ _ g.0 g.1 c.find_pivot-b.ensures.0 c.start-p.ensures.0 c.start-q.ensures.0 c.swap_rows.ensures c.clear_below.ensures
