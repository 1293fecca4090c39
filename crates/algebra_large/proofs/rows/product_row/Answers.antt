-- `algebra_large::rows::product_row` meets its contract.
use Rattle.algebra_large.proofs.ProductLaws.{gain-cleared}
use native.Mathlib.Omega.{arith}
use borrow.Author.Rules.{rules}
use Rattle.algebra_large.proofs.rows.product_row.Goals as goal

pub returns : goal.returns
returns c =
    let g = c.requires in
    gain-cleared _ _ _ _ _ _ _ _ _ _ _ g.c_in_bounds.0 g.apart.0 g.apart.1 (omega (arith, g.c_in_bounds.1.wide)) g.c_in_bounds.2.wide c.clear_row.ensures c.gain_rows.ensures
