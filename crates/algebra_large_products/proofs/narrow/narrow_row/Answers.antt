-- `algebra_large_products::narrow::narrow_row` meets its contract.
use Rattle.algebra_large_products.proofs.NarrowLaws.{by-cleared}
use borrow.Author.Rules.{rules}
use Rattle.algebra_large_products.proofs.narrow.narrow_row.Goals as goal

pub returns : goal.returns
returns c = by-cleared _ _ _ _ _ _ _ _ _ _ _ _ _ c.requires.0 c.clear_row.ensures c.gain_all.ensures
