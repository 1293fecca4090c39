-- `adjustment_adjusted::adjusted_phi::u_of` meets its contract.
use Rattle.adjustment.proofs.AdjustedLaws.{u_rows-is}
use borrow.Author.Rules.{rules}
use Rattle.adjustment_adjusted.proofs.adjusted_phi.u_of.Goals as goal

pub returns : goal.returns
returns c = u_rows-is _ _ _ _ _ _ _ _ _ _ c.u_above-above.ensures c.transpose-below.ensures c.plus_cells-both.ensures c.u_diagonal.ensures
