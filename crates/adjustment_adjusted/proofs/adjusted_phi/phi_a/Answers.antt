-- `adjustment_adjusted::adjusted_phi::phi_a` meets its contract.
use lib.Ieee.{of_bits}
use Rattle.adjustment.proofs.AdjustedLaws.{phi_a-is}
use borrow.Author.Rules.{rules}
use Rattle.adjustment_adjusted.proofs.adjusted_phi.phi_a.Goals as goal

pub returns : goal.returns
unfolding of_bits
returns c = phi_a-is _ _ _ _ _ _ _ c.product-left.ensures c.product-gamma.ensures c.times_number-twice.ensures c.plus_cells.ensures
