-- `adjustment_covariance::information::k_of` meets its contract.
use Rattle.adjustment.specs.Information.{k_cell}
use borrow.Author.Rules.{rules}
use Rattle.adjustment_covariance.proofs.information.k_of.Goals as goal

pub returns : goal.returns
unfolding k_cell
returns c = c.cross_sum.ensures
