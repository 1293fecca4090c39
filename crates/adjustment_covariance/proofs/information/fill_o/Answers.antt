-- `adjustment_covariance::information::fill_o` meets its contract.
use Rattle.adjustment.specs.Information.{o_rows}
use borrow.Author.Rules.{rules}
use Rattle.adjustment_covariance.proofs.information.fill_o.Goals as goal

pub returns : goal.returns
unfolding o_rows
returns c = c.times_narrow.ensures
