-- `adjustment_adjusted::information::ie_cell` meets its contract.
use lib.Ieee.{of_bits}
use Rattle.adjustment.specs.Information.{ie_cell}
use borrow.Author.Rules.{rules}
use Rattle.adjustment_adjusted.proofs.information.ie_cell.Goals as goal

pub returns : goal.returns
unfolding ie_cell of_bits
returns c = cc
