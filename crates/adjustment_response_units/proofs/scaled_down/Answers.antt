-- `adjustment_response_units::scaled_down` meets its contract.
use Rattle.adjustment.specs.Adjusted.{scaled_down}
use borrow.Author.Rules.{rules}
use Rattle.adjustment_response_units.proofs.scaled_down.Goals as goal

pub returns : goal.returns
unfolding scaled_down
returns c = cc
