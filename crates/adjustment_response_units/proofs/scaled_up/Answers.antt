-- `adjustment_response_units::scaled_up` meets its contract.
use Rattle.adjustment.specs.Adjusted.{scaled_up}
use borrow.Author.Rules.{rules}
use Rattle.adjustment_response_units.proofs.scaled_up.Goals as goal

pub returns : goal.returns
unfolding scaled_up
returns c = cc
