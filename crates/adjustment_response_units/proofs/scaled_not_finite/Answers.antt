-- `adjustment_response_units::scaled_not_finite` meets its contract.
use borrow.Author.Rules.{rules}
use Rattle.adjustment_response_units.proofs.scaled_not_finite.Goals as goal

pub returns : goal.returns
returns c = cc
