-- `adjustment_response_units::output_not_finite` meets its contract.
use Rattle.adjustment.proofs.AdjustedLaws.{output-is}
use borrow.Author.Rules.{rules}
use Rattle.adjustment_response_units.proofs.output_not_finite.Goals as goal

pub returns : goal.returns
returns c =
    λ k.
    output-is _ _ _ _ _ _ _ k _ _ _ _ _ c.not_all_finite-plain.ensures c.not_all_finite-inverse.ensures
    c.scaled_not_finite-before.ensures c.scaled_not_finite-after.ensures c.ps_not_finite-each.ensures
