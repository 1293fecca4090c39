-- `adjustment_adjusted::information::w_of` meets its contract.
use Rattle.adjustment.specs.Information.{w_refused}
use Rattle.adjustment.proofs.InformationLaws.{w_rows-is}
use borrow.Author.Rules.{rules}
use Rattle.adjustment_adjusted.proofs.information.w_of.Goals as goal

pub returns : goal.returns
unfolding w_refused
returns c = record { value = w_rows-is _ _ _ _ c.inverse-v.ensures.cells c.doubled.ensures; zero_pivot_after = c.inverse-v.ensures.refused }
