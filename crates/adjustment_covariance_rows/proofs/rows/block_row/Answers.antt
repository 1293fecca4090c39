-- `adjustment_covariance_rows::rows::block_row` meets its contract.
use Rattle.adjustment.specs.Covariance.{block_cell}
use Rattle.adjustment_covariance_rows.proofs.RowLaws.{terms-cleared}
use Rattle.adjustment_covariance_rows.proofs.rows.block_row.Goals as goal

pub returns : goal.returns
unfolding block_cell
returns c = terms-cleared _ _ _ _ _ _ _ c.requires.0 c.clear_row.ensures c.gain_groups.ensures
