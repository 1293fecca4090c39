-- `adjustment_covariance_rows::cells::cell_of` meets its contract.
use Rattle.algebra_large.proofs.InPlace.{read_at}
use Rattle.adjustment_covariance_rows.proofs.cells.cell_of.Goals as goal

pub returns : goal.returns
returns c = read_at _ _ _ _ _ _ _ _ c.requires.1 c.requires.2 c.start-from.ensures.0
