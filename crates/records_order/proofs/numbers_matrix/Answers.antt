-- `records_order::numbers_matrix` meets its contract.
use Rattle.records.specs.format.Order.{numbers_matrix}
use Rattle.records_order.proofs.numbers_matrix.Goals as goal

pub returns : goal.returns
unfolding numbers_matrix
returns c = cc
