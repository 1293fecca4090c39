-- `algebra_products::zeros` meets its contract.
use lib.Ieee.{of_bits}
use Rattle.algebra.specs.Table.{blank}
use Rattle.algebra_products.proofs.zeros.Goals as goal

pub returns : goal.returns
unfolding blank of_bits
returns g c = rw c.of.ensures
