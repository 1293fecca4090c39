-- `algebra_rotation::tangent` meets its contract.
use lib.Ieee.{of_bits}
use Rattle.algebra.specs.Jacobi.{tangent}
use Rattle.algebra_rotation.proofs.tangent.Goals as goal

pub returns : goal.returns
unfolding tangent of_bits
returns g c = rw (c.over.ensures, c.plus-2.ensures, c.unsigned.ensures, c.of-2.ensures, c.sign.ensures, c.value.ensures, c.root-root.ensures, c.plus.ensures, c.of.ensures, c.times.ensures)
