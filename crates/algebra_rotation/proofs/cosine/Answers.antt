-- `algebra_rotation::cosine` meets its contract.
use lib.Ieee.{of_bits}
use Rattle.algebra.specs.Jacobi.{cosine}
use Rattle.algebra_rotation.proofs.cosine.Goals as goal

pub returns : goal.returns
unfolding cosine of_bits
returns g c = rw (c.over.ensures, c.root.ensures, c.plus.ensures, c.of-2.ensures, c.times.ensures, c.of.ensures)
