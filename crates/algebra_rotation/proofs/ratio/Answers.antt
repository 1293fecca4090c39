-- `algebra_rotation::ratio` meets its contract.
use lib.Ieee.{of_bits}
use Rattle.algebra.specs.Jacobi.{ratio}
use Rattle.algebra_rotation.proofs.ratio.Goals as goal

pub returns : goal.returns
unfolding ratio of_bits
returns g c = rw (c.over.ensures, c.times.ensures, c.of.ensures, c.minus.ensures)
