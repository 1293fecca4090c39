-- `algebra_rotation::turned_second` meets its contract.
use Rattle.algebra.specs.Jacobi.{turned_second}
use Rattle.algebra_rotation.proofs.turned_second.Goals as goal

pub returns : goal.returns
unfolding turned_second
returns g c = rw (c.plus.ensures, c.times-2.ensures, c.times.ensures)
