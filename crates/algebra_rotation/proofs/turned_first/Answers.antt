-- `algebra_rotation::turned_first` meets its contract.
use Rattle.algebra.specs.Jacobi.{turned_first}
use Rattle.algebra_rotation.proofs.turned_first.Goals as goal

pub returns : goal.returns
unfolding turned_first
returns g c = rw (c.minus.ensures, c.times-2.ensures, c.times.ensures)
