-- `algebra_rotation::sine` meets its contract.
use Rattle.algebra.specs.Jacobi.{sine}
use Rattle.algebra_rotation.proofs.sine.Goals as goal

pub returns : goal.returns
unfolding sine
returns g c = c.times.ensures
