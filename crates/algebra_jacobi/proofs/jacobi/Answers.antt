-- `algebra_jacobi::jacobi` meets its contract.
use Rattle.algebra_jacobi.proofs.Counts.{jacobi-is}
use Rattle.algebra_jacobi.proofs.jacobi.Goals as goal

pub returns : goal.returns
returns g c = jacobi-is g.T.Scalar.arith _ _ _ _ _ _ _ _ c.mirrored-start.ensures c.identity-unit.ensures c.sweeps.ensures c.requires
