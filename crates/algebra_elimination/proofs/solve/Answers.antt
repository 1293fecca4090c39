-- `algebra_elimination::solve` meets its contract.
use native.Mathlib.Omega.{arith}
use Rattle.algebra_elimination.proofs.Steps.{solution-is, refused-is}
use Rattle.algebra_elimination.proofs.solve.Goals as goal

pub joined-start-requires : goal.joined-start-requires
joined-start-requires g c = omega (arith, g.met.T.Scalar.few_bytes)

pub eliminate-done-requires : goal.eliminate-done-requires
eliminate-done-requires g c = omega (arith, g.met.T.Scalar.few_bytes)

pub back-requires : goal.back-requires
back-requires g c = omega (arith, g.met.T.Scalar.few_bytes)

pub is_singular-requires : goal.is_singular-requires
is_singular-requires g c = omega (arith, g.met.T.Scalar.few_bytes)

pub returns : goal.returns
returns g c =
    let start = c.joined-start.ensures in
    let done = c.eliminate-done.ensures in
    let n = c.requires.0 in
    record { cells = solution-is g.T.Scalar.arith _ _ _ _ _ _ _ _ _ _ start done c.back.ensures; refused = refused-is g.T.Scalar.arith _ _ _ _ _ _ _ _ _ n start done c.is_singular.ensures }
