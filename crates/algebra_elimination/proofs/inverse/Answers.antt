-- `algebra_elimination::inverse` meets its contract.
use Rattle.algebra_elimination.proofs.inverse.Goals as goal

pub returns : goal.returns
returns g c =
    let start = c.identity-b.ensures in
    let solved = c.solve.ensures in
    record { cells = rw start at solved.cells; refused = rw start at solved.refused }
