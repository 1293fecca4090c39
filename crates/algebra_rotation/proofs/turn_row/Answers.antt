-- `algebra_rotation::turn_row` meets its contract.
use Rattle.algebra.specs.Jacobi.{turn_row}
use Rattle.std.proofs.Common.{rules}
use Rattle.std.proofs.lemmas.Grind.{common_steps}
use Rattle.algebra_rotation.proofs.turn_row.Goals as goal

pub returns : goal.returns
unfolding turn_row
returns g c = search (rules, common_steps)
