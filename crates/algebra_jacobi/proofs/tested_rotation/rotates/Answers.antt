-- `algebra_jacobi::tested_rotation::rotates` meets its contract.
use Rattle.algebra_jacobi.specs.joints.Tested.{rotates}
use Rattle.std.proofs.Common.{rules}
use Rattle.std.proofs.lemmas.Grind.{common_steps}
use Rattle.algebra_jacobi.proofs.tested_rotation.rotates.Goals as goal

pub returns : goal.returns
unfolding rotates
returns g c = search (rules, common_steps)
