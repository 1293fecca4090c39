-- `algebra_elimination::pivoting::factor` meets its contract.
use Rattle.algebra.specs.Elimination.{factor}
use Rattle.std.proofs.Common.{rules}
use Rattle.std.proofs.lemmas.Grind.{common_steps}
use Rattle.algebra_elimination.proofs.pivoting.factor.Goals as goal

pub returns : goal.returns
unfolding factor
returns g c = search (rules, common_steps)
