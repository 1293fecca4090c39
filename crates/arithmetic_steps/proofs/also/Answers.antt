-- `arithmetic_steps::also` meets its contract.
use mathlib.Core.Path.{refl}
use Rattle.arithmetic.specs.Marks.{also}
use Rattle.arithmetic_steps.proofs.also.Goals as goal

pub returns : goal.returns
unfolding also
returns c = refl
