-- `arithmetic_steps::seen_of` meets its contract.
use mathlib.Core.Path.{refl}
use lib.Ieee.{of_bits}
use Rattle.arithmetic_steps.proofs.seen_of.Goals as goal

pub returns : goal.returns
unfolding of_bits
returns c = refl
