-- `arithmetic::plain::is_zero` meets its contract.
use mathlib.Core.Path.{refl}
use lib.Ieee.{of_bits}
use Rattle.arithmetic.specs.Numbers.{is_zero}
use Rattle.arithmetic.proofs.plain.is_zero.Goals as goal

pub returns : goal.returns
unfolding is_zero of_bits
returns c = refl
