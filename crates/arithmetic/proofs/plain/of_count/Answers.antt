-- `arithmetic::plain::of_count` meets its contract.
use mathlib.Core.Path.{refl}
use Prim.Native.Nat.{◌^◌}
use lib.Dec.{le→leb}
use lib.Ieee.{in_float}
use Rattle.arithmetic.specs.Numbers.{of_count}
use Rattle.arithmetic.proofs.plain.of_count.Goals as goal

pub int_to_float-result : goal.int_to_float-result
unfolding in_float
int_to_float-result c = le→leb c.args.n (2 ^ 53) c.requires

pub returns : goal.returns
unfolding of_count
returns c = refl
