-- `arithmetic::plain::to_bits` meets its contract.
use mathlib.Core.Path.{refl}
use Rattle.arithmetic.proofs.PlainLaws.{bits_of_nan, is_number}
use Rattle.arithmetic.proofs.plain.to_bits.Goals as goal

pub returns-then-x : goal.returns-then-x
returns-then-x c = bits_of_nan _ c.if-x.true

pub float_to_bits-result : goal.float_to_bits-result
float_to_bits-result c = is_number _ c.if-x.false

pub returns : goal.returns
returns c = refl
