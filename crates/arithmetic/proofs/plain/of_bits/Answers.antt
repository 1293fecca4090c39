-- `arithmetic::plain::of_bits` meets its contract.
use mathlib.Core.Path.{refl}
use lib.Ieee.{of_bits, div}
use Rattle.arithmetic.proofs.PlainLaws.{bits-nan, bits-number}
use Rattle.arithmetic.proofs.plain.of_bits.Goals as goal

pub returns-then-b-gt9218868437227405312 : goal.returns-then-b-gt9218868437227405312
unfolding of_bits div
returns-then-b-gt9218868437227405312 c = bits-nan _ c.if-b-gt9218868437227405312.true

pub float_from_bits-result : goal.float_from_bits-result
float_from_bits-result c = bits-number _ c.if-b-gt9218868437227405312.false

pub returns : goal.returns
returns c = refl
