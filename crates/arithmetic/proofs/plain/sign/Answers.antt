-- `arithmetic::plain::sign` meets its contract.
use mathlib.Core.Path.{ap, sym}
use mathlib.Core.Bool.{Bool, cond}
use lib.Ieee.{of_bits, neg}
use Rattle.arithmetic.specs.Numbers.{sign, one, minus_one}
use Rattle.arithmetic.proofs.plain.sign.Goals as goal

pub returns-then-x : goal.returns-then-x
unfolding sign of_bits neg
returns-then-x c = sym (ap (λ (b : Bool). cond b minus_one one) c.if-x.true)

pub returns-else-x : goal.returns-else-x
unfolding sign of_bits
returns-else-x c = sym (ap (λ (b : Bool). cond b minus_one one) c.if-x.false)
