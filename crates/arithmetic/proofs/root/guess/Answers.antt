-- `arithmetic::root::guess` meets its contract.
use Prim.Native.Nat.{◌^◌, ◌/◌, ◌-◌, ◌%◌, ◌≤◌}
use native.Mathlib.Omega.{arith}
use lib.Dec.{le→leb}
use lib.Ieee.{in_float}
use Rattle.arithmetic.proofs.PlainLaws.{bits-number}
use Rattle.arithmetic.proofs.root.guess.Goals as goal

pub int_to_float-z : goal.int_to_float-z
unfolding in_float
int_to_float-z c =
    let h : c.args.a / 2048 ≤ 2 ^ 53 = omega arith in
    le→leb (c.args.a / 2048) (2 ^ 53) h

pub float_from_bits-y0 : goal.float_from_bits-y0
float_from_bits-y0 c =
    let b = 6908217610613372841 - c.to_bits.result / 2 % 4611686018427387904 in
    let h : b % 2 ^ 63 ≤ 9218868437227405312 = omega arith in
    bits-number b h
