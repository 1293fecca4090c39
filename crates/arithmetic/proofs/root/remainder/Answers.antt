-- `arithmetic::root::remainder` meets its contract.
use Prim.Native.Nat.{◌/◌, ◌%◌}
use native.Mathlib.Omega.{arith}
use Rattle.arithmetic.proofs.RootGuess.{halves, left_is}
use Rattle.arithmetic.proofs.root.remainder.Goals as goal

pub overflow_mul-upper : goal.overflow_mul-upper
overflow_mul-upper c = omega (arith, halves (c.args.g / 134217728) (c.args.g / 134217728) (omega arith) (omega arith))

pub overflow_mul-upper-2 : goal.overflow_mul-upper-2
overflow_mul-upper-2 c = omega (arith, halves (c.args.g / 134217728) (c.args.g / 134217728) (omega arith) (omega arith))

pub overflow_mul-cross : goal.overflow_mul-cross
overflow_mul-cross c =
    let g = c.args.g in
    omega (arith, halves (g / 134217728) (g % 134217728) (omega arith) (omega arith))

pub overflow_mul-lower : goal.overflow_mul-lower
overflow_mul-lower c =
    let g = c.args.g in
    omega (arith, halves (g % 134217728) (g % 134217728) (omega arith) (omega arith))

pub returns : goal.returns
returns c small =
    let p = c.args in
    left_is p.a p.g c.if-a-upper.false c.if-d-cross.false c.if-e-lower.false
