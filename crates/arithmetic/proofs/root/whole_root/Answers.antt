-- `arithmetic::root::whole_root` meets its contract: the guess where it is kept, and the digits otherwise.
use native.Mathlib.Omega.{arith}
use Prim.Native.Nat.{◌+◌, ◌*◌, ◌<◌, ◌≤◌, ◌^◌}
use Rattle.arithmetic.proofs.RootGuess.{kept, places}
use Rattle.arithmetic.proofs.root.whole_root.Goals as goal

pub overflow_mul-t : goal.overflow_mul-t
overflow_mul-t c = omega (arith, places (c.guess-g.result * 2) c.further-k.result (omega arith) (omega arith))

pub overflow_add-t-then-t-rem : goal.overflow_add-t-then-t-rem
overflow_add-t-then-t-rem c = omega (arith, places (c.guess-g.result * 2) c.further-k.result (omega arith) (omega arith))

pub overflow_add-t-then-t-rem-2 : goal.overflow_add-t-then-t-rem-2
overflow_add-t-then-t-rem-2 c = omega (arith, places (c.guess-g.result * 2) c.further-k.result (omega arith) (omega arith))

pub returns-then-rem-t : goal.returns-then-rem-t
returns-then-rem-t c =
    let g = c.guess-g.result in
    let k = c.further-k.result in
    let rem = c.remainder-rem.result in
    let few : k * (g * 2 + k) < 2 ^ 58 = places (g * 2) k (omega arith) (omega arith) in
    let low : k * (g * 2 + k) ≤ rem = omega arith in
    let high : rem ≤ k * (g * 2 + k) + g * 2 + k * 2 = omega arith in
    let small : rem < 2 ^ 63 = omega arith in
    kept c.args.a g k rem (omega arith) (c.remainder-rem.ensures small) low high
