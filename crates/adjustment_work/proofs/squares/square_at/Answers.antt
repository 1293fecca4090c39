-- `adjustment_work::squares::square_at` meets its contract.
use Prim.Native.Nat.{◌*◌}
use Rattle.adjustment_work.proofs.WorkLaws.{block_in}
use mathlib.Core.Path.{refl}
use native.Mathlib.Omega.{arith}
use Rattle.adjustment_work.proofs.squares.square_at.Goals as goal

pub overflow_mul-result-2 : goal.overflow_mul-result-2
overflow_mul-result-2 c = omega (arith, block_in (c.args.s * c.args.s) c.args.k c.args.len c.requires.0 c.requires.1)

pub returns : goal.returns
returns c = (refl, omega (arith, block_in (c.args.s * c.args.s) c.args.k c.args.len c.requires.0 c.requires.1))
