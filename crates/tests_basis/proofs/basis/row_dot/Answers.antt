-- `tests_basis::basis::row_dot` meets its contract.
use Prim.Native.Nat.{◌≤◌, ◌-◌}
use mathlib.Core.Path.{◌≡◌, refl}
use lib.Ieee.{binary64, mul, of_bits}
use lib.ListN.{get_or}
use Rattle.algebra.specs.Kind.{floats}
use Rattle.algebra.specs.Product.{sum}
use Rattle.algebra_products.proofs.LoopLaws.{sum-none, sum_more, sum-end}
use native.Mathlib.Omega.{arith}
use Rattle.tests_basis.proofs.basis.row_dot.Goals as goal

pub loop-k-init : goal.loop-k-init
unfolding of_bits
loop-k-init c = (omega arith, sum-none floats _)

pub loop-k-preserved : goal.loop-k-preserved
loop-k-preserved c = (omega arith, sum_more floats _ _ _ _ c.loop-k.invariant.1 refl)

pub returns : goal.returns
returns c = sum-end floats _ _ _ _ c.loop-k.invariant.0 c.loop-k-test.false c.loop-k.invariant.1
