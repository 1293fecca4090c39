use Prim.Native.Nat.{◌≤◌, ◌-◌}
use mathlib.Core.Path.{◌≡◌, refl}
use lib.Ieee.{binary64, mul, of_bits}
use lib.ListN.{get_or}
use Rattle.algebra.specs.Kind.{floats}
use Rattle.algebra.specs.Product.{sum}
use Rattle.algebra_products.proofs.LoopLaws.{sum-none, sum_more, sum-end}
use native.Mathlib.Omega.{arith}
use Rattle.tests_basis.proofs.basis.row_dot.Given as goal

abbrev pub invariant-loop-k : goal.invariant-loop-k
invariant-loop-k l = (l.k ≤ l.p) × (l.sum ≡ sum floats l.k (λ k. mul binary64 (get_or l.x k floats.void) (get_or l.y k floats.void)))

abbrev pub decreases-loop-k : goal.decreases-loop-k
decreases-loop-k l = l.p - l.k
