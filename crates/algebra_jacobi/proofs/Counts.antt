-- The bounds of the counts that the loops keep, and the sweeps from their start, for any kind of number.
use Prim.Native.Nat.{ℕ, ◌+◌, ◌*◌, ◌≤◌}
use native.Mathlib.Omega.{arith}
use native.Mathlib.Nat.{mul-le-mul_left}
use mathlib.Core.Path.{◌≡◌}
use mathlib.Core.List.{List}
use lib.Ieee.{Float}
use Rattle.algebra.specs.Kind.{Arith, zero_of}
use Rattle.algebra.specs.Product.{identity}
use Rattle.algebra.specs.Jacobi.{State, row_to, sweep_to, sweeps_to, mirrored, jacobi}
use Rattle.algebra.proofs.JacobiCount.{pairs_small, row_count, sweep-count, sweeps-count, jacobi-at-most}

module _ {A : Type 0} (N : Arith A) (limit : Float) (R C n : ℕ) where
  -- the counts on the way
  pub row-limit : (k p : ℕ) (x y : State A) → y ≡ row_to N k limit R C n p x → p + 1 ≤ k → y.count + (p + 1) ≤ x.count + k
  row-limit k p x y e h = rw e (row_count N limit R C n k p x h)

  pub sweep-limit : (k : ℕ) (x y : State A) → y ≡ sweep_to N k limit R C n x → k ≤ n → n ≤ 6 → y.count ≤ x.count + 15
  sweep-limit k x y e h l = rw e (omega (arith, sweep-count N limit R C n k x h, pairs_small n l))

  pub sweeps-limit : (k : ℕ) (x y : State A) → y ≡ sweeps_to N k limit R C n x → n ≤ 6 → y.count ≤ x.count + k * 15
  sweeps-limit k x y e l = rw e (omega (arith, sweeps-count N limit R C n k x, mul-le-mul_left k (pairs_small n l)))

  -- all of it
  pub jacobi-is : (m a v : List (List A)) (y : State A) → a ≡ mirrored N R C n m → v ≡ identity N R C n
      → y ≡ sweeps_to N 30 limit R C n (record { a = a; v = v; count = 0; seen = zero_of N }) → n ≤ 6 → (y ≡ jacobi N limit R C n m) × (y.count ≤ 450)
  unfolding jacobi
  jacobi-is m a v y ea ev ey l =
      let e : y ≡ jacobi N limit R C n m = rw (ea, ev) at ey in
      (e, rw e (jacobi-at-most N limit R C n m l))
