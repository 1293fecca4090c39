-- How many rotations Jacobi's sweeps make, whatever the kind of number. `rotate_tested` adds one to the count exactly where it rotates, and nothing else
-- changes the count, so the count is the number of rotations made; here it is bounded by the number of pairs.
use Prim.Native.Nat.{ℕ, zero, suc, ◌+◌, ◌-◌, ◌*◌, ◌/◌, ◌≤◌, ◌<◌}
use native.Mathlib.Omega.{arith}
use native.Mathlib.Nat.{le_refl, mul-le-mul}
use mathlib.Core.Path.{◌≡◌, refl}
use mathlib.Core.Bool.{Bool, true, false}
use mathlib.Core.List.{List}
use lib.Ieee.{Float, lt}
use Rattle.arithmetic.specs.Numbers.{is_zero}
use Rattle.algebra.specs.Kind.{Arith, zero_of}
use Rattle.algebra.specs.Product.{at, identity}
use Rattle.algebra.specs.Jacobi.{State, squared, bound, rotate_tested, rotate, row_to, sweep_to, sweeps_to, mirrored, jacobi}
use Rattle.algebra.proofs.FoldLaws.{fold-steps}

-- the pairs (a, b), a < b, of n rows
unfoldable pub pairs : ℕ → ℕ
pairs n = n * (n - 1) / 2

-- one row more brings a pair with each row before it
pub pairs-more : (n : ℕ) → pairs (n + 1) ≡ n + pairs n
unfolding pairs
pairs-more zero = refl
pairs-more (suc n) =
    let e : suc n + 1 - 1 ≡ suc n = omega arith in
    let f : suc n - 1 ≡ n = omega arith in
    rw (e, f) (omega arith)

-- the pairs of row p with the rows after it, and those of the rows after it
pub pairs-less : (n p : ℕ) → p < n → pairs (n - p) ≡ (n - (p + 1)) + pairs (n - (p + 1))
pairs-less n p h =
    let e : n - p ≡ (n - (p + 1)) + 1 = omega arith in
    rw e (pairs-more (n - (p + 1)))

pub pairs_small : (n : ℕ) → n ≤ 6 → pairs n ≤ 15
unfolding pairs
pairs_small n h =
    let l : n - 1 ≤ 5 = omega arith in
    let e : n * (n - 1) ≤ 6 * 5 = mul-le-mul h l in
    omega arith

module _ {A : Type 0} (N : Arith A) (limit : Float) (R C n : ℕ) where
  pub tested-count : (p q : ℕ) (x : State A) → (rotate_tested N limit R C n p q x).count ≤ x.count + 1
  unfolding rotate_tested
  tested-count p q x = go (lt (N.value (bound N limit p q x.a)) (N.value (squared N p q x.a))) refl
    where
      go : (b : Bool) → lt (N.value (bound N limit p q x.a)) (N.value (squared N p q x.a)) ≡ b → (rotate_tested N limit R C n p q x).count ≤ x.count + 1
      go true e = rw e (le_refl (x.count + 1))
      go false e = rw e (omega arith)

  pub rotate-count : (p q : ℕ) (x : State A) → (rotate N limit R C n p q x).count ≤ x.count + 1
  unfolding rotate
  rotate-count p q x = go (is_zero (N.value (at N x.a p q))) refl
    where
      go : (b : Bool) → is_zero (N.value (at N x.a p q)) ≡ b → (rotate N limit R C n p q x).count ≤ x.count + 1
      go true e = rw e (omega arith)
      go false e = rw e (tested-count p q x)

  -- the pairs (p, p + 1), .., (p, k - 1)
  pub row_count : (k p : ℕ) (x : State A) → p + 1 ≤ k → (row_to N k limit R C n p x).count + (p + 1) ≤ x.count + k
  unfolding row_to
  row_count k p x h =
      fold-steps (λ j y. y.count + (p + 1) ≤ x.count + j) (p + 1) k (λ q y. rotate N limit R C n p q y) x h (omega arith)
      (λ q a b y e. omega (arith, rotate-count p q y))

  -- k rows of a sweep leave the pairs of the other n - k
  pub sweep-count : (k : ℕ) (x : State A) → k ≤ n → (sweep_to N k limit R C n x).count + pairs (n - k) ≤ x.count + pairs n
  unfolding sweep_to
  sweep-count k x h =
      let z : n - 0 ≡ n = omega arith in
      fold-steps (λ p y. y.count + pairs (n - p) ≤ x.count + pairs n) 0 k (λ p y. row_to N n limit R C n p y) x (omega arith) (rw z (le_refl (x.count + pairs n)))
      (λ p a b y e. omega (arith, row_count n p y (omega arith), pairs-less n p (omega arith)))

  -- k sweeps make at most k rotations for each pair
  pub sweeps-count : (k : ℕ) (x : State A) → (sweeps_to N k limit R C n x).count ≤ x.count + k * pairs n
  unfolding sweeps_to
  sweeps-count k x =
      fold-steps (λ i y. y.count ≤ x.count + i * pairs n) 0 k (λ i y. sweep_to N n limit R C n y) x (omega arith) (omega arith)
      (λ i a b y e. omega (arith, sweep-count n y (le_refl n)))

  pub jacobi-count : (m : List (List A)) → (jacobi N limit R C n m).count ≤ 30 * (n * (n - 1) / 2)
  unfolding jacobi pairs
  jacobi-count m = omega (arith, sweeps-count 30 (record { a = mirrored N R C n m; v = identity N R C n; count = 0; seen = zero_of N }))

  -- document 01: "the number of rotations made, at most 450"
  pub jacobi-at-most : (m : List (List A)) → n ≤ 6 → (jacobi N limit R C n m).count ≤ 450
  unfolding pairs
  jacobi-at-most m h = omega (arith, jacobi-count m, pairs_small n h)
