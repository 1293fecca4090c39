-- A pair of the sweeps, from its rotation test and the two matrices rotated, for any kind of number.
use Prim.Native.Nat.{ℕ, ◌+◌}
use mathlib.Core.Path.{◌≡◌, refl}
use mathlib.Core.Bool.{Bool, true, false, cond}
use lib.Ieee.{Float}
use Rattle.arithmetic.specs.Numbers.{is_zero}
use Rattle.algebra.specs.Kind.{Arith}
use Rattle.algebra.specs.Product.{at}
use Rattle.algebra.specs.Jacobi.{State, rotate, rotate_tested, squared, bound}
use Rattle.algebra_jacobi.specs.joints.Tested.{rotates, seen_after, rotated_pair}

module _ {A : Type 0} (N : Arith A) (limit : Float) (R C n p q : ℕ) (x : State A) where
  abbrev pp : A
  pp = at N x.a p p

  abbrev qq : A
  qq = at N x.a q q

  abbrev pq : A
  pq = at N x.a p q

  -- the state with another count and another `seen`
  abbrev counted : ℕ → A → State A
  counted count seen = record { a = x.a; v = x.v; count = count; seen = seen }

  pub rotate-is : rotate N limit R C n p q x
      ≡ cond (rotates N limit pp qq pq) (rotated_pair N R C n p q (counted (x.count + 1) (seen_after N limit pp qq pq x.seen)))
      (counted x.count (seen_after N limit pp qq pq x.seen))
  unfolding rotate rotate_tested squared bound rotates seen_after rotated_pair
  rotate-is = go (is_zero (N.value pq)) refl
    where
      go : (z : Bool) → is_zero (N.value pq) ≡ z → rotate N limit R C n p q x
          ≡ cond (rotates N limit pp qq pq) (rotated_pair N R C n p q (counted (x.count + 1) (seen_after N limit pp qq pq x.seen)))
          (counted x.count (seen_after N limit pp qq pq x.seen))
      go true e = rw e
      go false e = rw e

  module _ (b : Bool) (after : A) (eb : b ≡ rotates N limit pp qq pq) (es : after ≡ seen_after N limit pp qq pq x.seen) where
    -- where the test says yes
    pub pair-rotated : (next : State A) → b ≡ true → next ≡ rotated_pair N R C n p q (counted (x.count + 1) after) → next ≡ rotate N limit R C n p q x
    pair-rotated next e en = rw (rotate-is, ← eb, e, en, es)

    -- where it says no
    pub pair_left : b ≡ false → counted x.count after ≡ rotate N limit R C n p q x
    pair_left e = rw (rotate-is, ← eb, e, es)
