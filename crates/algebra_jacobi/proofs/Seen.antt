-- The state's `seen`: +0 with every product of the rotation tests counted.
use Prim.Native.Nat.{ℕ}
use mathlib.Core.Path.{◌≡◌, refl, ◌∙◌}
use mathlib.Core.Bool.{Bool, true, false}
use mathlib.Core.List.{List}
use lib.Ieee.{Float, lt}
use Rattle.arithmetic.specs.declared.Marked.{Marked}
use Rattle.arithmetic.specs.Numbers.{plus_zero, is_zero}
use Rattle.arithmetic.proofs.MarkLaws.{also-value}
use Rattle.algebra.specs.Kind.{Arith, floats, marks, zero_of}
use Rattle.algebra.specs.Product.{at, identity}
use Rattle.algebra.specs.Jacobi.{State, squared, bound, rotate_tested, rotate, row_to, sweep_to, sweeps_to, mirrored, jacobi}
use Rattle.algebra.proofs.FoldLaws.{fold-keeps}
use Rattle.algebra_jacobi.specs.joints.Tested.{left, right, seen_after}

-- where A_pq is zero no test is made; elsewhere both sides count
module _ {A : Type 0} (N : Arith A) (limit : Float) (pp qq pq seen : A) where
  pub seen-stays : is_zero (N.value pq) ≡ true → seen ≡ seen_after N limit pp qq pq seen
  unfolding seen_after
  seen-stays e = rw e

  pub seen-counts : is_zero (N.value pq) ≡ false → N.also seen (N.also (left N pq) (right N limit pp qq)) ≡ seen_after N limit pp qq pq seen
  unfolding seen_after
  seen-counts e = rw e

module _ {A : Type 0} (N : Arith A) (keeps : (x y : A) → N.value (N.also x y) ≡ N.value x) (limit : Float) (R C n : ℕ) where
  tested-seen : (p q : ℕ) (x : State A) → N.value (rotate_tested N limit R C n p q x).seen ≡ N.value x.seen
  unfolding rotate_tested
  tested-seen p q x = go (lt (N.value (bound N limit p q x.a)) (N.value (squared N p q x.a))) refl
    where
      go : (b : Bool) → lt (N.value (bound N limit p q x.a)) (N.value (squared N p q x.a)) ≡ b → N.value (rotate_tested N limit R C n p q x).seen ≡ N.value x.seen
      go true e = rw e (keeps _ _)
      go false e = rw e (keeps _ _)

  rotate-seen : (p q : ℕ) (x : State A) → N.value (rotate N limit R C n p q x).seen ≡ N.value x.seen
  unfolding rotate
  rotate-seen p q x = go (is_zero (N.value (at N x.a p q))) refl
    where
      go : (b : Bool) → is_zero (N.value (at N x.a p q)) ≡ b → N.value (rotate N limit R C n p q x).seen ≡ N.value x.seen
      go true e = rw e
      go false e = rw e (tested-seen p q x)

  -- no test changes the value of `seen`
  pub sweeps-seen : (k : ℕ) (x : State A) → N.value (sweeps_to N k limit R C n x).seen ≡ N.value x.seen
  unfolding sweeps_to sweep_to row_to
  sweeps-seen k x =
      fold-keeps (λ y. N.value y.seen ≡ N.value x.seen) 0 k _ x refl
      (λ i h l y e. fold-keeps (λ z. N.value z.seen ≡ N.value x.seen) 0 n _ y e
      (λ p u v z f. fold-keeps (λ w. N.value w.seen ≡ N.value x.seen) _ n _ z f (λ q s t w g. rotate-seen p q w ∙ g)))

-- from +0, `seen` stays +0: all of it on plain numbers, which have no mark to count, and its value on marked ones, of which the mark alone tells it
module _ (limit : Float) (R C n : ℕ) where
  pub seen_plain : (m : List (List Float)) → (jacobi floats limit R C n m).seen ≡ plus_zero
  unfolding jacobi
  seen_plain m = sweeps-seen floats (λ x y. refl) limit R C n 30 (record { a = mirrored floats R C n m; v = identity floats R C n; count = 0; seen = plus_zero })

  pub seen-marked : (m : List (List Marked)) → (jacobi marks limit R C n m).seen.value ≡ plus_zero
  unfolding jacobi
  seen-marked m = sweeps-seen marks also-value limit R C n 30 (record { a = mirrored marks R C n m; v = identity marks R C n; count = 0; seen = zero_of marks })
