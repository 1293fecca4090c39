-- Falling order: where no number is a NaN or negative, place 0 has a number, and none is larger.
use mathlib.Core.Path.{◌≡◌, refl, sym, ap, ◌∙◌, subst}
use mathlib.Core.Bool.{Bool, true, false, cond, ◌&&◌, ◌||◌}
use mathlib.Core.List.{List}
use Prim.Native.Nat.{ℕ, zero, suc, ◌+◌, ◌≤◌, ◌<◌}
use native.Mathlib.Nat.{le_of_eq}
use native.Mathlib.Decide.{ℕ_discrete, dec_lt}
use native.Mathlib.Omega.{arith}
use lib.Dec.{T, ltb, eqb}
use lib.ListN.{get_or}
use lib.Ieee.{Float, nan, eq}
use borrow.Author.Tests.{lt-ltb, le-ltb, eq-eqb, eqb-true}
use Rattle.algebra.proofs.FoldLaws.{fold-steps, fold-keeps}
use Rattle.tests.specs.Order.{comes_before, place_in, index_at}
use Rattle.tests_basis.proofs.RankUnits.{Is, lt-units, eq-units}

-- the first of the largest of n numbers
record First (v : ℕ → ℕ) (n i : ℕ) : Type 0 where
  inside : i < n
  most : (j : ℕ) → j < n → v j ≤ v i
  first : (j : ℕ) → j < n → v j ≡ v i → i ≤ j

first-is : (v : ℕ → ℕ) (n : ℕ) → (i : ℕ) × First v (suc n) i
first-is v zero =
    (0, record { inside = omega arith; most = λ j h. le_of_eq (ap v (only j h)); first = λ j h e. omega arith })
  where
    only : (j : ℕ) → j < 1 → j ≡ 0
    only j h = omega arith
first-is v (suc n) = let b = first-is v n in go b.0 b.1 (dec_lt (v b.0) (v (suc n)))
  where
    go : (i : ℕ) → First v (suc n) i → Dec (v i < v (suc n)) → (i : ℕ) × First v (suc (suc n)) i
    go i f (yes h) = (suc n, record { inside = omega arith; most = most; first = first })
      where
        most : (j : ℕ) → j < suc (suc n) → v j ≤ v (suc n)
        most j l = at_last (ℕ_discrete j (suc n))
          where
            at_last : Dec (j ≡ suc n) → v j ≤ v (suc n)
            at_last (yes e) = le_of_eq (ap v e)
            at_last (no e) = omega (arith, f.most j (omega arith))

        first : (j : ℕ) → j < suc (suc n) → v j ≡ v (suc n) → suc n ≤ j
        first j l e = at_last (ℕ_discrete j (suc n))
          where
            at_last : Dec (j ≡ suc n) → suc n ≤ j
            at_last (yes e) = le_of_eq (sym e)
            at_last (no d) = absurd (omega (arith, f.most j (omega arith), e))
    go i f (no h) = (i, record { inside = omega (arith, f.inside); most = most; first = first })
      where
        most : (j : ℕ) → j < suc (suc n) → v j ≤ v i
        most j l = at_last (ℕ_discrete j (suc n))
          where
            at_last : Dec (j ≡ suc n) → v j ≤ v i
            at_last (yes e) = omega (arith, ap v e, h)
            at_last (no e) = f.most j (omega arith)

        first : (j : ℕ) → j < suc (suc n) → v j ≡ v i → i ≤ j
        first j l e = at_last (ℕ_discrete j (suc n))
          where
            at_last : Dec (j ≡ suc n) → i ≤ j
            at_last (yes d) = omega (arith, d, f.inside)
            at_last (no d) = f.first j (omega arith) e

-- ---- places
or-false : {a b : Bool} → a ≡ false → b ≡ false → (a || b) ≡ false
or-false {a} {b} e f = ap (λ (z : Bool). z || b) e ∙ f

none_equal : (a b : Bool) → (T a → b ≡ false) → (a && b) ≡ false
none_equal true b h = h tt
none_equal false b h = refl

counts : (b : Bool) (s : ℕ) → b ≡ false → s ≡ 0 → cond b (s + 1) s ≡ 0
counts b s e z = ap (λ (c : Bool). cond c (s + 1) s) e ∙ z

module _ (n : ℕ) (xs : List Float) (v : ℕ → ℕ) (is : (i : ℕ) → i < n → Is (get_or xs i nan) false (v i)) where
  -- nothing stands before the first of the largest
  not-before : (i : ℕ) → First v n i → (j : ℕ) → j < n → comes_before xs j i ≡ false
  unfolding comes_before
  not-before i f j h =
      or-false (lt-units (is i f.inside) (is j h) ∙ le-ltb (v i) (v j) (f.most j h))
      (none_equal (eq (get_or xs i nan) (get_or xs j nan)) (ltb j i) (λ t. le-ltb j i (f.first j h (sym (eq-units (is i f.inside) (is j h) t)))))

  place_none : (i : ℕ) → First v n i → place_in n xs i ≡ 0
  unfolding place_in
  place_none i f =
      fold-keeps (λ s. s ≡ 0) 0 n (λ j s. cond (comes_before xs j i) (s + 1) s) 0 refl (λ j a b s e. counts (comes_before xs j i) s (not-before i f j b) e)

  -- before a number in place 0 there is no larger one
  counted : (i : ℕ) (j : ℕ) → j < n → comes_before xs j i ≡ true → 0 < place_in n xs i
  unfolding place_in
  counted i j h e =
      fold-steps (λ k s. j < k → 0 < s) 0 n (λ j s. cond (comes_before xs j i) (s + 1) s) 0 (omega arith) (λ l. absurd (omega arith)) (λ k a b s f l. step k s f l (ℕ_discrete j k)) h
    where
      more : (b : Bool) (s : ℕ) → 0 < s → 0 < cond b (s + 1) s
      more true s h = omega arith
      more false s h = h

      step : (k s : ℕ) → (j < k → 0 < s) → j < k + 1 → Dec (j ≡ k) → 0 < cond (comes_before xs k i) (s + 1) s
      step k s f l (yes d) = subst (λ (b : Bool). 0 < cond b (s + 1) s) (sym e ∙ ap (λ (z : ℕ). comes_before xs z i) d) (one s)
        where
          one : (s : ℕ) → 0 < s + 1
          one s = omega arith
      step k s f l (no d) = more (comes_before xs k i) s (f (omega arith))

  largest-first : (i j : ℕ) → i < n → j < n → place_in n xs i ≡ 0 → v j ≤ v i
  unfolding comes_before
  largest-first i j h l e = go (dec_lt (v i) (v j))
    where
      go : Dec (v i < v j) → v j ≤ v i
      go (yes g) =
          absurd (native.Mathlib.Nat.lt_irrefl 0 (subst (λ (z : ℕ). 0 < z) e
          (counted i j l (ap (λ (z : Bool). z || (eq (get_or xs i nan) (get_or xs j nan) && ltb j i)) (lt-units (is i h) (is j l) ∙ lt-ltb (v i) (v j) g)))))
      go (no g) = omega arith

  -- the index in place 0 is one
  record Found (i : ℕ) : Type 0 where
    inside : i < n
    place : place_in n xs i ≡ 0

  found : (i : ℕ) → First v n i → Found (index_at n xs 0)
  unfolding index_at
  found i f =
      fold-steps (λ k s. i < k → Found s) 0 n (λ j s. cond (eqb (place_in n xs j) 0) j s) 0 (omega arith) (λ l. absurd (omega arith))
      (λ k a b s g l. step k s b g l (eqb (place_in n xs k) 0) refl) f.inside
    where
      step : (k s : ℕ) → k < n → (i < k → Found s) → i < k + 1 → (b : Bool) → eqb (place_in n xs k) 0 ≡ b → Found (cond b k s)
      step k s h g l true e = record { inside = h; place = eqb-true (place_in n xs k) 0 e }
      step k s h g l false e = g (less (ℕ_discrete i k))
        where
          less : Dec (i ≡ k) → i < k
          less (yes d) = absurd (mathlib.Core.Bool.true≢false (sym (eq-eqb (place_in n xs k) 0 (subst (λ (z : ℕ). place_in n xs z ≡ 0) d (place_none i f))) ∙ e))
          less (no d) = omega arith

  -- so the number in place 0 is a largest one
  pub first-place : 0 < n → (index_at n xs 0 < n) × ((j : ℕ) → j < n → v j ≤ v (index_at n xs 0))
  first-place h = (f.inside, λ j l. largest-first (index_at n xs 0) j f.inside l f.place)
    where
      some : (n : ℕ) → 0 < n → (i : ℕ) × First v n i
      some zero h = absurd (omega arith)
      some (suc n) h = first-is v n

      f : Found (index_at n xs 0)
      f = let b = some n h in found b.0 b.1
