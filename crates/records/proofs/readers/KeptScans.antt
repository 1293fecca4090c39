-- The questions of specs/format/Scan.antt asked of the numbers below n that are not left out (specs/readers/Shortened.antt): each is the question of all numbers below n in which those left out have no say.
use Prim.Native.Nat.{ℕ, zero, suc, ◌+◌, ◌<◌, ◌≤◌, max}
use mathlib.Core.Path.{◌≡◌, refl, ap, ap₂, sym, ◌∙◌}
use mathlib.Core.Bool.{Bool, true, false, not, ◌||◌, ◌&&◌, cond, or-false as or-none}
use mathlib.Core.List.{List, [], ◌∷◌, ◌++◌}
use native.Mathlib.Numerals.{add-one}
use native.Mathlib.Omega.{arith}
use lib.ListN.{length, get_or, length-append, get_or-append}
use lib.Seq.{get_or-append_seam}
use Rattle.records.specs.format.Scan.{any, most, last}
use Rattle.records.specs.readers.Shortened.{kept_below}
use Rattle.records.proofs.format.ScanLaws.{any-more, any_same, most-more, most-same, last_more, last-same}
use Rattle.records.proofs.readers.KeptLaws.{kept-skip, kept-take, kept_at, kept-as}

-- ---- the questions over the numbers of a list: whether one passes, the largest answer, the last that passes
abbrev any_of : List ℕ → (ℕ → Bool) → Bool
any_of ks p = any (length ks) (λ j. p (get_or ks j 0))

abbrev most_of : List ℕ → (ℕ → ℕ) → ℕ
most_of ks f = most (length ks) (λ j. f (get_or ks j 0))

abbrev last_of {ℓ} : {A : Type ℓ} → List ℕ → (ℕ → Bool) → (ℕ → A) → A → A
last_of ks p f d = last (length ks) (λ j. p (get_or ks j 0)) (λ j. f (get_or ks j 0)) d

-- a list with one number more: how long it is, what stands before that number, and the number
module _ (ks : List ℕ) (k : ℕ) where
  abbrev more : List ℕ
  more = ks ++ (k ∷ [])

  length_more : length more ≡ length ks + 1
  length_more = length-append ks (k ∷ [])

  earlier : (j : ℕ) → j < length ks → get_or more j 0 ≡ get_or ks j 0
  earlier j l = get_or-append ks (k ∷ []) 0 j l

  newest : get_or more (length ks) 0 ≡ k
  newest = get_or-append_seam ks k [] 0

  -- and so each question of it
  any-one : (p : ℕ → Bool) → any_of more p ≡ any_of ks p || p k
  any-one p =
      ap (λ (m : ℕ). any m (λ j. p (get_or more j 0))) length_more
      ∙ any-more (length ks) (λ j. p (get_or more j 0))
      ∙ ap₂ ◌||◌ (any_same (length ks) (λ j. p (get_or more j 0)) (λ j. p (get_or ks j 0)) (λ j l. ap p (earlier j l))) (ap p newest)

  most-one : (f : ℕ → ℕ) → most_of more f ≡ max (most_of ks f) (f k)
  most-one f =
      ap (λ (m : ℕ). most m (λ j. f (get_or more j 0))) length_more
      ∙ most-more (length ks) (λ j. f (get_or more j 0))
      ∙ ap₂ max (most-same (length ks) (λ j. f (get_or more j 0)) (λ j. f (get_or ks j 0)) (λ j l. ap f (earlier j l))) (ap f newest)

  last_one {ℓ} : {A : Type ℓ} (p : ℕ → Bool) (f : ℕ → A) (d : A) → last_of more p f d ≡ cond (p k) (f k) (last_of ks p f d)
  last_one {A = A} p f d =
      ap (λ (m : ℕ). last m (λ j. p (get_or more j 0)) (λ j. f (get_or more j 0)) d) length_more
      ∙ last_more (length ks) (λ j. p (get_or more j 0)) (λ j. f (get_or more j 0)) d
      ∙ ap (λ (x : ℕ). cond (p x) (f x) (last (length ks) (λ j. p (get_or more j 0)) (λ j. f (get_or more j 0)) d)) newest
      ∙ ap (λ (y : A). cond (p k) (f k) y)
      (last-same (length ks) (λ j. p (get_or more j 0)) (λ j. p (get_or ks j 0)) (λ j. f (get_or more j 0)) (λ j. f (get_or ks j 0)) d (λ j l. ap p (earlier j l)) (λ j l e. ap f (earlier j l)))

-- ---- over the numbers that are not left out
module _ (out : ℕ → Bool) where
  -- one number further: the same numbers, or one more
  skip-next : (n : ℕ) → out n ≡ true → kept_below (suc n) out ≡ kept_below n out
  skip-next n e = ap (λ (m : ℕ). kept_below m out) (sym (add-one n)) ∙ kept-skip out n e

  take_next : (n : ℕ) → out n ≡ false → kept_below (suc n) out ≡ kept_below n out ++ (n ∷ [])
  take_next n e = ap (λ (m : ℕ). kept_below m out) (sym (add-one n)) ∙ kept-take out n e

  -- some number that is not left out passes
  pub any-kept : (n : ℕ) (p : ℕ → Bool) → any (length (kept_below n out)) (λ j. p (get_or (kept_below n out) j 0)) ≡ any n (λ i. not (out i) && p i)
  unfolding kept_below any
  any-kept zero p = refl
  any-kept (suc n) p = go (out n) refl (any-kept n p)
    where
      go : (b : Bool) → out n ≡ b → any_of (kept_below n out) p ≡ any n (λ i. not (out i) && p i) → any_of (kept_below (suc n) out) p ≡ any n (λ i. not (out i) && p i) || (not (out n) && p n)
      go true e h = ap (λ (ks : List ℕ). any_of ks p) (skip-next n e) ∙ h ∙ rw e (sym (or-none (any n (λ i. not (out i) && p i))))
      go false e h = ap (λ (ks : List ℕ). any_of ks p) (take_next n e) ∙ any-one (kept_below n out) n p ∙ rw (e, h) refl

  -- the largest answer of those that are not left out
  pub most-kept : (n : ℕ) (f : ℕ → ℕ) → most (length (kept_below n out)) (λ j. f (get_or (kept_below n out) j 0)) ≡ most n (λ i. cond (out i) 0 (f i))
  unfolding kept_below most
  most-kept zero f = refl
  most-kept (suc n) f = go (out n) refl (most-kept n f)
    where
      go : (b : Bool) → out n ≡ b → most_of (kept_below n out) f ≡ most n (λ i. cond (out i) 0 (f i)) → most_of (kept_below (suc n) out) f ≡ max (most n (λ i. cond (out i) 0 (f i))) (cond (out n) 0 (f n))
      go true e h = ap (λ (ks : List ℕ). most_of ks f) (skip-next n e) ∙ h ∙ rw e (omega arith)
      go false e h = ap (λ (ks : List ℕ). most_of ks f) (take_next n e) ∙ most-one (kept_below n out) n f ∙ rw (e, h) refl

  -- the last that passes of those that are not left out
  pub last-kept {ℓ} : {A : Type ℓ} (n : ℕ) (p : ℕ → Bool) (f : ℕ → A) (d : A)
      → last (length (kept_below n out)) (λ j. p (get_or (kept_below n out) j 0)) (λ j. f (get_or (kept_below n out) j 0)) d ≡ last n (λ i. not (out i) && p i) f d
  unfolding kept_below last
  last-kept zero p f d = refl
  last-kept (suc n) p f d = go (out n) refl (last-kept n p f d)
    where
      go : (b : Bool) → out n ≡ b → last_of (kept_below n out) p f d ≡ last n (λ i. not (out i) && p i) f d
          → last_of (kept_below (suc n) out) p f d ≡ cond (not (out n) && p n) (f n) (last n (λ i. not (out i) && p i) f d)
      go true e h = ap (λ (ks : List ℕ). last_of ks p f d) (skip-next n e) ∙ h ∙ rw e refl
      go false e h = ap (λ (ks : List ℕ). last_of ks p f d) (take_next n e) ∙ last_one (kept_below n out) n p f d ∙ rw (e, h) refl
      -- ---- the numbers that are not left out below m are the first of those below n
