-- Laws of counted loops: how a loop's invariant starts, goes on and ends; what a loop keeps; two loops in step.
use Prim.Native.Nat.{ℕ, zero, suc, ◌+◌, ◌≤◌, ◌<◌}
use native.Mathlib.Numerals.{add-one}
use native.Mathlib.Omega.{arith}
use mathlib.Core.Path.{◌≡◌, refl, sym, ap, ◌∙◌}
use mathlib.Core.Bool.{Bool, false, true, cond}
use mathlib.Core.List.{List, []}
use lib.Dec.{leb}
use lib.ListN.{length, get_or, set, length-set}
use lib.Seq.{get_or-set_same, get_or-set_other}
use native.Mathlib.Decide.{dec_le, dec_lt}
use mathlib.Core.Logic.{◌⊎◌, ⊎_elim}
use borrow.Author.Tests.{le-leb, lt-leb}
use Rattle.algebra.specs.Fold.{fold, span}

module _ {ℓ} {A : Type ℓ} where
  pub fold_more : (lo n : ℕ) (s : ℕ → A → A) (a : A) → lo ≤ n → fold lo (n + 1) s a ≡ s n (fold lo n s a)
  unfolding fold
  fold_more lo n s a h = rw (add-one, le-leb lo n h)

  pub fold-none : (lo n : ℕ) (s : ℕ → A → A) (a : A) → n ≤ lo → fold lo n s a ≡ a
  unfolding fold
  fold-none lo zero s a h = refl
  fold-none lo (suc n) s a h = rw (lt-leb lo n h) (fold-none lo n s a (omega arith))

  -- where the loop begins
  pub fold_start : (lo : ℕ) (s : ℕ → A → A) (a : A) → a ≡ fold lo lo s a
  fold_start lo s a = sym (fold-none lo lo s a (omega arith))

  -- one turn, from b to y
  pub fold_next : (lo k : ℕ) (s : ℕ → A → A) (a b y : A) → lo ≤ k → b ≡ fold lo k s a → y ≡ s k b → y ≡ fold lo (k + 1) s a
  fold_next lo k s a b y h e ey = ey ∙ ap (s k) e ∙ sym (fold_more lo k s a h)

  -- two bounds that are the same
  pub fold_done : (lo n m : ℕ) (s : ℕ → A → A) (a : A) → n ≤ m → m ≤ n → fold lo n s a ≡ fold lo m s a
  fold_done lo n m s a h k = let e : n ≡ m = omega arith in rw e

  -- at the end of the loop
  pub fold_end : (lo k n : ℕ) (s : ℕ → A → A) (a b : A) → k ≤ n → n ≤ k → b ≡ fold lo k s a → b ≡ fold lo n s a
  fold_end lo k n s a b h l e = e ∙ fold_done lo k n s a h l

  -- what holds at first and is kept by each step holds at the end
  pub fold-keeps {κ} : (P : A → Type κ) (lo n : ℕ) (s : ℕ → A → A) (a : A) → P a → ((k : ℕ) → lo ≤ k → k < n → (b : A) → P b → P (s k b)) → P (fold lo n s a)
  unfolding fold
  fold-keeps P lo zero s a p f = p
  fold-keeps P lo (suc n) s a p f =
      go (fold-keeps P lo n s a p (λ k h l. f k h (omega arith))) (dec_le lo n)
    where
      go : P (fold lo n s a) → Dec (lo ≤ n) → P (cond (leb lo n) (s n (fold lo n s a)) (fold lo n s a))
      go q (yes h) = rw (le-leb lo n h) (f n h (omega arith) (fold lo n s a) q)
      go q (no h) = rw (lt-leb lo n (omega arith)) q

pub length-span {ℓ} : {A : Type ℓ} (lo hi : ℕ) (f : ℕ → A) (xs : List A) → length (span lo hi f xs) ≡ length xs
length-span lo hi f xs =
    fold-keeps (λ ys. length ys ≡ length xs) lo hi (λ k ys. set ys k (f k)) xs refl (λ k h l b e. length-set b k (f k) ∙ e)

-- what holds at the start, and of each step's result at the next number, holds at the end
pub fold-steps {ℓ κ} : {A : Type ℓ} (P : ℕ → A → Type κ) (lo n : ℕ) (s : ℕ → A → A) (a : A) → lo ≤ n → P lo a
    → ((k : ℕ) → lo ≤ k → k < n → (b : A) → P k b → P (k + 1) (s k b)) → P n (fold lo n s a)
unfolding fold
fold-steps P lo zero s a h p f = let e : lo ≡ 0 = omega arith in rw e at p
fold-steps P lo (suc n) s a h p f = go (λ l. fold-steps P lo n s a l p (λ k x y. f k x (omega arith))) (dec_le lo n)
  where
    go : (lo ≤ n → P n (fold lo n s a)) → Dec (lo ≤ n) → P (suc n) (cond (leb lo n) (s n (fold lo n s a)) (fold lo n s a))
    go ih (yes l) = rw (le-leb lo n l) (rw add-one at (f n l (omega arith) (fold lo n s a) (ih l)))
    go ih (no l) =
        let e : lo ≡ suc n = omega arith in
        rw (lt-leb lo n (omega arith), fold-none lo n s a (omega arith)) (rw e at p)

-- two folds in step
pub fold-both {ℓ ℓ' κ} : {A : Type ℓ} {B : Type ℓ'} (R : A → B → Type κ) (lo n : ℕ) (s : ℕ → A → A) (t : ℕ → B → B) (a : A) (b : B) → R a b
    → ((k : ℕ) → lo ≤ k → k < n → (x : A) (y : B) → R x y → R (s k x) (t k y)) → R (fold lo n s a) (fold lo n t b)
unfolding fold
fold-both R lo zero s t a b r f = r
fold-both R lo (suc n) s t a b r f =
    go (fold-both R lo n s t a b r (λ k h l. f k h (omega arith))) (dec_le lo n)
  where
    go : R (fold lo n s a) (fold lo n t b) → Dec (lo ≤ n)
        → R (cond (leb lo n) (s n (fold lo n s a)) (fold lo n s a)) (cond (leb lo n) (t n (fold lo n t b)) (fold lo n t b))
    go q (yes h) = rw (le-leb lo n h) (f n h (omega arith) (fold lo n s a) (fold lo n t b) q)
    go q (no h) = rw (lt-leb lo n (omega arith)) q

-- two folds whose steps agree
pub fold-ext {ℓ} : {A : Type ℓ} (lo n : ℕ) (s t : ℕ → A → A) (a : A) → ((k : ℕ) → lo ≤ k → k < n → (b : A) → s k b ≡ t k b)
    → fold lo n s a ≡ fold lo n t a
fold-ext lo n s t a h = fold-both (λ x y. x ≡ y) lo n s t a a refl (λ k l m x y e. rw e (h k l m y))

-- outside of lo .. hi a span is as it was
pub span-other {ℓ} : {A : Type ℓ} (lo hi : ℕ) (f : ℕ → A) (xs : List A) (i : ℕ) (d : A) → (i < lo) ⊎ (hi ≤ i) → get_or (span lo hi f xs) i d ≡ get_or xs i d
span-other lo hi f xs i d o =
    fold-keeps (λ ys. get_or ys i d ≡ get_or xs i d) lo hi (λ k ys. set ys k (f k)) xs refl
    (λ k h l b e. get_or-set_other b k i (f k) d (λ q. ⊎_elim (λ u. omega arith) (λ u. omega arith) o) ∙ e)

-- inside it is f
pub span-at {ℓ} : {A : Type ℓ} (lo hi : ℕ) (f : ℕ → A) (xs : List A) (i : ℕ) (d : A) → lo ≤ i → i < hi → hi ≤ length xs → get_or (span lo hi f xs) i d ≡ f i
span-at {A = A} lo hi f xs i d hl hi' hn =
    (fold-steps (λ k ys. (length ys ≡ length xs) × (i < k → get_or ys i d ≡ f i)) lo hi (λ k ys. set ys k (f k)) xs (omega arith)
    (refl, λ h. absurd (omega arith)) (λ k h l b e. (length-set b k (f k) ∙ e.0, λ m. go k b e.0 e.1 l m (dec_lt i k)))).1 hi'
  where
    go : (k : ℕ) (b : List A) → length b ≡ length xs → (i < k → get_or b i d ≡ f i) → k < hi → i < k + 1 → Dec (i < k) → get_or (set b k (f k)) i d ≡ f i
    go k b e q l m (yes h) = get_or-set_other b k i (f k) d (λ x. omega arith) ∙ q h
    go k b e q l m (no h) =
        let x : i ≡ k = omega arith in
        rw x (get_or-set_same b k (f k) d (omega arith))
