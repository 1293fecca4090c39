-- Laws of the questions of specs/format/Scan.antt: at n + 1 as a loop counts, at m + n, of what they say of each number below n, and of two questions that agree below n.
use Prim.Native.Nat.{ℕ, zero, suc, ◌+◌, ◌-◌, ◌*◌, ◌<◌, ◌≤◌, max}
use mathlib.Core.Path.{◌≡◌, refl, ap, ap₂, sym, ◌∙◌}
use mathlib.Core.Bool.{Bool, true, false, ◌||◌, ◌&&◌, cond, false≢true, or_assoc, or-false as or-none}
use mathlib.Core.Logic.{⊎_elim}
use native.Mathlib.Nat.{not-suc-le-zero, le_of_suc-le-suc, eq-or-lt_of_le, add-zero, add-suc}
use native.Mathlib.Numerals.{add-one}
use native.Mathlib.Omega.{arith}
use native.Mathlib.Decide.{dec_lt}
use borrow.Author.Tests.{le-leb}
use Rattle.algebra.specs.Fold.{fold}
use Rattle.records.specs.format.Scan.{any, most, last, total}

-- ---- truths
pub and-true : (a b : Bool) → a && b ≡ true → (a ≡ true) × (b ≡ true)
and-true true b e = (refl, e)
and-true false b e = absurd (false≢true e)

pub or-false : (a b : Bool) → a || b ≡ false → (a ≡ false) × (b ≡ false)
or-false true b e = absurd (false≢true (sym e))
or-false false b e = (refl, e)

pub or-true : (b : Bool) → b || true ≡ true
or-true true = refl
or-true false = refl

-- two truths that follow from each other
pub same_truth : (a b : Bool) → (a ≡ true → b ≡ true) → (b ≡ true → a ≡ true) → a ≡ b
same_truth true b f g = sym (f refl)
same_truth false true f g = g refl
same_truth false false f g = refl

-- ---- some number passes
pub any-more : (n : ℕ) (p : ℕ → Bool) → any (n + 1) p ≡ any n p || p n
unfolding any
any-more n p = rw add-one

-- none so far and none here
pub any-miss : (n : ℕ) (p : ℕ → Bool) → any n p ≡ false → p n ≡ false → any (n + 1) p ≡ false
any-miss n p h e = rw (any-more, h, e)

pub any-hit : (n : ℕ) (p : ℕ → Bool) (i : ℕ) → i < n → p i ≡ true → any n p ≡ true
unfolding any
any-hit zero p i l e = absurd (not-suc-le-zero l)
any-hit (suc n) p i l e =
    ⊎_elim (λ q. ap (λ (b : Bool). any n p || b) (ap p (sym q) ∙ e) ∙ or-true (any n p)) (λ k. rw (any-hit n p i k e)) (eq-or-lt_of_le (le_of_suc-le-suc l))

-- none below n passes, so i does not
pub any_none : (n : ℕ) (p : ℕ → Bool) (i : ℕ) → i < n → any n p ≡ false → p i ≡ false
any_none n p i l e = go (p i) refl
  where
    go : (b : Bool) → p i ≡ b → b ≡ false
    go true q = sym (any-hit n p i l q) ∙ e
    go false q = refl

-- none passes where each is known to fail
pub none_any : (n : ℕ) (p : ℕ → Bool) → ((i : ℕ) → i < n → p i ≡ false) → any n p ≡ false
unfolding any
none_any zero p h = refl
none_any (suc n) p h = rw (none_any n p (λ i l. h i (omega arith)), h n (omega arith))

pub any_same : (n : ℕ) (p q : ℕ → Bool) → ((i : ℕ) → i < n → p i ≡ q i) → any n p ≡ any n q
unfolding any
any_same zero p q h = refl
any_same (suc n) p q h = ap₂ ◌||◌ (any_same n p q (λ i l. h i (omega arith))) (h n (omega arith))

-- what those below m say, and then those from m on
pub any-split : (m n : ℕ) (p : ℕ → Bool) → any (m + n) p ≡ any m p || any n (λ i. p (m + i))
unfolding any
any-split m zero p = ap (λ (k : ℕ). any k p) (add-zero m) ∙ sym (or-none (any m p))
any-split m (suc n) p = ap (λ (k : ℕ). any k p) (add-suc m n) ∙ ap (λ (x : Bool). x || p (m + n)) (any-split m n p) ∙ or_assoc (any m p) (any n (λ i. p (m + i))) (p (m + n))

-- by count, row and column: none of the cells passes, so this one does not; and none passes where each is known to fail
pub any-none-cells : (a b c : ℕ) (p : ℕ → ℕ → ℕ → Bool) → any a (λ i. any b (λ j. any c (p i j))) ≡ false → (i j k : ℕ) → i < a → j < b → k < c → p i j k ≡ false
any-none-cells a b c p e i j k l m n = any_none c (p i j) k n (any_none b (λ j. any c (p i j)) j m (any_none a (λ i. any b (λ j. any c (p i j))) i l e))

pub none-any-cells : (a b c : ℕ) (p : ℕ → ℕ → ℕ → Bool) → ((i j k : ℕ) → i < a → j < b → k < c → p i j k ≡ false) → any a (λ i. any b (λ j. any c (p i j))) ≡ false
none-any-cells a b c p h = none_any a (λ i. any b (λ j. any c (p i j))) (λ i l. none_any b (λ j. any c (p i j)) (λ j m. none_any c (p i j) (λ k n. h i j k l m n)))

-- one that passes, where some one does
pub record Found (n : ℕ) (p : ℕ → Bool) : Type 0 where
  pub index : ℕ
  pub below : index < n
  pub passes : p index ≡ true

pub any_found : (n : ℕ) (p : ℕ → Bool) → any n p ≡ true → Found n p
unfolding any
any_found zero p e = absurd (false≢true e)
any_found (suc n) p e = go (any n p) (any_found n p) (p n) refl e
  where
    go : (a : Bool) → (a ≡ true → Found n p) → (b : Bool) → p n ≡ b → a || b ≡ true → Found (suc n) p
    go true q b f g = let w = q refl in record { index = w.index; below = (let l = w.below in omega arith); passes = w.passes }
    go false q true f g = record { index = n; below = omega arith; passes = f }
    go false q false f g = absurd (false≢true g)

-- ---- the largest answer
pub most-more : (n : ℕ) (f : ℕ → ℕ) → most (n + 1) f ≡ max (most n f) (f n)
unfolding most
most-more n f = rw add-one

pub most-le : (n : ℕ) (f : ℕ → ℕ) (b : ℕ) → ((i : ℕ) → i < n → f i ≤ b) → most n f ≤ b
unfolding most
most-le zero f b h = omega arith
most-le (suc n) f b h = let x = most-le n f b (λ i l. h i (omega arith)) in let y = h n (omega arith) in omega arith

pub le-most : (n : ℕ) (f : ℕ → ℕ) (i : ℕ) → i < n → f i ≤ most n f
unfolding most
le-most zero f i l = absurd (not-suc-le-zero l)
le-most (suc n) f i l = ⊎_elim (λ q. let z = ap f q in omega arith) (λ k. let z = le-most n f i k in omega arith) (eq-or-lt_of_le (le_of_suc-le-suc l))

pub most-same : (n : ℕ) (f g : ℕ → ℕ) → ((i : ℕ) → i < n → f i ≡ g i) → most n f ≡ most n g
unfolding most
most-same zero f g h = refl
most-same (suc n) f g h = ap₂ max (most-same n f g (λ i l. h i (omega arith))) (h n (omega arith))

pub most-split : (m n : ℕ) (f : ℕ → ℕ) → most (m + n) f ≡ max (most m f) (most n (λ i. f (m + i)))
unfolding most
most-split m zero f = ap (λ (k : ℕ). most k f) (add-zero m) ∙ omega arith
most-split m (suc n) f = ap (λ (k : ℕ). most k f) (add-suc m n) ∙ (let z = most-split m n f in omega arith)

-- nothing is the largest of nothings
pub most-zero : (m : ℕ) (f : ℕ → ℕ) → ((i : ℕ) → i < m → f i ≡ 0) → most m f ≡ 0
unfolding most
most-zero zero f h = refl
most-zero (suc m) f h = rw (most-zero m f (λ i l. h i (omega arith)), h m (omega arith))

-- ---- the last that passes
pub last_more {ℓ} : {A : Type ℓ} (n : ℕ) (p : ℕ → Bool) (f : ℕ → A) (d : A) → last (n + 1) p f d ≡ cond (p n) (f n) (last n p f d)
unfolding last
last_more n p f d = rw add-one

-- the last answers of two scans with one question are related where the answers are
pub last-both {ℓ ℓ' κ} : {A : Type ℓ} {B : Type ℓ'} (R : A → B → Type κ) (n : ℕ) (p q : ℕ → Bool) (f : ℕ → A) (g : ℕ → B) (d : A) (e : B)
    → ((i : ℕ) → i < n → p i ≡ q i) → R d e → ((i : ℕ) → i < n → p i ≡ true → R (f i) (g i)) → R (last n p f d) (last n q g e)
unfolding last
last-both R zero p q f g d e h r k = r
last-both {A = A} {B = B} R (suc n) p q f g d e h r k =
    rw (← h n (omega arith)) (go (p n) (k n (omega arith)) (last-both R n p q f g d e (λ i l. h i (omega arith)) r (λ i l. k i (omega arith))))
  where
    go : (b : Bool) → (b ≡ true → R (f n) (g n)) → R (last n p f d) (last n q g e) → R (cond b (f n) (last n p f d)) (cond b (g n) (last n q g e))
    go true x y = x refl
    go false x y = y

pub last-same {ℓ} : {A : Type ℓ} (n : ℕ) (p q : ℕ → Bool) (f g : ℕ → A) (d : A) → ((i : ℕ) → i < n → p i ≡ q i) → ((i : ℕ) → i < n → p i ≡ true → f i ≡ g i)
    → last n p f d ≡ last n q g d
last-same n p q f g d h k = last-both ◌≡◌ n p q f g d d h refl k

-- the last that passes is i, where i passes and none after it
pub last-at {ℓ} : {A : Type ℓ} (n : ℕ) (p : ℕ → Bool) (f : ℕ → A) (d : A) (i : ℕ) → i < n → p i ≡ true → ((j : ℕ) → i < j → j < n → p j ≡ false) → last n p f d ≡ f i
unfolding last
last-at zero p f d i l e h = absurd (not-suc-le-zero l)
last-at (suc n) p f d i l e h =
    ⊎_elim (λ q. rw (← q, e)) (λ q. rw (h n q (omega arith)) (last-at n p f d i q e (λ j a b. h j a (omega arith)))) (eq-or-lt_of_le (le_of_suc-le-suc l))

pub last-split {ℓ} : {A : Type ℓ} (m n : ℕ) (p : ℕ → Bool) (f : ℕ → A) (d : A) → last (m + n) p f d ≡ last n (λ i. p (m + i)) (λ i. f (m + i)) (last m p f d)
unfolding last
last-split m zero p f d = ap (λ (k : ℕ). last k p f d) (add-zero m)
last-split m (suc n) p f d = ap (λ (k : ℕ). last k p f d) (add-suc m n) ∙ ap (cond (p (m + n)) (f (m + n))) (last-split m n p f d)

-- where none passes it is the default
pub last_none {ℓ} : {A : Type ℓ} (m : ℕ) (p : ℕ → Bool) (f : ℕ → A) (d : A) → ((i : ℕ) → i < m → p i ≡ false) → last m p f d ≡ d
unfolding last
last_none zero p f d h = refl
last_none (suc m) p f d h = rw (h m (omega arith)) (last_none m p f d (λ i l. h i (omega arith)))

-- what holds of every answer holds of the last
pub last-holds {ℓ κ} : {A : Type ℓ} (P : A → Type κ) (n : ℕ) (p : ℕ → Bool) (f : ℕ → A) (d : A) → P d → ((i : ℕ) → i < n → p i ≡ true → P (f i)) → P (last n p f d)
last-holds P n p f d z k = last-both (λ x y. P x) n p p f f d d (λ i l. refl) z k

-- ---- the total
pub total-more : (n : ℕ) (f : ℕ → ℕ) → total (n + 1) f ≡ total n f + f n
unfolding total
total-more n f = rw add-one

-- a total grows with its bound
pub total-le : (n m : ℕ) (f : ℕ → ℕ) → n ≤ m → total n f ≤ total m f
unfolding total
total-le n zero f l = let e : n ≡ 0 = omega arith in rw e (omega arith)
total-le n (suc m) f l = ⊎_elim (λ q. rw q (omega arith)) (λ k. let z = total-le n m f (le_of_suc-le-suc k) in omega arith) (eq-or-lt_of_le l)

-- and with its terms
pub total-grows : (n : ℕ) (f g : ℕ → ℕ) → ((i : ℕ) → i < n → f i ≤ g i) → total n f ≤ total n g
unfolding total
total-grows zero f g h = omega arith
total-grows (suc n) f g h = let x = total-grows n f g (λ i l. h i (omega arith)) in let y = h n (omega arith) in omega arith

pub total-same : (n : ℕ) (f g : ℕ → ℕ) → ((i : ℕ) → i < n → f i ≡ g i) → total n f ≡ total n g
unfolding total
total-same zero f g h = refl
total-same (suc n) f g h = ap₂ ◌+◌ (total-same n f g (λ i l. h i (omega arith))) (h n (omega arith))

-- a total of one number, and of multiples
pub total-constant : (n w : ℕ) → total n (λ i. w) ≡ n * w
unfolding total
total-constant zero w = omega arith
total-constant (suc n) w = let z = total-constant n w in omega arith

pub total-scaled : (n w : ℕ) (f : ℕ → ℕ) → total n (λ i. w * f i) ≡ w * total n f
unfolding total
total-scaled zero w f = omega arith
total-scaled (suc n) w f = let z = total-scaled n w f in omega arith

-- a number below a total falls into one of its terms
pub record Falls (n : ℕ) (f : ℕ → ℕ) (i : ℕ) : Type 0 where
  pub index : ℕ
  pub below : index < n
  pub rest : ℕ
  pub short : rest < f index
  pub place : total index f + rest ≡ i

pub total_falls : (n : ℕ) (f : ℕ → ℕ) (i : ℕ) → i < total n f → Falls n f i
unfolding total
total_falls zero f i l = absurd (not-suc-le-zero l)
total_falls (suc n) f i l = go (dec_lt i (total n f)) (total_falls n f i)
  where
    go : Dec (i < total n f) → (i < total n f → Falls n f i) → Falls (suc n) f i
    go (yes h) q = let w = q h in record { index = w.index; below = (let b = w.below in omega arith); rest = w.rest; short = w.short; place = w.place }
    go (no h) q = record { index = n; below = omega arith; rest = i - total n f; short = omega arith; place = omega arith }

-- a sum that a fold counts up
pub fold-total : (n : ℕ) (f : ℕ → ℕ) → fold 0 n (λ i x. x + f i) 0 ≡ total n f
unfolding fold total
fold-total zero f = refl
fold-total (suc n) f = rw (le-leb 0 n (omega arith)) (ap (λ (x : ℕ). x + f n) (fold-total n f))

-- a search that a fold goes on with
pub fold-any : (n : ℕ) (q : ℕ → Bool) (z : Bool) → fold 0 n (λ k y. y || q k) z ≡ z || any n q
unfolding fold any
fold-any zero q z = sym (or-none z)
fold-any (suc n) q z = rw (le-leb 0 n (omega arith)) (ap (λ (y : Bool). y || q n) (fold-any n q z) ∙ or_assoc z (any n q) (q n))

-- ---- a function that falls nowhere keeps the order of its arguments
pub climbs : (n : ℕ) (f : ℕ → ℕ) → ((i : ℕ) → i + 1 < n → f i ≤ f (i + 1)) → (i j : ℕ) → i ≤ j → j < n → f i ≤ f j
climbs n f h i zero l m = let e : i ≡ 0 = omega arith in let g = ap f e in omega arith
climbs n f h i (suc j) l m = go (dec_lt i (suc j)) (λ k. climbs n f h i j (omega arith) (omega arith)) (h j (omega arith))
  where
    go : Dec (i < suc j) → (i < suc j → f i ≤ f j) → f j ≤ f (j + 1) → f i ≤ f (suc j)
    go (yes k) a b = let x = a k in let e : j + 1 ≡ suc j = omega arith in let g = ap f e in omega arith
    go (no k) a b = let e : i ≡ suc j = omega arith in let g = ap f e in omega arith
