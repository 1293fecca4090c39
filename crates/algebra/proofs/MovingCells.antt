-- Matrices of marked numbers: which cells bear a shift, and how the cells of a second run, whose inputs were scaled, go with those of the first.
use Prim.Native.Nat.{ℕ, zero, suc, ◌+◌, ◌≤◌, ◌<◌}
use native.Mathlib.Numerals.{add-one}
use native.Mathlib.Omega.{arith}
use native.Mathlib.Decide.{dec_le, ℕ_discrete}
use mathlib.Core.Path.{◌≡◌, refl, sym, ◌∙◌, subst}
use mathlib.Core.Bool.{Bool, true, false, cond}
use mathlib.Core.List.{List, []}
use lib.Dec.{T, leb}
use lib.IntN.{ℤ, pos, negsuc, nat_abs, ◌+ℤ◌, +ℤ_idl, +ℤ_invr}
use lib.ListN.{get_or, length, replicate, length-replicate}
use lib.Ieee.{Float, binary64, fits, lt}
use borrow.Author.Tests.{le-leb, lt-leb}
use Rattle.arithmetic.specs.declared.Marked.{Marked}
use Rattle.arithmetic.specs.Numbers.{is_zero, is_larger}
use Rattle.arithmetic.specs.Marks.{given, marked_mul, marked_div}
use Rattle.arithmetic.proofs.Tied.{Tied}
use Rattle.arithmetic.proofs.ScaleLaws.{scale-zero, lt-scale}
use Rattle.arithmetic.proofs.PlainLaws.{zero-scale, larger-scale}
use Rattle.arithmetic.proofs.MarkLaws.{Bears, Moves, mul-moves, div-moves}
use Rattle.algebra.specs.Fold.{fold}
use Rattle.algebra.specs.Table.{row, table}
use Rattle.algebra.specs.Kind.{marks, zero_of}
use Rattle.algebra.specs.Product.{at}
use Rattle.algebra.proofs.FoldLaws.{fold_more, fold-none, fold-keeps, length-span}
use Rattle.algebra.proofs.TableLaws.{table_at, table-row, length-table}

-- ---- loops, backward
-- what holds at the end, and before each step where it holds after it, holds at every number on the way
pub fold-back {ℓ κ} : {A : Type ℓ} (P : ℕ → A → Type κ) (lo n : ℕ) (s : ℕ → A → A) (a : A)
    → ((k : ℕ) → lo ≤ k → k < n → P (k + 1) (s k (fold lo k s a)) → P k (fold lo k s a)) → P n (fold lo n s a)
    → (k : ℕ) → lo ≤ k → k ≤ n → P k (fold lo k s a)
fold-back P lo zero s a f p k h l = let e : k ≡ 0 = omega arith in rw e p
fold-back P lo (suc n) s a f p k h l = go (λ q. fold-back P lo n s a (λ j x y. f j x (omega arith)) q k h) (dec_le k n)
  where
    go : (P n (fold lo n s a) → k ≤ n → P k (fold lo k s a)) → Dec (k ≤ n) → P k (fold lo k s a)
    go ih (yes i) =
        let q : P (n + 1) (fold lo (n + 1) s a) = rw add-one p in
        ih (f n (omega arith) (omega arith) (rw (fold_more lo n s a (omega arith)) at q)) i
    go ih (no i) = let e : k ≡ suc n = omega arith in rw e p

-- two loops in step, with what holds of the two at each number
pub fold-in-step {ℓ ℓ' κ} : {A : Type ℓ} {B : Type ℓ'} (P : ℕ → A → B → Type κ) (lo n : ℕ) (s : ℕ → A → A) (r : ℕ → B → B) (a : A) (b : B) → lo ≤ n → P lo a b
    → ((k : ℕ) → lo ≤ k → k < n → (x : A) (y : B) → P k x y → P (k + 1) (s k x) (r k y)) → P n (fold lo n s a) (fold lo n r b)
unfolding fold
fold-in-step P lo zero s r a b h p f = let e : lo ≡ 0 = omega arith in rw e at p
fold-in-step P lo (suc n) s r a b h p f = go (λ l. fold-in-step P lo n s r a b l p (λ k x y. f k x (omega arith))) (dec_le lo n)
  where
    go : (lo ≤ n → P n (fold lo n s a) (fold lo n r b)) → Dec (lo ≤ n)
        → P (suc n) (cond (leb lo n) (s n (fold lo n s a)) (fold lo n s a)) (cond (leb lo n) (r n (fold lo n r b)) (fold lo n r b))
    go ih (yes l) = rw (le-leb lo n l) (rw add-one at (f n l (omega arith) (fold lo n s a) (fold lo n r b) (ih l)))
    go ih (no l) =
        let e : lo ≡ suc n = omega arith in
        rw (lt-leb lo n (omega arith), fold-none lo n s a (omega arith), fold-none lo n r b (omega arith)) (rw e at p)

-- a number that takes in what stood before it: where it bears, so does the first, and so does the result of every step
module _ {t : ℕ} (lo n : ℕ) (s : ℕ → Marked → Marked) (a : Marked) (f : (k : ℕ) (b : Marked) → Bears t (s k b) → Bears t b) (h : Bears t (fold lo n s a)) where
  pub first-bears : Bears t a
  first-bears = fold-keeps (λ x. Bears t x → Bears t a) lo n s a (λ x. x) (λ k l m b q x. q (f k b x)) h

  pub step-bears : (k : ℕ) → lo ≤ k → k < n → Bears t (s k (fold lo k s a))
  step-bears k l m =
      rw (fold_more lo k s a l) at (fold-back (λ i x. Bears t x) lo n s a (λ i x y. f i (fold lo i s a)) h (k + 1) (omega arith) (omega arith))

-- ---- single numbers
module _ {t : ℕ} where
  -- one shift written in two ways
  pub moves-by : {u v : ℤ} (a a' : Marked) → u ≡ v → Moves t u a a' → Moves t v a a'
  moves-by a a' e p h = subst (λ (z : ℤ). Tied z a.value a'.value) e (p h)

  -- +0 moves by every shift, and every constant by none
  pub nil-moves : (u : ℤ) → Moves t u (zero_of marks) (zero_of marks)
  unfolding fits
  nil-moves u h = record { fine = tt; moved = refl }

  pub constant-moves : (x : Float) → T (fits binary64 x) → Moves t (pos 0) (given x) (given x)
  constant-moves x f h = record { fine = f; moved = sym (scale-zero x) }

  -- a factor that does not move, and the quotient of two numbers that move alike
  pub still-times : (u : ℤ) → nat_abs u ≤ t → (a b a' b' : Marked) → Moves t (pos 0) a a' → Moves t u b b' → Moves t u (marked_mul a b) (marked_mul a' b')
  still-times u n a b a' b' p q =
      moves-by (marked_mul a b) (marked_mul a' b') (+ℤ_idl u) (mul-moves (pos 0) u (rw +ℤ_idl n) a b a' b' p q)

  pub alike-over : (u : ℤ) (a b a' b' : Marked) → Moves t u a a' → Moves t u b b' → Moves t (pos 0) (marked_div a b) (marked_div a' b')
  alike-over u a b a' b' p q =
      moves-by (marked_div a b) (marked_div a' b') (+ℤ_invr u) (div-moves u u (rw +ℤ_invr (omega arith)) a b a' b' p q)

  -- of two pairs, the same is taken
  pub cond-moves : {u : ℤ} (b : Bool) (x y x' y' : Marked) → Moves t u x x' → Moves t u y y' → Moves t u (cond b x y) (cond b x' y')
  cond-moves true x y x' y' p q = p
  cond-moves false x y x' y' p q = q

  -- what does not move keeps its value
  pub still-value : (a a' : Marked) → Moves t (pos 0) a a' → Bears t a → a'.value ≡ a.value
  still-value a a' p b = (p b).moved ∙ scale-zero a.value

-- comparisons of numbers that are moved alike
pub less-agrees : (u : ℤ) (x y x' y' : Float) → Tied u x x' → Tied u y y' → lt x' y' ≡ lt x y
less-agrees u x y x' y' p q = rw (p.moved, q.moved) (lt-scale u x y)

pub zero-agrees : (u : ℤ) (x x' : Float) → Tied u x x' → is_zero x' ≡ is_zero x
zero-agrees u x x' p = rw p.moved (zero-scale u x)

pub larger-agrees : (u : ℤ) (x y x' y' : Float) → Tied u x x' → Tied u y y' → is_larger x' y' ≡ is_larger x y
larger-agrees u x y x' y' p q = rw (p.moved, q.moved) (larger-scale u x y)

-- a shift twice is twice as large
pub abs-twice : (k : ℤ) → nat_abs (k +ℤ k) ≡ nat_abs k + nat_abs k
abs-twice (pos a) = refl
abs-twice (negsuc a) = omega arith

-- half of a shift is no larger
pub half-small : (w : ℤ) {t : ℕ} → nat_abs (w +ℤ w) ≤ t → nat_abs w ≤ t
half-small (pos a) h = omega arith
half-small (negsuc a) h = omega arith

-- what holds of both arms of a choice; what holds of both arms of two choices by one test
pub cond_both {ℓ κ} : {A : Type ℓ} (P : A → Type κ) (b : Bool) (x y : A) → P x → P y → P (cond b x y)
cond_both P true x y p q = p
cond_both P false x y p q = q

pub cond-two {ℓ κ} : {A : Type ℓ} (P : A → A → Type κ) (b : Bool) (x y x' y' : A) → P x x' → P y y' → P (cond b x y) (cond b x' y')
cond-two P true x y x' y' p q = p
cond-two P false x y x' y' p q = q

-- ---- matrices
-- where a row or a column stands, of two that are singled out: at p, at q, or elsewhere
pub data Place (p q i : ℕ) : Type 0 where
  first : i ≡ p → Place p q i
  second : i ≡ q → Place p q i
  other : (i ≡ p → ⊥) → (i ≡ q → ⊥) → Place p q i

pub place : (p q i : ℕ) → Place p q i
place p q i = go (ℕ_discrete i p) (ℕ_discrete i q)
  where
    go : Dec (i ≡ p) → Dec (i ≡ q) → Place p q i
    go (yes e) d = first e
    go (no e) (yes d) = second d
    go (no e) (no d) = other e d

-- m has r rows or more, the first r of them of c cells or more
pub record Sized {A : Type 0} (r c : ℕ) (m : List (List A)) : Type 0 where
  pub rows : r ≤ length m
  pub cells : (i : ℕ) → i < r → c ≤ length (get_or m i [])

pub table-sized : {A : Type 0} (z : A) (R C r c : ℕ) (f : ℕ → ℕ → A) → r ≤ R → c ≤ C → Sized r c (table z R C r c f)
unfolding row
table-sized z R C r c f hr hc = record {
  rows = omega (arith, length-table z R C r c f);
  cells = λ i h. rw (table-row z R C r c f i h hr) (omega (arith, length-span 0 c (f i) (replicate C z), length-replicate C z));
}

-- the cells of r rows and c columns bear t; they move by u
pub record BearsCells (t r c : ℕ) (a : List (List Marked)) : Type 0 where
  pub cell : (i j : ℕ) → i < r → j < c → Bears t (at marks a i j)

pub record MovesCells (t : ℕ) (u : ℤ) (r c : ℕ) (a a' : List (List Marked)) : Type 0 where
  pub cell : (i j : ℕ) → i < r → j < c → Moves t u (at marks a i j) (at marks a' i j)

module _ {t : ℕ} where
  -- a table's cells
  pub table-moves : (u : ℤ) (R C r c : ℕ) (f f' : ℕ → ℕ → Marked) → r ≤ R → c ≤ C → ((i j : ℕ) → i < r → j < c → Moves t u (f i j) (f' i j))
      → MovesCells t u r c (table (zero_of marks) R C r c f) (table (zero_of marks) R C r c f')
  table-moves u R C r c f f' hr hc p = record {
    cell = λ i j h l. rw (table_at (zero_of marks) R C r c f i j marks.void h l hr hc, table_at (zero_of marks) R C r c f' i j marks.void h l hr hc) (p i j h l);
  }

  pub table-bears : (R C r c : ℕ) (f : ℕ → ℕ → Marked) → r ≤ R → c ≤ C → (i j : ℕ) → i < r → j < c
      → Bears t (at marks (table (zero_of marks) R C r c f) i j) → Bears t (f i j)
  table-bears R C r c f hr hc i j h l b = rw (table_at (zero_of marks) R C r c f i j marks.void h l hr hc) at b
