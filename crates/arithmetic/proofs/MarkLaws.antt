-- All that higher crates know of a mark. `Bears t a`: every step that led to a keeps its bits when its numbers move by a power of two up to 2 ^ t, either way.
-- It is shut here: what it rests on, a range of exponents, may change without a change above. Each marked step implies that its operands bear as much, and keeps
-- the relation `Moves` between a number and that of a second run whose inputs were scaled.
use mathlib.Core.Path.{◌≡◌, refl, ap, ◌∙◌, subst}
use Prim.Native.Nat.{ℕ, zero, suc, ◌+◌, ◌-◌, ◌≤◌}
use native.Mathlib.Nat.{le_trans}
use mathlib.Core.Bool.{Bool, true, false, not, ◌&&◌, ◌||◌}
use mathlib.Core.Logic.{◌⊎◌, inl, inr}
use lib.IntN.{ℤ, nat_abs, ◌+ℤ◌, ◌-ℤ◌}
use lib.Dec.{T, lit≤}
use lib.Ieee.{Float, nan, inf, fin, binary64, prec, emax, low, fits, add, sub, mul, div}
use lib.Ieee.Fits.{and_l, and_r, mul-fits}
use Rattle.arithmetic.specs.declared.Marked.{Marked}
use Rattle.arithmetic.specs.Numbers.{magnitude, is_zero}
use Rattle.arithmetic.specs.Scale.{scale, power_of_two}
use Rattle.arithmetic.specs.SquareRoot.{square_root}
use Rattle.arithmetic.specs.Marks.{in_range, Mark, most_borne, MarkBears, is_inside, given, step_mark, lost_product, lost_quotient, marked_add, marked_sub, marked_mul, marked_div, marked_root, marked_magnitude, also}
use Rattle.arithmetic.proofs.Operations.{Zero, Safe}
use Rattle.arithmetic.proofs.Rounding.{Within}
use Rattle.arithmetic.proofs.Ranges.{within-mono, safe-within, zero-safe}
use Rattle.arithmetic.proofs.RangeTest.{or_cases, zero-of-test, test-of-zero, range-cases}
use Rattle.arithmetic.proofs.PowerOfTwo.{normal-is-mul}
use Rattle.arithmetic.proofs.PlainLaws.{of_eq, magnitude-scale, magnitude-fits}
use Rattle.arithmetic.proofs.Tied.{Tied, add-tied, sub-tied, mul-tied, div-tied}
use Rattle.arithmetic.proofs.RootWhole.{root-scale}
use Rattle.arithmetic.proofs.RootCases.{root-fits}

-- ---- values: what a step does to them does not depend on marks
pub add-value : (a b : Marked) → (marked_add a b).value ≡ add binary64 a.value b.value
unfolding marked_add
add-value a b = refl

pub sub-value : (a b : Marked) → (marked_sub a b).value ≡ sub binary64 a.value b.value
unfolding marked_sub
sub-value a b = refl

pub mul-value : (a b : Marked) → (marked_mul a b).value ≡ mul binary64 a.value b.value
unfolding marked_mul
mul-value a b = refl

pub div_value : (a b : Marked) → (marked_div a b).value ≡ div binary64 a.value b.value
unfolding marked_div
div_value a b = refl

pub root-value : (a : Marked) → (marked_root a).value ≡ square_root a.value
unfolding marked_root
root-value a = refl

pub magnitude-value : (a : Marked) → (marked_magnitude a).value ≡ magnitude a.value
unfolding marked_magnitude
magnitude-value a = refl

pub also-value : (a b : Marked) → (also a b).value ≡ a.value
unfolding also
also-value a b = refl

-- ---- what a mark bears
pub record Bears (t : ℕ) (a : Marked) : Type 0 where
  mark : T a.inside
  small : t ≤ most_borne

-- a number bears what its mark bears
pub mark-bears : {t : ℕ} (a : Marked) → MarkBears t (is_inside a) → Bears t a
mark-bears a h = record { mark = of_eq h.inside; small = h.covered }

-- an inside mark bears all that any bears
pub inside-bears : {t : ℕ} {m : Mark} → t ≤ most_borne → m ≡ true → MarkBears t m
inside-bears h i = record { inside = i; covered = h }

-- another number with a mark, under the same bound
at : {t : ℕ} {a b : Marked} → Bears t a → T b.inside → Bears t b
at {b = b} h i = record { mark = i; small = h.small }

-- a step's mark: the operands' marks, and the result's own test
step-parts : (a b : Marked) (r : Float) → T (step_mark a b r) → T a.inside × T b.inside × T (in_range r)
unfolding step_mark
step-parts a b r t =
    let m = a.inside && b.inside in
    let n = in_range a.value && in_range b.value in
    let i = and_l m n (and_l (m && n) (in_range r) t) in
    (and_l a.inside b.inside i, and_r a.inside b.inside i, and_r (m && n) (in_range r) t)

-- ---- a later mark implies the earlier ones
pub add-bears : {t : ℕ} (a b : Marked) → Bears t (marked_add a b) → Bears t a × Bears t b
unfolding marked_add
add-bears a b h = let p = step-parts a b (add binary64 a.value b.value) h.mark in (at h p.0, at h p.1)

pub sub-bears : {t : ℕ} (a b : Marked) → Bears t (marked_sub a b) → Bears t a × Bears t b
unfolding marked_sub
sub-bears a b h = let p = step-parts a b (sub binary64 a.value b.value) h.mark in (at h p.0, at h p.1)

pub mul-bears : {t : ℕ} (a b : Marked) → Bears t (marked_mul a b) → Bears t a × Bears t b
unfolding marked_mul
mul-bears a b h =
    let r = mul binary64 a.value b.value in
    let p = step-parts a b r (and_l (step_mark a b r) (not (lost_product a.value b.value r)) h.mark) in
    (at h p.0, at h p.1)

pub div-bears : {t : ℕ} (a b : Marked) → Bears t (marked_div a b) → Bears t a × Bears t b
unfolding marked_div
div-bears a b h =
    let r = div binary64 a.value b.value in
    let p = step-parts a b r (and_l (step_mark a b r) (not (lost_quotient a.value r)) h.mark) in
    (at h p.0, at h p.1)

pub root-bears : {t : ℕ} (a : Marked) → Bears t (marked_root a) → Bears t a
unfolding marked_root
root-bears a h =
    let r = in_range (square_root a.value) in
    at h (and_l a.inside (in_range a.value) (and_l (a.inside && in_range a.value) r h.mark))

pub magnitude-bears : {t : ℕ} (a : Marked) → Bears t (marked_magnitude a) → Bears t a
unfolding marked_magnitude
magnitude-bears a h = at h h.mark

pub also-bears : {t : ℕ} (a b : Marked) → Bears t (also a b) → Bears t a × Bears t b
unfolding also
also-bears a b h = (at h (and_l a.inside b.inside h.mark), at h (and_r a.inside b.inside h.mark))

-- ---- what the two tests on zeros say of a result that is zero
or-of : (x y : Bool) → (not x && not y) ≡ false → T (x || y)
or-of true y h = tt
or-of false true h = tt
or-of false false h = mathlib.Core.Bool.true≢false h

kept : (z w : Bool) → T (not (z && w)) → T z → w ≡ false
kept true true t k = absurd t
kept true false t k = refl
kept false w t k = absurd k

factor-zero : (x y r : Float) → T (not (lost_product x y r)) → Zero r → Zero x ⊎ Zero y
unfolding lost_product
factor-zero x y r t z = go (or_cases (is_zero x) (is_zero y) (or-of (is_zero x) (is_zero y) (kept (is_zero r) (not (is_zero x) && not (is_zero y)) t (test-of-zero r z))))
  where
    go : T (is_zero x) ⊎ T (is_zero y) → Zero x ⊎ Zero y
    go (inl p) = inl (zero-of-test x p)
    go (inr p) = inr (zero-of-test y p)

numerator-zero : (x r : Float) → T (not (lost_quotient x r)) → Zero r → Zero x
unfolding lost_quotient
numerator-zero x r t z = zero-of-test x (is (is_zero x) (kept (is_zero r) (not (is_zero x)) t (test-of-zero r z)))
  where
    is : (b : Bool) → not b ≡ false → T b
    is true h = tt
    is false h = mathlib.Core.Bool.true≢false h

-- ---- the relation: where a bears 2 ^ t, the second run's value is a's times 2 ^ u
abbrev pub Moves : ℕ → ℤ → Marked → Marked → Type 0
Moves t u a a' = Bears t a → Tied u a.value a'.value

pub given-moves : {t : ℕ} (u : ℤ) (x x' : Float) → Tied u x x' → Moves t u (given x) (given x')
given-moves u x x' h b = h

-- what is in range can be scaled by each power that a mark bears
range-safe : (u : ℤ) (t : ℕ) (x : Float) → nat_abs u ≤ t → t ≤ most_borne → T (in_range x) → Safe binary64 u x
range-safe u t x n k i = go (range-cases x i)
  where
    go : Zero x ⊎ Within binary64 274 1875 x → Safe binary64 u x
    go (inl z) = zero-safe binary64 u x z
    go (inr w) = safe-within binary64 u 274 1875 most_borne x (le_trans n k) (lit≤ tt) (lit≤ tt) w

-- ---- the operands of a step: they can be scaled too, and are f64 numbers again
safe-fits : (u : ℤ) (x : Float) → Safe binary64 u x → T (fits binary64 x) → T (fits binary64 (scale u x))
safe-fits u nan k f = f
safe-fits u (inf s) k f = f
safe-fits u (fin s zero e) k f = f
safe-fits u (fin s (suc m) e) k f =
    subst (λ (y : Float). T (fits binary64 y)) (normal-is-mul binary64 u (fin s (suc m) e) f (within-mono binary64 (prec binary64) (low binary64 + suc (emax binary64)) (prec binary64 - 1) (low binary64 + suc (emax binary64)) (scale u (fin s (suc m) e)) (lit≤ tt) (lit≤ tt) k.1))
    (mul-fits binary64 (fin s (suc m) e) (power_of_two u))

operands-in-range : (a b : Marked) (r : Float) → T (step_mark a b r) → T (in_range a.value) × T (in_range b.value)
unfolding step_mark
operands-in-range a b r t =
    let m = a.inside && b.inside in
    let n = in_range a.value && in_range b.value in
    let i = and_r m n (and_l (m && n) (in_range r) t) in
    (and_l (in_range a.value) (in_range b.value) i, and_r (in_range a.value) (in_range b.value) i)

module _ {t : ℕ} where
  pub add-moves : (u : ℤ) → nat_abs u ≤ t → (a b a' b' : Marked) → Moves t u a a' → Moves t u b b' → Moves t u (marked_add a b) (marked_add a' b')
  unfolding marked_add
  add-moves u n a b a' b' p q h =
      let r = add binary64 a.value b.value in
      let s = step-parts a b r h.mark in
      add-tied u (p (at h s.0)) (q (at h s.1)) (range-safe u t r n h.small s.2)

  pub sub-moves : (u : ℤ) → nat_abs u ≤ t → (a b a' b' : Marked) → Moves t u a a' → Moves t u b b' → Moves t u (marked_sub a b) (marked_sub a' b')
  unfolding marked_sub
  sub-moves u n a b a' b' p q h =
      let r = sub binary64 a.value b.value in
      let s = step-parts a b r h.mark in
      sub-tied u (p (at h s.0)) (q (at h s.1)) (range-safe u t r n h.small s.2)

  pub mul-moves : (u v : ℤ) → nat_abs (u +ℤ v) ≤ t → (a b a' b' : Marked) → Moves t u a a' → Moves t v b b' → Moves t (u +ℤ v) (marked_mul a b) (marked_mul a' b')
  unfolding marked_mul
  mul-moves u v n a b a' b' p q h =
      let x = a.value in
      let y = b.value in
      let r = mul binary64 x y in
      let s = step-parts a b r (and_l (step_mark a b r) (not (lost_product x y r)) h.mark) in
      mul-tied u v (p (at h s.0)) (q (at h s.1)) (range-safe (u +ℤ v) t r n h.small s.2) (factor-zero x y r (and_r (step_mark a b r) (not (lost_product x y r)) h.mark))

  pub div-moves : (u v : ℤ) → nat_abs (u -ℤ v) ≤ t → (a b a' b' : Marked) → Moves t u a a' → Moves t v b b' → Moves t (u -ℤ v) (marked_div a b) (marked_div a' b')
  unfolding marked_div
  div-moves u v n a b a' b' p q h =
      let x = a.value in
      let r = div binary64 x b.value in
      let s = step-parts a b r (and_l (step_mark a b r) (not (lost_quotient x r)) h.mark) in
      div-tied u v (p (at h s.0)) (q (at h s.1)) (range-safe (u -ℤ v) t r n h.small s.2) (numerator-zero x r (and_r (step_mark a b r) (not (lost_quotient x r)) h.mark))

  pub sub-operands : (u : ℤ) → nat_abs u ≤ t → (a b : Marked) → Bears t (marked_sub a b) → T (fits binary64 a.value) → T (fits binary64 b.value)
      → T (fits binary64 (scale u a.value)) × T (fits binary64 (scale u b.value))
  unfolding marked_sub
  sub-operands u n a b h f g =
      let p = operands-in-range a b (sub binary64 a.value b.value) h.mark in
      (safe-fits u a.value (range-safe u t a.value n h.small p.0) f, safe-fits u b.value (range-safe u t b.value n h.small p.1) g)

  pub mul-operands : (u : ℤ) → nat_abs u ≤ t → (a b : Marked) → Bears t (marked_mul a b) → T (fits binary64 a.value) → T (fits binary64 b.value)
      → T (fits binary64 (scale u a.value)) × T (fits binary64 (scale u b.value))
  unfolding marked_mul
  mul-operands u n a b h f g =
      let r = mul binary64 a.value b.value in
      let p = operands-in-range a b r (and_l (step_mark a b r) (not (lost_product a.value b.value r)) h.mark) in
      (safe-fits u a.value (range-safe u t a.value n h.small p.0) f, safe-fits u b.value (range-safe u t b.value n h.small p.1) g)

  pub div-operands : (u : ℤ) → nat_abs u ≤ t → (a b : Marked) → Bears t (marked_div a b) → T (fits binary64 a.value) → T (fits binary64 b.value)
      → T (fits binary64 (scale u a.value)) × T (fits binary64 (scale u b.value))
  unfolding marked_div
  div-operands u n a b h f g =
      let r = div binary64 a.value b.value in
      let p = operands-in-range a b r (and_l (step_mark a b r) (not (lost_quotient a.value r)) h.mark) in
      (safe-fits u a.value (range-safe u t a.value n h.small p.0) f, safe-fits u b.value (range-safe u t b.value n h.small p.1) g)

  -- a root halves the shift, whatever its size
  pub root-moves : (u : ℤ) (a a' : Marked) → Moves t (u +ℤ u) a a' → Moves t u (marked_root a) (marked_root a')
  unfolding marked_root
  root-moves u a a' p h =
      let i = in_range (square_root a.value) in
      let k = p (at h (and_l a.inside (in_range a.value) (and_l (a.inside && in_range a.value) i h.mark))) in
      record { fine = root-fits a.value k.fine; moved = ap square_root k.moved ∙ root-scale u a.value }

  pub magnitude-moves : (u : ℤ) (a a' : Marked) → Moves t u a a' → Moves t u (marked_magnitude a) (marked_magnitude a')
  unfolding marked_magnitude
  magnitude-moves u a a' p h =
      let k = p (at h h.mark) in
      record { fine = magnitude-fits a.value k.fine; moved = ap magnitude k.moved ∙ magnitude-scale u a.value }

  pub also-moves : (u : ℤ) (a b a' b' : Marked) → Moves t u a a' → Moves t u (also a b) (also a' b')
  unfolding also
  also-moves u a b a' b' p h = p (at h (and_l a.inside b.inside h.mark))
