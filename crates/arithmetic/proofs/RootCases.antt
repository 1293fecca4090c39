-- The root by cases, as the code goes: a NaN, a zero, a negative value, an infinity, and a pattern.
use mathlib.Core.Path.{◌≡◌, refl, sym, ap, ◌∙◌, subst}
use Prim.Native.Nat.{ℕ, zero, suc, ◌+◌, ◌-◌, ◌*◌, ◌/◌, ◌^◌, ◌≤◌, ◌<◌}
use native.Mathlib.Nat.{le_of_eq, lt_of_lt_of_le, mul-pos, mul-lt-mul_of_pos_right, zero-lt-suc, div-lt_iff_lt-mul, not-le_of_lt, eq-zero-or-pos}
use native.Mathlib.Omega.{arith}
use mathlib.Core.Bool.{true, false, not, true≢false, false≢true}
use mathlib.Core.Logic.{inl, inr}
use lib.IntN.{ℤ}
use lib.Dec.{T, ltb, lt→ltb, not_T}
use lib.Pow.{pow_pos}
use lib.Ieee.{Float, nan, inf, fin, binary64, up, down, size, fits, is_nan, eq, lt, ne, to_bits, of_bits}
use lib.Ieee.Fits.{up_pos, down_pos, kept-lt}
use lib.Ieee.Digits.{size-le}
use lib.Ieee.Bits.{of_bits-to_bits, of_bits-fits, is_true, is_false}
use lib.Ieee.Compare.{differs_from_itself}
use Rattle.arithmetic.specs.Numbers.{plus_zero, is_zero}
use Rattle.arithmetic.proofs.Operations.{Zero}
use Rattle.arithmetic.proofs.RangeTest.{zero-of-test, test-of-zero}
use Rattle.arithmetic.proofs.PlainLaws.{is_number, of_eq, clash, not-below}
use Rattle.arithmetic.proofs.PowerOfTwo.{fits-parts}
use Rattle.arithmetic.specs.SquareRoot.{square_root}
use Rattle.arithmetic.specs.joints.RootPattern.{root_bits}
use Rattle.arithmetic.proofs.RootPatterns.{root-bits}

pub root-nan : (x : Float) → ne x x ≡ true → x ≡ square_root x
unfolding square_root
root-nan x h = let e = differs_from_itself x (of_eq h) in e ∙ sym (ap square_root e)

root-of-zero : (x : Float) → Zero x → x ≡ square_root x
unfolding square_root
root-of-zero nan z = absurd z
root-of-zero (inf s) z = absurd z
root-of-zero (fin s m e) z = ap (λ (k : ℕ). fin s k e) z ∙ sym (ap (λ (k : ℕ). square_root (fin s k e)) z)

pub root-zero : (x : Float) → eq x plus_zero ≡ true → x ≡ square_root x
unfolding is_zero
root-zero x h = root-of-zero x (zero-of-test x (of_eq h))

pub root-negative : (x : Float) → eq x plus_zero ≡ false → lt x plus_zero ≡ true → nan ≡ square_root x
unfolding square_root lt
root-negative nan z h = refl
root-negative (inf true) z h = refl
root-negative (inf false) z h = absurd (false≢true h)
root-negative (fin true zero e) z h = clash (is_true (eq (fin true zero e) plus_zero) (unfold is_zero in test-of-zero (fin true zero e) refl)) z
root-negative (fin false m e) z h = absurd (not-below (m * up e * 1) (down e) (of_eq h))
root-negative (fin true (suc m) e) z h = refl

-- the pattern of a finite value that is not negative is below the infinity's
bits-finite : (m : ℕ) (e : ℤ) → m * up e < 2 ^ 1024 * down e → to_bits binary64 (fin false m e) < 2047 * 2 ^ 52
unfolding to_bits
bits-finite m e h =
    let n = m * up e * 2 ^ 1074 / down e in
    let top : n < 2 ^ 2098 = (div-lt_iff_lt-mul (down_pos e)).1 (lt_of_lt_of_le (mul-lt-mul_of_pos_right h (pow_pos 1074)) (le_of_eq (swap (down e) (2 ^ 1024) (2 ^ 1074) (2 ^ 2098) refl))) in
    small (size n) (n / 2 ^ (size n - 53)) (size-le n 2098 top) (kept-lt 53 n)
  where
    swap : (d x y z : ℕ) → z ≡ x * y → x * d * y ≡ z * d
    swap d x y z k = omega (arith, ap (λ (i : ℕ). i * d) k)

    small : (z r : ℕ) → z ≤ 2098 → r < 2 ^ 53 → 0 + (z - 53) * 2 ^ 52 + r < 2047 * 2 ^ 52
    small z r h k = omega arith

-- a value above zero
module _ (x : Float) (F : fits binary64 x ≡ true) (N : ne x x ≡ false) (Z : eq x plus_zero ≡ false) (L : lt x plus_zero ≡ false) where
  same : of_bits binary64 (to_bits binary64 x) ≡ x
  same = of_bits-to_bits binary64 x (of_eq F)

  no_bits : to_bits binary64 x ≡ 0 → ⊥
  unfolding of_bits eq
  no_bits e = true≢false (sym (ap (λ (y : Float). eq y plus_zero) (sym same ∙ ap (of_bits binary64) e)) ∙ Z)

  pub bits_pos : 0 < to_bits binary64 x
  bits_pos = elim (eq-zero-or-pos (to_bits binary64 x)) [ inl e ↦ absurd (no_bits e) | inr p ↦ p ]

  pub root-pattern : to_bits binary64 x < 2047 * 2 ^ 52 → of_bits binary64 (root_bits (to_bits binary64 x)) ≡ square_root x
  root-pattern h = sym (ap square_root (sym same) ∙ root-bits (to_bits binary64 x) bits_pos h)

pub root-infinite : (x : Float) → fits binary64 x ≡ true → ne x x ≡ false → eq x plus_zero ≡ false → lt x plus_zero ≡ false → 2047 * 2 ^ 52 ≤ to_bits binary64 x → x ≡ square_root x
unfolding square_root lt is_nan
root-infinite nan F N Z L h = absurd (is_number nan N)
root-infinite (inf true) F N Z L h = absurd (true≢false L)
root-infinite (inf false) F N Z L h = refl
root-infinite (fin s zero e) F N Z L h = refl
root-infinite (fin false (suc m) e) F N Z L h = absurd (not-le_of_lt (bits-finite (suc m) e (fits-parts binary64 false m e (of_eq F)).2) h)
root-infinite (fin true (suc m) e) F N Z L h = clash (is_true (ltb 0 (suc m * up e * 1 + 0 * down e)) (lt→ltb 0 (suc m * up e * 1 + 0 * down e) (lt_of_lt_of_le (mul-pos (mul-pos (zero-lt-suc m) (up_pos e)) (zero-lt-suc 0)) (native.Mathlib.Nat.le-add_right (suc m * up e * 1) (0 * down e))))) L

-- ---- a root fits
whole-fits : (m : ℕ) (e : ℤ) → T (fits binary64 (fin false (suc m) e)) → T (fits binary64 (square_root (fin false (suc m) e)))
unfolding is_zero is_nan lt
whole-fits m e t =
    let x = fin false (suc m) e in
    let b = to_bits binary64 x in
    let p = root-pattern x (is_true (fits binary64 x) t) (same-ne m e) (apart m e) (above m e) (bits-finite (suc m) e (fits-parts binary64 false m e t).2) in
    subst (λ (y : Float). T (fits binary64 y)) p (of_bits-fits binary64 (root_bits b))
  where
    same-ne : (m : ℕ) (e : ℤ) → ne (fin false (suc m) e) (fin false (suc m) e) ≡ false
    same-ne m e = is_false (ne (fin false (suc m) e) (fin false (suc m) e)) (not_T (ne (fin false (suc m) e) (fin false (suc m) e)) (λ q. subst (λ (y : Float). T (not (is_nan y))) (differs_from_itself (fin false (suc m) e) q) tt))

    never : (m : ℕ) → suc m ≡ 0 → ⊥
    never m h = omega arith

    apart : (m : ℕ) (e : ℤ) → eq (fin false (suc m) e) plus_zero ≡ false
    apart m e = is_false (eq (fin false (suc m) e) plus_zero) (not_T (eq (fin false (suc m) e) plus_zero) (λ q. never m (zero-of-test (fin false (suc m) e) q)))

    above : (m : ℕ) (e : ℤ) → lt (fin false (suc m) e) plus_zero ≡ false
    above m e = is_false (ltb (suc m * up e * 1) (0 * down e)) (not_T (ltb (suc m * up e * 1) (0 * down e)) (not-below (suc m * up e * 1) (down e)))

pub root-fits : (x : Float) → T (fits binary64 x) → T (fits binary64 (square_root x))
unfolding square_root fits
root-fits nan t = tt
root-fits (inf true) t = tt
root-fits (inf false) t = tt
root-fits (fin s zero e) t = t
root-fits (fin true (suc m) e) t = tt
root-fits (fin false (suc m) e) t = whole-fits m e t
