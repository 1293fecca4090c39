-- The plain helpers, as the code works them out, and what scaling does to them.
use mathlib.Core.Path.{◌≡◌, refl, sym, ap, ◌∙◌, subst}
use Prim.Native.Nat.{ℕ, zero, suc, ◌+◌, ◌*◌, ◌%◌, ◌^◌, ◌≤◌, ◌<◌}
use native.Mathlib.Nat.{zero-mul, mul-pos, zero-lt-suc, lt_of_lt_of_le}
use native.Mathlib.Omega.{arith}
use mathlib.Core.Bool.{Bool, true, false, not, ◌&&◌, cond, true≢false, false≢true}
use lib.IntN.{ℤ, pos}
use lib.Dec.{T, ltb, ltb→lt, lt→ltb, not_T}
use lib.Ieee.{Float, nan, inf, fin, binary64, up, down, lt, eq, ne, le, neg, fits, is_nan, nan_bits, of_bits, to_bits}
use lib.Ieee.Fits.{up_pos, of_int-fits}
use lib.Ieee.Bits.{is_true, nan_bits_is, nan_bits_above}
use lib.Ieee.Compare.{differs_from_itself}
use lib.Ieee.Exact.{HasValue}
use lib.Ieee.Back.{round_whole}
use Rattle.arithmetic.specs.Numbers.{plus_zero, one, minus_one, magnitude, is_zero, is_finite, sign, is_larger, of_count}
use Rattle.arithmetic.specs.Scale.{scale}
use Rattle.arithmetic.proofs.Operations.{Zero}
use Rattle.arithmetic.proofs.Rounding.{fits-written}
use Rattle.arithmetic.proofs.RangeTest.{zero-of-test, test-of-zero}
use Rattle.arithmetic.proofs.ScaleLaws.{lt-scale, eq-scale}

pub of_eq : {b : Bool} → b ≡ true → T b
of_eq e = subst (λ (c : Bool). T c) (sym e) tt

pub clash : {b : Bool} {X : Type 0} → b ≡ true → b ≡ false → X
clash p q = absurd (true≢false (sym p ∙ q))

-- ---- the magnitude, by the code's cases
magnitude-none : (x : Float) → T (fits binary64 x) → Zero x → plus_zero ≡ magnitude x
unfolding magnitude
magnitude-none nan t z = absurd z
magnitude-none (inf s) t z = absurd z
magnitude-none (fin s zero e) t z = ap (fin false zero) (sym (fits-written binary64 (fin s zero e) t))
magnitude-none (fin s (suc m) e) t z = absurd (some m z)
  where
    some : (m : ℕ) → suc m ≡ 0 → ⊥
    some m h = omega arith

pub magnitude-zero : (x : Float) → fits binary64 x ≡ true → eq x plus_zero ≡ true → plus_zero ≡ magnitude x
unfolding is_zero
magnitude-zero x f h = magnitude-none x (of_eq f) (zero-of-test x (of_eq h))

pub not-below : (a b : ℕ) → T (ltb a (0 * b)) → ⊥
not-below a b t = no a (0 * b) (zero-mul b) (ltb→lt a (0 * b) t)
  where
    no : (a z : ℕ) → z ≡ 0 → a < z → ⊥
    no a z e h = omega arith

pub magnitude-negative : (x : Float) → lt x plus_zero ≡ true → neg x ≡ magnitude x
unfolding magnitude lt neg
magnitude-negative nan h = absurd (false≢true h)
magnitude-negative (inf true) h = refl
magnitude-negative (inf false) h = absurd (false≢true h)
magnitude-negative (fin true m e) h = refl
magnitude-negative (fin false m e) h = absurd (not-below (m * up e * 1) (down e) (of_eq h))

pub magnitude-positive : (x : Float) → eq x plus_zero ≡ false → lt x plus_zero ≡ false → x ≡ magnitude x
unfolding magnitude lt is_zero
magnitude-positive nan z h = refl
magnitude-positive (inf true) z h = absurd (true≢false h)
magnitude-positive (inf false) z h = refl
magnitude-positive (fin false m e) z h = refl
magnitude-positive (fin true zero e) z h = clash (is_true (eq (fin true zero e) plus_zero) (test-of-zero (fin true zero e) refl)) z
magnitude-positive (fin true (suc m) e) z h =
    clash (is_true (ltb 0 (suc m * up e * 1 + 0 * down e)) (lt→ltb 0 (suc m * up e * 1 + 0 * down e)
    (lt_of_lt_of_le (mul-pos (mul-pos (zero-lt-suc m) (up_pos e)) (zero-lt-suc 0)) (native.Mathlib.Nat.le-add_right (suc m * up e * 1) (0 * down e))))) h

-- ---- the other helpers
number_is : (x : Float) → ne x x ≡ false → is_nan x ≡ false
unfolding ne is_nan
number_is nan h = absurd (true≢false h)
number_is (inf s) h = refl
number_is (fin s m e) h = refl

nan_is : is_nan nan ≡ true
unfolding is_nan
nan_is = refl

pub nan-test : (x : Float) → ne x x ≡ is_nan x
nan-test x = go (ne x x) refl
  where
    go : (b : Bool) → ne x x ≡ b → ne x x ≡ is_nan x
    go true h = h ∙ sym (ap is_nan (differs_from_itself x (of_eq h)) ∙ nan_is)
    go false h = h ∙ sym (number_is x h)

pub finite-test : (x : Float) → (lt (inf true) x && lt x (inf false)) ≡ is_finite x
unfolding lt is_finite
finite-test nan = refl
finite-test (inf true) = refl
finite-test (inf false) = refl
finite-test (fin s m e) = refl

-- ---- bit patterns
pattern-nan : (x : Float) → T (is_nan x) → x ≡ nan
unfolding is_nan
pattern-nan nan t = refl
pattern-nan (inf s) t = absurd t
pattern-nan (fin s m e) t = absurd t

-- a pattern above the infinity's, its sign apart, is a NaN's, and no other is
pub bits-nan : (b : ℕ) → 2047 * 2 ^ 52 < b % 2 ^ 63 → nan ≡ of_bits binary64 b
bits-nan b h = sym (pattern-nan (of_bits binary64 b) (subst T (sym (nan_bits_above binary64 b) ∙ nan_bits_is binary64 b) (lt→ltb (2047 * 2 ^ 52) (b % 2 ^ 63) h)))

pub bits-number : (b : ℕ) → b % 2 ^ 63 ≤ 2047 * 2 ^ 52 → T (not (nan_bits binary64 b))
bits-number b h = subst (λ (c : Bool). T (not c)) (sym (nan_bits_above binary64 b)) (not_T (ltb (2047 * 2 ^ 52) (b % 2 ^ 63)) (λ q. over (b % 2 ^ 63) h (ltb→lt (2047 * 2 ^ 52) (b % 2 ^ 63) q)))
  where
    over : (x : ℕ) → x ≤ 2047 * 2 ^ 52 → 2047 * 2 ^ 52 < x → ⊥
    over x h k = omega arith

-- what is written for a NaN
pub bits_of_nan : (x : Float) → ne x x ≡ true → 0x7ff8000000000000 ≡ to_bits binary64 x
unfolding to_bits
bits_of_nan x h = sym (ap (to_bits binary64) (differs_from_itself x (of_eq h)))

pub is_number : (x : Float) → ne x x ≡ false → T (not (is_nan x))
is_number x h = subst (λ (c : Bool). T (not c)) (sym h ∙ nan-test x) tt

-- a count up to 2 ^ 53 is exact
pub count-exact : (n : ℕ) → n ≤ 2 ^ 53 → HasValue (of_count n) false n 1
unfolding of_count lib.Ieee.of_int
count-exact n h = round_whole binary64 false n h

pub count_fits : (n : ℕ) → T (fits binary64 (of_count n))
unfolding of_count
count_fits n = of_int-fits binary64 (pos n)

-- ---- scaling: no condition
pub magnitude-scale : (u : ℤ) (x : Float) → magnitude (scale u x) ≡ scale u (magnitude x)
unfolding magnitude
magnitude-scale u nan = refl
magnitude-scale u (inf s) = refl
magnitude-scale u (fin s m e) = refl

pub zero-scale : (u : ℤ) (x : Float) → is_zero (scale u x) ≡ is_zero x
unfolding is_zero
zero-scale u x = eq-scale u x plus_zero

pub finite-scale : (u : ℤ) (x : Float) → is_finite (scale u x) ≡ is_finite x
unfolding is_finite
finite-scale u nan = refl
finite-scale u (inf s) = refl
finite-scale u (fin s m e) = refl

pub nan-scale : (u : ℤ) (x : Float) → is_nan (scale u x) ≡ is_nan x
unfolding is_nan
nan-scale u nan = refl
nan-scale u (inf s) = refl
nan-scale u (fin s m e) = refl

pub sign-scale : (u : ℤ) (x : Float) → sign (scale u x) ≡ sign x
unfolding sign
sign-scale u x = ap (λ (b : Bool). cond b minus_one one) (lt-scale u x plus_zero)

pub larger-scale : (u : ℤ) (x y : Float) → is_larger (scale u x) (scale u y) ≡ is_larger x y
unfolding is_larger
larger-scale u x y = ap (λ (z : Float). lt z (magnitude (scale u x))) (magnitude-scale u y) ∙ ap (lt (scale u (magnitude y))) (magnitude-scale u x) ∙ lt-scale u (magnitude y) (magnitude x)

-- the magnitude fits where the number does
pub magnitude-fits : (x : Float) → T (fits binary64 x) → T (fits binary64 (magnitude x))
unfolding magnitude fits
magnitude-fits nan t = tt
magnitude-fits (inf s) t = tt
magnitude-fits (fin s zero e) t = t
magnitude-fits (fin s (suc m) e) t = t
