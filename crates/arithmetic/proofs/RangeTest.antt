-- What the mark's test, by comparison of magnitudes, says: a zero, or between 2 ^ -800 and 2 ^ 801; and so a binary exponent from -800 to 800, ends included.
use mathlib.Core.Path.{◌≡◌, refl, sym, ap, ◌∙◌, subst}
use Prim.Native.Nat.{ℕ, zero, suc, ◌-◌, ◌*◌, ◌^◌, ◌≤◌, ◌<◌}
use native.Mathlib.Nat.{le_trans, le_of_eq, le_of_lt, lt_of_lt_of_le, lt_of_le_of_lt, mul_assoc, mul_comm, mul-one, one-mul, mul-pos, mul-le-mul_right, mul-le-mul_left, mul-lt-mul_of_pos_right, lt_of_mul-lt-mul_right, eq_of_mul-eq-mul_right, zero-lt-suc, lt_irrefl, zero-mul, lt_of_not-le, not-le_of_lt, le_of_suc-le-suc}
use native.Mathlib.Omega.{arith}
use mathlib.Core.Bool.{Bool, true, false, ◌&&◌, ◌||◌, beq}
use mathlib.Core.Logic.{◌⊎◌, inl, inr}
use lib.IntN.{ℤ, pos, negsuc, suc_ℤ, nat_abs, ◌+ℤ◌, +ℤ-suc_ℤ}
use lib.Dec.{T, ltb, eqb, ltb→lt, lt→ltb, eqb→eq, lit≤}
use lib.Pow.{pow_pos, pow_mono}
use lib.Ieee.{Float, nan, inf, fin, binary64, up, down, size, lt, le, eq}
use lib.Ieee.Digits.{size-lt, size_reaches}
use lib.Ieee.Fits.{up_pos, down_pos, and_l, and_r, and_i, eq→eqb}
use Rattle.arithmetic.specs.Numbers.{magnitude, is_zero}
use Rattle.arithmetic.specs.Scale.{HasExponent}
use Rattle.arithmetic.specs.Marks.{least, limit, in_range}
use Rattle.arithmetic.proofs.ScaleLaws.{up-add}
use Rattle.arithmetic.proofs.Rounding.{Within}
use Rattle.arithmetic.proofs.Operations.{size-pos, Zero}

pub or_cases : (a b : Bool) → T (a || b) → T a ⊎ T b
or_cases true b t = inl tt
or_cases false b t = inr t

pub or_left : (a b : Bool) → T a → T (a || b)
or_left true b t = tt
or_left false b t = absurd t

pub or_right : (a b : Bool) → T b → T (a || b)
or_right true b t = tt
or_right false b t = t

-- ---- zeros
none_of : (m p : ℕ) → 0 < p → m * p * 1 ≡ 0 → m ≡ 0
none_of m p P h = eq_of_mul-eq-mul_right p P m 0 (sym (mul-one (m * p)) ∙ h ∙ sym (zero-mul p))

pub zero-of-test : (x : Float) → T (is_zero x) → Zero x
unfolding is_zero eq
zero-of-test nan t = t
zero-of-test (inf s) t = t
zero-of-test (fin s m e) t = none_of m (up e) (up_pos e) (eqb→eq (m * up e * 1) (0 * down e) (and_l (eqb (m * up e * 1) (0 * down e)) (beq s false || eqb (m * up e * 1) 0) t) ∙ zero-mul (down e))

pub test-of-zero : (x : Float) → Zero x → T (is_zero x)
unfolding is_zero eq
test-of-zero nan z = z
test-of-zero (inf s) z = z
test-of-zero (fin s m e) z =
    let h : m * up e * 1 ≡ 0 = ap (λ (k : ℕ). k * up e * 1) z ∙ omega arith in
    and_i (eqb (m * up e * 1) (0 * down e)) (beq s false || eqb (m * up e * 1) 0) (eq→eqb (h ∙ sym (zero-mul (down e)))) (or_right (beq s false) (eqb (m * up e * 1) 0) (eq→eqb h))

-- ---- the two comparisons as orders of whole numbers: m * 2 ^ e is m * up e / down e
pub record Between (m : ℕ) (e : ℤ) : Type 0 where
  pub from : 1 * down e ≤ m * up e * 2 ^ 800
  pub below : m * up e * 1 < 2 ^ 801 * down e

between-of-test : (s : Bool) (m : ℕ) (e : ℤ) → T (le least (magnitude (fin s m e)) && lt (magnitude (fin s m e)) limit) → Between m e
unfolding le lt eq magnitude
between-of-test s m e t =
    let a = 1 * down e in
    let b = m * up e * 2 ^ 800 in
    let A = ltb a b || (eqb a b && true) in
    let B = ltb (m * up e * 1) (2 ^ 801 * down e) in
    record { from = go (or_cases (ltb a b) (eqb a b && true) (and_l A B t)); below = ltb→lt (m * up e * 1) (2 ^ 801 * down e) (and_r A B t) }
  where
    go : T (ltb (1 * down e) (m * up e * 2 ^ 800)) ⊎ T (eqb (1 * down e) (m * up e * 2 ^ 800) && true) → 1 * down e ≤ m * up e * 2 ^ 800
    go (inl l) = le_of_lt (ltb→lt (1 * down e) (m * up e * 2 ^ 800) l)
    go (inr l) = le_of_eq (eqb→eq (1 * down e) (m * up e * 2 ^ 800) (and_l (eqb (1 * down e) (m * up e * 2 ^ 800)) true l))

test-of-between : (s : Bool) (m : ℕ) (e : ℤ) → Between m e → T (le least (magnitude (fin s m e)) && lt (magnitude (fin s m e)) limit)
unfolding le lt eq magnitude
test-of-between s m e h =
    let a = 1 * down e in
    let b = m * up e * 2 ^ 800 in
    and_i (ltb a b || (eqb a b && true)) (ltb (m * up e * 1) (2 ^ 801 * down e)) (go (native.Mathlib.Nat.eq-or-lt_of_le h.from)) (lt→ltb (m * up e * 1) (2 ^ 801 * down e) h.below)
  where
    go : (1 * down e ≡ m * up e * 2 ^ 800) ⊎ (1 * down e < m * up e * 2 ^ 800) → T (ltb (1 * down e) (m * up e * 2 ^ 800) || (eqb (1 * down e) (m * up e * 2 ^ 800) && true))
    go (inl q) = or_right (ltb (1 * down e) (m * up e * 2 ^ 800)) (eqb (1 * down e) (m * up e * 2 ^ 800) && true) (and_i (eqb (1 * down e) (m * up e * 2 ^ 800)) true (eq→eqb q) tt)
    go (inr q) = or_left (ltb (1 * down e) (m * up e * 2 ^ 800)) (eqb (1 * down e) (m * up e * 2 ^ 800) && true) (lt→ltb (1 * down e) (m * up e * 2 ^ 800) q)

-- a number with a test that passed is finite
between-any : (x : Float) → T (le least (magnitude x) && lt (magnitude x) limit) → (s : Bool) × (m : ℕ) × (e : ℤ) × (x ≡ fin s m e) × Between m e
unfolding le lt eq magnitude
between-any nan t = absurd t
between-any (inf s) t = absurd t
between-any (fin s m e) t = (s, m, e, refl, between-of-test s m e t)

-- ---- in units of 2 ^ -1074: from 2 ^ 274 on, and below 2 ^ 1875
up_le : (d n p q r : ℕ) → r ≡ p * q → 1 * d ≤ n * p → q * d ≤ n * r
up_le d n p q r h k = le_trans (le_of_eq (ap (λ (z : ℕ). q * z) (sym (one-mul d)) ∙ mul_comm q (1 * d))) (le_trans (mul-le-mul_right q k) (le_of_eq (mul_assoc n p q ∙ ap (λ (z : ℕ). n * z) (sym h))))

up_lt : (d n p q r : ℕ) → r ≡ p * q → 0 < q → n * 1 < p * d → n * q < r * d
up_lt d n p q r h Q k = lt_of_lt_of_le (lt_of_le_of_lt (le_of_eq (ap (λ (z : ℕ). z * q) (sym (mul-one n)))) (mul-lt-mul_of_pos_right k Q)) (le_of_eq (step p d q r h))
  where
    step : (p d q r : ℕ) → r ≡ p * q → p * d * q ≡ r * d
    step p d q r h = omega (arith, ap (λ (z : ℕ). z * d) h)

between-within : (s : Bool) (m : ℕ) (e : ℤ) → Between m e → Within binary64 274 1875 (fin s m e)
between-within s m e h = (
  up_le (down e) (m * up e) (2 ^ 800) (2 ^ 274) (2 ^ 1074) refl h.from,
  up_lt (down e) (m * up e) (2 ^ 801) (2 ^ 1074) (2 ^ 1875) refl (pow_pos 1074) h.below,
)

pub range-cases : (x : Float) → T (in_range x) → Zero x ⊎ Within binary64 274 1875 x
unfolding in_range
range-cases x t = go (or_cases (is_zero x) (le least (magnitude x) && lt (magnitude x) limit) t)
  where
    go : T (is_zero x) ⊎ T (le least (magnitude x) && lt (magnitude x) limit) → Zero x ⊎ Within binary64 274 1875 x
    go (inl z) = inl (zero-of-test x z)
    go (inr w) = let b = between-any x w in inr (subst (Within binary64 274 1875) (sym b.3) (between-within b.0 b.1 b.2 b.4))

-- ---- the binary exponent: m * 2 ^ d, m of z digits, has the exponent d + z - 1
last : (z : ℕ) → 0 < z → (z - 1 < z) × (suc (z - 1) ≡ z)
last z h = omega arith

lower-end : (u d p m U D : ℕ) → U * (d * 1) ≡ u * p * D → p ≤ m → U * d ≤ m * u * D
lower-end u d p m U D h k = le_trans (le_of_eq (ap (λ (x : ℕ). U * x) (sym (mul-one d)) ∙ h ∙ swap u p D)) (le_trans (mul-le-mul_right (u * D) k) (le_of_eq (sym (mul_assoc m u D))))
  where
    swap : (u p D : ℕ) → u * p * D ≡ p * (u * D)
    swap u p D = omega arith

upper-end : (u d p m U D : ℕ) → 0 < u → 0 < D → U * (d * 1) ≡ u * p * D → m < p → m * u * D < U * d
upper-end u d p m U D P Q h k = lt_of_le_of_lt (le_of_eq (mul_assoc m u D)) (lt_of_lt_of_le (mul-lt-mul_of_pos_right k (mul-pos P Q)) (le_of_eq (swap u p D ∙ sym h ∙ ap (λ (x : ℕ). U * x) (mul-one d))))
  where
    swap : (u p D : ℕ) → p * (u * D) ≡ u * p * D
    swap u p D = omega arith

-- every finite number that is not zero has a binary exponent
pub has-exponent : (s : Bool) (m : ℕ) (d : ℤ) → HasExponent (fin s (suc m) d) (d +ℤ pos (size (suc m) - 1))
has-exponent s m d =
    let n = suc m in
    let z = size n - 1 in
    let l = last (size n) (size-pos n (zero-lt-suc m)) in (
      lower-end (up d) (down d) (2 ^ z) n (up (d +ℤ pos z)) (down (d +ℤ pos z)) (up-add d (pos z)) (size_reaches n z l.0),
      subst (λ (e : ℤ). n * up d * down e < up e * down d) (+ℤ-suc_ℤ d (pos z))
          (upper-end (up d) (down d) (2 ^ suc z) n (up (d +ℤ pos (suc z))) (down (d +ℤ pos (suc z))) (up_pos d) (down_pos (d +ℤ pos (suc z))) (up-add d (pos (suc z)))
          (subst (λ (k : ℕ). n < 2 ^ k) (sym l.1) (size-lt n))),
    )

-- ---- between 2 ^ -800 and 2 ^ 801 just where the exponent is from -800 to 800
pow_lt_back : (a b : ℕ) → 2 ^ a < 2 ^ b → a < b
pow_lt_back a b h = lt_of_not-le (λ (g : b ≤ a). lt_irrefl (2 ^ a) (lt_of_lt_of_le h (pow_mono g)))

-- 2 ^ a ≤ x / d < 2 ^ b
above-below : (a b x d : ℕ) → 2 ^ a * d ≤ x * 1 → x * 1 < 2 ^ b * d → a < b
above-below a b x d h k = pow_lt_back a b (lt_of_mul-lt-mul_right d (lt_of_le_of_lt h k))

-- 2 ^ -b ≤ x / d < 2 ^ -a
below-above : (a b x d : ℕ) → x * 2 ^ a < 1 * d → 1 * d ≤ x * 2 ^ b → a < b
below-above a b x d h k = lt_of_not-le (λ (g : b ≤ a). lt_irrefl (1 * d) (lt_of_le_of_lt (le_trans k (mul-le-mul_left x (pow_mono g))) h))

least-of : (n : ℕ) → 0 ≤ n
least-of n = omega arith

exponent-of-between : (s : Bool) (m : ℕ) (d e : ℤ) → HasExponent (fin s m d) e → Between m d → nat_abs e ≤ 800
exponent-of-between s m d (pos n) h b = le_of_suc-le-suc (above-below n 801 (m * up d) (down d) h.0 b.below)
exponent-of-between s m d (negsuc zero) h b = lit≤ tt
exponent-of-between s m d (negsuc (suc n)) h b = below-above (suc n) 800 (m * up d) (down d) h.1 b.from

between-of-exponent : (s : Bool) (m : ℕ) (d e : ℤ) → HasExponent (fin s m d) e → nat_abs e ≤ 800 → Between m d
between-of-exponent s m d (pos n) h k = record {
  from = le_trans (mul-le-mul_right (down d) (pow_mono {i = 0} {j = n} (least-of n))) (le_trans h.0 (mul-le-mul_left (m * up d) (pow_mono {i = 0} {j = 800} (lit≤ tt))));
  below = lt_of_lt_of_le h.1 (mul-le-mul_right (down d) (pow_mono {i = suc n} {j = 801} (more n k)));
}
  where
    more : (n : ℕ) → n ≤ 800 → suc n ≤ 801
    more n h = omega arith
between-of-exponent s m d (negsuc n) h k = record {
  from = le_trans h.0 (mul-le-mul_left (m * up d) (pow_mono k));
  below = lt_of_lt_of_le (small n h.1) (mul-le-mul_right (down d) (pow_mono {i = 0} {j = 801} (lit≤ tt)));
}
  where
    small : (n : ℕ) → m * up d * down (suc_ℤ (negsuc n)) < up (suc_ℤ (negsuc n)) * down d → m * up d * 1 < 1 * down d
    small zero h = h
    small (suc n) h = lt_of_le_of_lt (mul-le-mul_left (m * up d) (pow_mono {i = 0} {j = suc n} (least-of (suc n)))) h

-- THE MARK'S TEST AND THE EXPONENT: what passes is a zero or has a binary exponent from -800 to 800 ..
pub range-exponent : (x : Float) → T (in_range x) → Zero x ⊎ ((e : ℤ) × HasExponent x e × (nat_abs e ≤ 800))
unfolding in_range
range-exponent x t = go (or_cases (is_zero x) (le least (magnitude x) && lt (magnitude x) limit) t)
  where
    go : T (is_zero x) ⊎ T (le least (magnitude x) && lt (magnitude x) limit) → Zero x ⊎ ((e : ℤ) × HasExponent x e × (nat_abs e ≤ 800))
    go (inl z) = inl (zero-of-test x z)
    go (inr w) = let b = between-any x w in at b.1 b.3 b.4
      where
        at : {s : Bool} (m : ℕ) {d : ℤ} → x ≡ fin s m d → Between m d → Zero x ⊎ ((e : ℤ) × HasExponent x e × (nat_abs e ≤ 800))
        at {s} zero {d} q b = inl (subst Zero (sym q) refl)
        at {s} (suc m) {d} q b =
            let e = d +ℤ pos (size (suc m) - 1) in
            inr (e, subst (λ (y : Float). HasExponent y e) (sym q) (has-exponent s m d), exponent-of-between s (suc m) d e (has-exponent s m d) b)

-- .. and all that is a zero or has such an exponent passes
pub exponent-range : (x : Float) (e : ℤ) → HasExponent x e → nat_abs e ≤ 800 → T (in_range x)
unfolding in_range
exponent-range nan e h k = absurd h
exponent-range (inf s) e h k = absurd h
exponent-range (fin s m d) e h k =
    or_right (is_zero (fin s m d)) (le least (magnitude (fin s m d)) && lt (magnitude (fin s m d)) limit) (test-of-between s m d (between-of-exponent s m d e h k))

pub zero-range : (x : Float) → Zero x → T (in_range x)
unfolding in_range
zero-range x z = or_left (is_zero x) (le least (magnitude x) && lt (magnitude x) limit) (test-of-zero x z)

-- the ends: 2 ^ -800 and the last f64 below 2 ^ 801 are in; the last f64 below 2 ^ -800 and 2 ^ 801 are out
pub range-ends :
    (in_range (fin false 1 (negsuc 799)) ≡ true) × (in_range (fin true 9007199254740991 (pos 748)) ≡ true) × (in_range (fin true 9007199254740991 (negsuc 852)) ≡ false) × (in_range (fin false 1 (pos 801)) ≡ false)
unfolding in_range is_zero magnitude le lt eq
range-ends = (refl, refl, refl, refl)
