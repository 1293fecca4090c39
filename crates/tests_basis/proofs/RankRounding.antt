-- Rounding to 53 binary digits, of a fraction n / d in units of the least f64: it keeps powers of two as bounds, and errs by little.
use mathlib.Core.Path.{◌≡◌, sym, ap, ◌∙◌, subst}
use mathlib.Core.Logic.{◌⊎◌, inl, inr}
use mathlib.Core.Bool.{not}
use Prim.Native.Nat.{ℕ, suc, ◌+◌, ◌-◌, ◌*◌, ◌/◌, ◌%◌, ◌^◌, ◌≤◌, ◌<◌, compare, Ordering}
use native.Mathlib.Nat.{le_trans, le_of_eq, lt_of_le_of_lt, mul-pos, mul_comm, mul-one, one-mul, mul-le-mul_right, div-add-mod', div-one, mod-one, le-div_iff_mul-le, eq-zero-or-pos, le_of_mul-le-mul_right, div-mul-le_self}
use native.Mathlib.Decide.{dec_le}
use native.Mathlib.Omega.{arith}
use lib.Dec.{T, is_le, compare_is_eq, leb→le, nleb→lt, eqb→eq}
use lib.Pow.{pow-add, pow_pos, pow_mono, pow-lt}
use lib.Ieee.{size, nearest}
use lib.Ieee.Digits.{size-le, size_reaches}
use lib.Ieee.Nearest.{closest, closest_mono, closest_same, div_same}
use lib.Ieee.Order.{drop, kept}

-- n / d rounded, in units
unfoldable pub fl : ℕ → ℕ → ℕ
fl n d = kept 53 n d * 2 ^ drop 53 n d

-- ---- the whole number nearest to a / b errs by a half at most
near-lt : (q r a b : ℕ) → q * b + r ≡ a → r * 2 ≤ b → (2 * (q * b) ≤ 2 * a + b) × (2 * a ≤ 2 * (q * b) + b)
near-lt q r a b e h = (omega arith, omega arith)

near-eq : (q w r a b : ℕ) → q * b + r ≡ a → w ≤ 1 → r * 2 ≡ b → (2 * ((q + w) * b) ≤ 2 * a + b) × (2 * a ≤ 2 * ((q + w) * b) + b)
near-eq q w r a b e l h =
    let k : w * b ≤ 1 * b = mul-le-mul_right b l in
    (omega arith, omega arith)

near-gt : (q r a b : ℕ) → q * b + r ≡ a → b < r * 2 → r < b → (2 * (suc q * b) ≤ 2 * a + b) × (2 * a ≤ 2 * (suc q * b) + b)
near-gt q r a b e h l = (omega arith, omega arith)

parity-le : (q : ℕ) → q % 2 ≤ 1
parity-le q = omega arith

closest-near : (a b : ℕ) → 0 < b → (2 * (closest a b * b) ≤ 2 * a + b) × (2 * a ≤ 2 * (closest a b * b) + b)
closest-near a b B = go (compare (a % b * 2) b) (leb→le (a % b * 2) b) (nleb→lt (a % b * 2) b) (eqb→eq (a % b * 2) b)
  where
    go : (o : Ordering) → (T (is_le o) → a % b * 2 ≤ b) → (T (not (is_le o)) → b < a % b * 2) → (T (compare_is_eq o) → a % b * 2 ≡ b)
        → (2 * (nearest (a / b) o * b) ≤ 2 * a + b) × (2 * a ≤ 2 * (nearest (a / b) o * b) + b)
    go Ordering.lt l g e = near-lt (a / b) (a % b) a b (div-add-mod' a b) (l tt)
    go Ordering.eq l g e = near-eq (a / b) (a / b % 2) (a % b) a b (div-add-mod' a b) (parity-le (a / b)) (e tt)
    go Ordering.gt l g e = near-gt (a / b) (a % b) a b (div-add-mod' a b) (g tt) (native.Mathlib.Nat.mod-lt a B)

closest-whole : (a : ℕ) → closest a 1 ≡ a
closest-whole a =
    ap (λ (z : ℕ). nearest z (compare (a % 1 * 2) 1)) (div-one a) ∙ ap (λ (z : ℕ). nearest a (compare (z * 2) 1)) (mod-one a)

-- ---- the error: half a unit, or one part in 1024
pub record Near (n d r : ℕ) : Type 0 where
  pub most : 2048 * (r * d) ≤ 2050 * n + 1024 * d
  pub least : 2046 * n ≤ 2048 * (r * d) + 1024 * d

near-one : (K d P n : ℕ) → P ≡ 1 → (2 * (K * (d * P)) ≤ 2 * n + d * P) × (2 * n ≤ 2 * (K * (d * P)) + d * P) → Near n d (K * P)
near-one K d P n e h = rw e (near K d n (rw e at h))
  where
    near : (K d n : ℕ) → (2 * (K * (d * 1)) ≤ 2 * n + d * 1) × (2 * n ≤ 2 * (K * (d * 1)) + d * 1) → Near n d (K * 1)
    near K d n h = record { most = omega (arith, h.0); least = omega (arith, h.1) }

near-more : (K d P n : ℕ) → 1024 * (d * P) ≤ 2 * n → (2 * (K * (d * P)) ≤ 2 * n + d * P) × (2 * n ≤ 2 * (K * (d * P)) + d * P) → Near n d (K * P)
near-more K d P n e h = record { most = omega (arith, h.0); least = omega (arith, h.1) }

pub fl-near : (n d : ℕ) → 0 < d → Near n d (fl n d)
unfolding fl
fl-near n d h = go (eq-zero-or-pos (drop 53 n d))
  where
    base : (2 * (kept 53 n d * (d * 2 ^ drop 53 n d)) ≤ 2 * n + d * 2 ^ drop 53 n d) × (2 * n ≤ 2 * (kept 53 n d * (d * 2 ^ drop 53 n d)) + d * 2 ^ drop 53 n d)
    base = closest-near n (d * 2 ^ drop 53 n d) (mul-pos h (pow_pos (drop 53 n d)))

    room : (z : ℕ) → 0 < z - 53 → 10 + (z - 53) < z
    room z l = omega arith

    wide : (x y n : ℕ) → 1024 * x * y ≤ n → 1024 * (y * x) ≤ 2 * n
    wide x y n l = omega arith

    go : (drop 53 n d ≡ 0) ⊎ (0 < drop 53 n d) → Near n d (kept 53 n d * 2 ^ drop 53 n d)
    go (inl e) = near-one (kept 53 n d) d (2 ^ drop 53 n d) n (ap (λ (z : ℕ). 2 ^ z) e) base
    go (inr l) =
        near-more (kept 53 n d) d (2 ^ drop 53 n d) n
        (wide (2 ^ drop 53 n d) d n
        (subst (λ (z : ℕ). z * d ≤ n) (pow-add 2 10 (drop 53 n d)) ((le-div_iff_mul-le h).0 (size_reaches (n / d) (10 + drop 53 n d) (room (size (n / d)) l)))))
        base

-- ---- powers of two as bounds
less_one : (z j : ℕ) → z ≤ suc j → z - 53 ≤ j
less_one z j h = omega arith

apart : (j k : ℕ) → k ≤ j → 2 ^ (j - k) * 2 ^ k ≡ 2 ^ j
apart j k h = sym (pow-add 2 (j - k) k) ∙ ap (λ (z : ℕ). 2 ^ z) (back j k h)
  where
    back : (j k : ℕ) → k ≤ j → j - k + k ≡ j
    back j k h = omega arith

regroup : (x y d z : ℕ) → x * y ≡ z → x * (d * y) ≡ z * d
regroup x y d z e = omega (arith, ap (λ (i : ℕ). i * d) e)

pub fl-le : (n d j : ℕ) → 0 < d → n ≤ 2 ^ j * d → fl n d ≤ 2 ^ j
unfolding fl
fl-le n d j h l =
    let k = drop 53 n d in
    let w : n / d < 2 ^ suc j = lt_of_le_of_lt (le_of_mul-le-mul_right (le_trans (div-mul-le_self n d) l) h) (pow-lt (omega arith)) in
    let kj : drop 53 n d ≤ j = less_one (size (n / d)) j (size-le (n / d) (suc j) w) in
    let e : 2 ^ (j - k) * 2 ^ k ≡ 2 ^ j = apart j k kj in
    let c : closest n (d * 2 ^ k) ≤ closest (2 ^ (j - k)) 1 =
    closest_mono n (d * 2 ^ k) (2 ^ (j - k)) 1 (mul-pos h (pow_pos k)) (pow_pos 0) (le_trans (le_of_eq (mul-one n)) (le_trans l (le_of_eq (sym (regroup (2 ^ (j - k)) (2 ^ k) d (2 ^ j) e))))) in
    le_trans (mul-le-mul_right (2 ^ k) (le_trans c (le_of_eq (closest-whole (2 ^ (j - k)))))) (le_of_eq e)

pub fl-ge : (n d j : ℕ) → 0 < d → 2 ^ j * d ≤ n → 2 ^ j ≤ fl n d
unfolding fl
fl-ge n d j h l = go (dec_le (drop 53 n d) j)
  where
    less : (z j : ℕ) → (z - 53 ≤ j → ⊥) → z - 53 < z
    less z j g = omega arith

    at_least : (a : ℕ) → a * (d * 2 ^ drop 53 n d) ≤ n → a ≤ kept 53 n d
    at_least a g =
        le_trans (le_of_eq (sym (closest-whole a)))
        (closest_mono a 1 n (d * 2 ^ drop 53 n d) (pow_pos 0) (mul-pos h (pow_pos (drop 53 n d))) (le_trans g (le_of_eq (sym (mul-one n)))))

    go : Dec (drop 53 n d ≤ j) → 2 ^ j ≤ kept 53 n d * 2 ^ drop 53 n d
    go (yes g) =
        let e : 2 ^ (j - drop 53 n d) * 2 ^ drop 53 n d ≡ 2 ^ j = apart j (drop 53 n d) g in
        le_trans (le_of_eq (sym e))
        (mul-le-mul_right (2 ^ drop 53 n d) (at_least (2 ^ (j - drop 53 n d)) (le_trans (le_of_eq (regroup (2 ^ (j - drop 53 n d)) (2 ^ drop 53 n d) d (2 ^ j) e)) l)))
    go (no g) =
        let w : 2 ^ drop 53 n d * d ≤ n = (le-div_iff_mul-le h).0 (size_reaches (n / d) (drop 53 n d) (less (size (n / d)) j g)) in
        le_trans (pow_mono (native.Mathlib.Nat.le_of_lt (native.Mathlib.Nat.lt_of_not-le g)))
        (le_trans (le_of_eq (sym (one-mul (2 ^ drop 53 n d))))
        (mul-le-mul_right (2 ^ drop 53 n d) (at_least 1 (le_trans (le_of_eq (one-mul (d * 2 ^ drop 53 n d) ∙ mul_comm d (2 ^ drop 53 n d))) w))))

-- equal fractions
pub fl-same : (n d n' d' : ℕ) → 0 < d → 0 < d' → n * d' ≡ n' * d → fl n d ≡ fl n' d'
unfolding fl
fl-same n d n' d' h h' e =
    let k = drop 53 n' d' in
    let f : drop 53 n d ≡ k = ap (λ (z : ℕ). size z - 53) (div_same n d n' d' h h' e) in
    ap (λ (z : ℕ). closest n (d * 2 ^ z) * 2 ^ z) f
    ∙ ap (λ (z : ℕ). z * 2 ^ k) (closest_same n (d * 2 ^ k) n' (d' * 2 ^ k) (mul-pos h (pow_pos k)) (mul-pos h' (pow_pos k)) (wider (2 ^ k)))
  where
    wider : (P : ℕ) → n * (d' * P) ≡ n' * (d * P)
    wider P = omega (arith, ap (λ (z : ℕ). z * P) e)
