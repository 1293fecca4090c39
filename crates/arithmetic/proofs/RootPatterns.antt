-- The root of a positive finite f64 by its bit pattern.
use mathlib.Core.Path.{◌≡◌, refl, sym, ap, ◌∙◌, subst}
use Prim.Native.Nat.{ℕ, zero, suc, ◌+◌, ◌-◌, ◌*◌, ◌/◌, ◌%◌, ◌^◌, ◌≤◌, ◌<◌}
use native.Mathlib.Nat.{le_trans, le_of_eq, le_of_lt, lt_of_lt_of_le, lt_of_le_of_lt, lt_of_not-le, not-le_of_lt, lt_irrefl, le_antisymm, le_of_suc-le-suc, mul-one, one-mul, mul-pos, mul_assoc, mul_comm, mul-le-mul, mul-le-mul_right, mul-lt-mul_of_pos_right, eq_of_mul-eq-mul_right, zero-lt-suc, zero-mul, div-lt_iff_lt-mul, pow-suc, eq-or-lt_of_le}
use native.Mathlib.Omega.{arith}
use mathlib.Core.Bool.{Bool, false, not, cond}
use lib.IntN.{ℤ, pos, negsuc, neg_ℤ, sub_ℕ, ◌+ℤ◌, ◌-ℤ◌, +ℤ_assoc, -ℤ-+ℤ_cancel}
use lib.Dec.{T, ltb, leb, eqb, ltb→lt, nltb→le, leb→le, nleb→lt}
use lib.Pow.{pow-add, pow_pos, pow_mono, shl_exact}
use lib.Count.{count_leading_zeros, leading_top}
use lib.Ieee.{Float, nan, inf, fin, binary64, up, down, size, round, fits, odd, of_bits, of_fields, nan_bits, ones, hid, top}
use lib.Ieee.Fits.{down_pos, round-fits}
use lib.Ieee.Exact.{HasValue, odd_sign}
use lib.Ieee.Digits.{size-lt, size_reaches, size-le}
use lib.Ieee.Back.{round_whole}
use lib.Ieee.Bits.{of_bits-fits, cond_no, is_false, nan_bits_above}
use Rattle.arithmetic.specs.Scale.{scale}
use Rattle.arithmetic.proofs.ScaleLaws.{scale-val, sub_val, up-add}
use Rattle.arithmetic.proofs.Rounding.{unique, fits-written, scale-written}
use Rattle.arithmetic.proofs.Operations.{size-pos, up_neg, down-neg}
use Rattle.arithmetic.proofs.PowerOfTwo.{fits-parts}
use Rattle.arithmetic.specs.SquareRoot.{whole_root, half, parity, missing_digits, radicand, rounded, root_at, square_root}
use Rattle.arithmetic.proofs.RootWhole.{root-roots, below, half-add}
use Rattle.arithmetic.specs.joints.RootPattern.{lead, expo, pattern, root_bits}
use Rattle.arithmetic.specs.SquareRoot.{Full}

no_shift : (M N a b : ℕ) → Full M → Full N → M * 2 ^ a ≡ N * 2 ^ b → a < b → ⊥
no_shift M N a b m n e l =
    lt_irrefl (M * 2 ^ a)
    (lt_of_lt_of_le (mul-lt-mul_of_pos_right m.1 (pow_pos a))
    (le_trans (le_of_eq (sym (pow-add 2 53 a)))
    (le_trans (pow_mono (room a b l)) (le_trans (le_of_eq (pow-add 2 52 b)) (le_trans (mul-le-mul_right (2 ^ b) n.0) (le_of_eq (sym e)))))))
  where
    room : (a b : ℕ) → a < b → 53 + a ≤ 52 + b
    room a b h = omega arith

full-pow : (M N a b : ℕ) → Full M → Full N → M * 2 ^ a ≡ N * 2 ^ b → (M ≡ N) × (a ≡ b)
full-pow M N a b m n e =
    let s : a ≡ b = le_antisymm (le_of_suc-le-suc (lt_of_not-le (λ (g : suc b ≤ a). no_shift N M b a n m (sym e) g))) (le_of_suc-le-suc (lt_of_not-le (λ (g : suc a ≤ b). no_shift M N a b m n e g))) in
    (eq_of_mul-eq-mul_right (2 ^ b) (pow_pos b) M N (ap (λ (x : ℕ). M * 2 ^ x) (sym s) ∙ e), s)

-- M * 2 ^ E and N * 2 ^ D, equal: by the exponents' signs
not-zero : (k : ℕ) → suc k ≡ 0 → ⊥
not-zero k h = omega arith

full-unique : (M : ℕ) (e : ℤ) (N : ℕ) (d : ℤ) → Full M → Full N → M * up e * down d ≡ N * up d * down e → (M ≡ N) × (e ≡ d)
full-unique m (pos i) n (pos j) o p h =
    let r = full-pow m n i j o p (omega (arith, h)) in (r.0, ap pos r.1)
full-unique m (pos i) n (negsuc j) o p h =
    let r = full-pow m n (i + suc j) 0 o p (omega (arith, h, ap (λ (z : ℕ). m * z) (pow-add 2 i (suc j)))) in
    absurd (not-zero (i + j) (omega (arith, r.1)))
full-unique m (negsuc i) n (pos j) o p h =
    let r = full-pow m n 0 (j + suc i) o p (omega (arith, h, ap (λ (z : ℕ). n * z) (pow-add 2 j (suc i)))) in
    absurd (not-zero (i + j) (omega (arith, r.1)))
full-unique m (negsuc i) n (negsuc j) o p h =
    let r = full-pow m n (suc j) (suc i) o p (omega (arith, h)) in (r.0, ap negsuc (omega (arith, r.1)))

-- a number of 1 to 53 digits, with zeros after it
last : (z : ℕ) → 0 < z → z - 1 < z
last z h = omega arith

pub full-of : (m : ℕ) → 1 ≤ m → m < 2 ^ 53 → Full (m * 2 ^ missing_digits m)
full-of m P h =
    let z = size m in
    let zp : 0 < z = size-pos m P in
    let zl : z ≤ 53 = size-le m 53 h in (
      le_trans (le_of_eq (ap (λ (x : ℕ). 2 ^ x) (sym (low z zp zl)) ∙ pow-add 2 (z - 1) (53 - z))) (mul-le-mul_right (2 ^ (53 - z)) (size_reaches m (z - 1) (last z zp))),
      lt_of_lt_of_le (mul-lt-mul_of_pos_right (size-lt m) (pow_pos (53 - z))) (le_of_eq (sym (pow-add 2 z (53 - z)) ∙ ap (λ (x : ℕ). 2 ^ x) (high z zl))),
    )
  where
    low : (z : ℕ) → 0 < z → z ≤ 53 → z - 1 + (53 - z) ≡ 52
    low z h k = omega arith

    high : (z : ℕ) → z ≤ 53 → z + (53 - z) ≡ 53
    high z k = omega arith

-- ---- a value that is M * 2 ^ n / 2 ^ 1126 has the root of M and that exponent
cross-up : (m z U D e' e d M n up' l : ℕ) → 0 < d → 0 < l → m * e * l ≡ M * n * d → U * l ≡ n * D → up' * (d * z) ≡ e * e' → m * z * up' * D ≡ M * U * e'
cross-up m z U D e' e d M n up' l dp lp v s h =
    eq_of_mul-eq-mul_right (d * l) (mul-pos dp lp) (m * z * up' * D) (M * U * e')
    (o ∙ ap (λ (x : ℕ). m * l * D * x) h ∙ p ∙ ap (λ (x : ℕ). D * e' * x) v ∙ q ∙ ap (λ (x : ℕ). M * d * e' * x) (sym s) ∙ r)
  where
    o : m * z * up' * D * (d * l) ≡ m * l * D * (up' * (d * z))
    o = omega arith

    p : m * l * D * (e * e') ≡ D * e' * (m * e * l)
    p = omega arith

    q : D * e' * (M * n * d) ≡ M * d * e' * (n * D)
    q = omega arith

    r : M * d * e' * (U * l) ≡ M * U * e' * (d * l)
    r = omega arith

-- e - z, as a fraction
pub less-up : (e : ℤ) (z : ℕ) → up (e -ℤ pos z) * (down e * 2 ^ z) ≡ up e * down (e -ℤ pos z)
less-up e z =
    ap (λ (x : ℕ). up (e -ℤ pos z) * (down e * x)) (sym (down-neg (pos z))) ∙ up-add e (neg_ℤ (pos z)) ∙ ap (λ (x : ℕ). up e * x * down (e -ℤ pos z)) (up_neg (pos z)) ∙ ap (λ (x : ℕ). x * down (e -ℤ pos z)) (mul-one (up e))

full-pos : (M : ℕ) → Full M → 0 < M
full-pos M h = lt_of_lt_of_le (pow_pos 52) h.0

none-there : (n d M p : ℕ) → 0 < d → 0 < p → 0 < M → zero * n ≡ M * p * d → ⊥
none-there n d M p D P h e = lt_irrefl 0 (subst (λ (x : ℕ). 0 < x) (sym e ∙ zero-mul n) (mul-pos (mul-pos h P) D))

pub root_is : (x : Float) (M n : ℕ) → T (fits binary64 x) → Full M → HasValue x false (M * 2 ^ n) (2 ^ 1126) → square_root x ≡ root_at M (sub_ℕ n 1126)
unfolding square_root
root_is nan M n t F v = absurd v
root_is (inf b) M n t F v = absurd v
root_is (fin b zero e) M n t F v = absurd (none-there (up e * 2 ^ 1126) (down e) M (2 ^ n) (down_pos e) (pow_pos n) (full-pos M F) (sym (mul_assoc zero (up e) (2 ^ 1126)) ∙ v.1))
root_is (fin b (suc m) e) M n t F v =
    let z = missing_digits (suc m) in
    let p = fits-parts binary64 b m e t in
    let u = full-unique (suc m * 2 ^ z) (e -ℤ pos z) M (sub_ℕ n 1126) (full-of (suc m) (zero-lt-suc m) p.0) F
    (cross-up (suc m) (2 ^ z) (up (sub_ℕ n 1126)) (down (sub_ℕ n 1126)) (down (e -ℤ pos z)) (up e) (down e) M (2 ^ n) (up (e -ℤ pos z)) (2 ^ 1126) (down_pos e) (pow_pos 1126) v.1 (sub_val n 1126) (less-up e z)) in
    ap (λ (c : Bool). cond c nan (root_at (suc m * 2 ^ z) (e -ℤ pos z))) v.0 ∙ ap (λ (x : ℕ). root_at x (e -ℤ pos z)) u.0 ∙ ap (root_at M) u.1

-- ---- what a pattern with its sign clear, and below the infinity's, stands for
revalue : (x : Float) (s : Bool) (a c b d : ℕ) → 0 < c → a * d ≡ b * c → HasValue x s a c → HasValue x s b d
revalue nan s a c b d C h v = v
revalue (inf t) s a c b d C h v = v
revalue (fin t m e) s a c b d C h v = (v.0, eq_of_mul-eq-mul_right c C (m * up e * d) (b * down e) (step (m * up e) (down e) v.1))
  where
    step : (x y : ℕ) → x * c ≡ a * y → x * d * c ≡ b * y * c
    step x y k = omega (arith, ap (λ (z : ℕ). z * d) k, ap (λ (z : ℕ). z * y) h)

short-le : (t : ℕ) → 1 ≤ t → missing_digits t ≤ 52
short-le t h = few (size t) (size-pos t h)
  where
    few : (z : ℕ) → 0 < z → 53 - z ≤ 52
    few z h = omega arith

-- t * 2 ^ s * 2 ^ (52 - s) is t * 2 ^ 52
spread : (t s : ℕ) → s ≤ 52 → t * 2 ^ s * 2 ^ (52 - s) ≡ t * 2 ^ 52
spread t s h = mul_assoc t (2 ^ s) (2 ^ (52 - s)) ∙ ap (λ (x : ℕ). t * x) (sym (pow-add 2 s (52 - s)) ∙ ap (λ (x : ℕ). 2 ^ x) (whole s h))
  where
    whole : (s : ℕ) → s ≤ 52 → s + (52 - s) ≡ 52
    whole s h = omega arith

-- with P, Q, R for 2 ^ 52, 2 ^ 1074 and 2 ^ 1126
low_same : (t a P Q R : ℕ) → R ≡ P * Q → a ≡ t * P → t * 1 * R ≡ a * Q
low_same t a P Q R h k = omega (arith, ap (λ (x : ℕ). t * x) h, ap (λ (x : ℕ). x * Q) k)

high_same : (M k n P Q R : ℕ) → R ≡ P * Q → n ≡ k * P → M * k * R ≡ M * n * Q
high_same M k n P Q R h e = omega (arith, ap (λ (x : ℕ). M * k * x) h, ap (λ (x : ℕ). M * x * Q) e)

normal-fields : (k t : ℕ) → suc k < 2047 → of_fields binary64 false (suc k) t ≡ odd 53 false (2 ^ 52 + t) k 1074
unfolding of_fields
normal-fields k t h = cond_no (eqb (suc k) 2047) (cond (eqb t 0) (inf false) nan) (odd 53 false (2 ^ 52 + t) k 1074) (lib.Dec.not_T (eqb (suc k) 2047) (λ q. apart (suc k) h (lib.Dec.eqb→eq (suc k) 2047 q)))
  where
    apart : (k : ℕ) → k < 2047 → k ≡ 2047 → ⊥
    apart k h e = omega arith

fields-val : (k t : ℕ) → k < 2047 → t < 2 ^ 52 → (k ≡ 0 → 1 ≤ t) → Full (lead k t) × HasValue (of_fields binary64 false k t) false (lead k t * 2 ^ expo k t) (2 ^ 1126)
unfolding of_fields
fields-val zero t K H P =
    let p : 1 ≤ t = P refl in (
      full-of t p (lt_of_lt_of_le H (pow_mono {i = 52} {j = 53} (lib.Dec.lit≤ tt))),
      revalue (odd 53 false t 0 1074) false (t * 2 ^ 0) (2 ^ 1074) (t * 2 ^ missing_digits t * 2 ^ (52 - missing_digits t)) (2 ^ 1126) (pow_pos 1074)
          (low_same t (t * 2 ^ missing_digits t * 2 ^ (52 - missing_digits t)) (2 ^ 52) (2 ^ 1074) (2 ^ 1126) refl (spread t (missing_digits t) (short-le t p))) (odd_sign 53 false t 0 1074),
    )
fields-val (suc k) t K H P = (
  lead-full t H,
  subst (λ (x : Float). HasValue x false ((2 ^ 52 + t) * 2 ^ (suc k + 51)) (2 ^ 1126))
      (sym (normal-fields k t K))
      (revalue (odd 53 false (2 ^ 52 + t) k 1074) false ((2 ^ 52 + t) * 2 ^ k) (2 ^ 1074) ((2 ^ 52 + t) * 2 ^ (suc k + 51)) (2 ^ 1126) (pow_pos 1074)
      (high_same (2 ^ 52 + t) (2 ^ k) (2 ^ (suc k + 51)) (2 ^ 52) (2 ^ 1074) (2 ^ 1126) refl (ap (λ (x : ℕ). 2 ^ x) (sum k) ∙ pow-add 2 k 52)) (odd_sign 53 false (2 ^ 52 + t) k 1074)),
)
  where
    sum : (k : ℕ) → suc k + 51 ≡ k + 52
    sum k = omega arith

    lead-full : (t : ℕ) → t < 2 ^ 52 → Full (2 ^ 52 + t)
    lead-full t h = omega arith

plain-fields : (b : ℕ) → b < 2047 * 2 ^ 52 → of_bits binary64 b ≡ of_fields binary64 false (b / 2 ^ 52) (b % 2 ^ 52)
unfolding of_bits
plain-fields b h =
    let m : b % 2 ^ 63 ≡ b = omega arith in
    ap (λ (c : Bool). of_fields binary64 c (b % 2 ^ 63 / 2 ^ 52) (b % 2 ^ 52)) (is_false (leb (2 ^ 63) b) (lib.Arith.lt→nleb (2 ^ 63) b (omega arith)))
    ∙ ap (λ (x : ℕ). of_fields binary64 false (x / 2 ^ 52) (b % 2 ^ 52)) m

pub pattern-val : (b : ℕ) → 0 < b → b < 2047 * 2 ^ 52 → Full (lead (b / 2 ^ 52) (b % 2 ^ 52)) × HasValue (of_bits binary64 b) false (lead (b / 2 ^ 52) (b % 2 ^ 52) * 2 ^ expo (b / 2 ^ 52) (b % 2 ^ 52)) (2 ^ 1126)
pattern-val b P h =
    let k = b / 2 ^ 52 in
    let t = b % 2 ^ 52 in
    let v = fields-val k t (omega arith) (omega arith) (λ e. omega arith) in
    (v.0, subst (λ (x : Float). HasValue x false (lead k t * 2 ^ expo k t) (2 ^ 1126)) (sym (plain-fields b h)) v.1)

-- ---- the root's value and its pattern
-- q has 53 digits
pub rounded-full : (M p : ℕ) → p < 2 → Full M → Full (rounded (radicand M p))
rounded-full M p P F =
    let N = radicand M p in
    let top : N < (18014398509481982 + 1) * (18014398509481982 + 1) = most M F.1 p P in
    let R = root-roots 54 N (lt_of_lt_of_le top (lib.Dec.lit≤ tt)) in
    halves (whole_root 54 N) (below N (2 ^ 53) (whole_root 54 N) (least M F.0 p) R.1) (below N (whole_root 54 N) 18014398509481982 R.0 top)
  where
    halves : (r : ℕ) → 2 ^ 53 ≤ r → r ≤ 18014398509481982 → Full ((r + 1) / 2)
    halves r h k = omega arith

    least : (M : ℕ) → 2 ^ 52 ≤ M → (p : ℕ) → 2 ^ 53 * 2 ^ 53 ≤ M * 2 ^ (54 + p)
    least M h p = le_trans (mul-le-mul_right (2 ^ 54) h) (mul-le-mul (native.Mathlib.Nat.le_refl M) (pow_mono (native.Mathlib.Nat.le-add_right 54 p)))

    most : (M : ℕ) → M < 2 ^ 53 → (p : ℕ) → p < 2 → M * 2 ^ (54 + p) < (18014398509481982 + 1) * (18014398509481982 + 1)
    most M h p q = lt_of_le_of_lt (mul-le-mul (less M h) (pow_mono {i = 54 + p} {j = 55} (up1 p q))) (lib.Dec.lit< tt)
      where
        less : (M : ℕ) → M < 2 ^ 53 → M ≤ 9007199254740991
        less M h = omega arith

        up1 : (p : ℕ) → p < 2 → 54 + p ≤ 55
        up1 p q = omega arith

-- half of n - 1126 is n / 2 - 563, and its parity that of n
half-bias : (n : ℕ) → (pos (n / 2) ≡ half (sub_ℕ n 1126) +ℤ pos 563) × (n % 2 ≡ parity (sub_ℕ n 1126))
half-bias n =
    let h = half-add (sub_ℕ n 1126) (pos 563) in
    let e : pos n ≡ sub_ℕ n 1126 +ℤ pos 1126 = sym (-ℤ-+ℤ_cancel (pos n) (pos 1126)) in
    (ap half e ∙ h.0, ap parity e ∙ h.1)

-- the exponent of the root's last digit, H = half - 26, more 589, is n / 2
half-more : (n : ℕ) → (half (sub_ℕ n 1126) +ℤ negsuc 25) +ℤ pos 589 ≡ pos (n / 2)
half-more n = +ℤ_assoc (half (sub_ℕ n 1126)) (negsuc 25) (pos 589) ∙ sym (half-bias n).0

-- 2 ^ H is 2 ^ (n / 2 + 485) / 2 ^ 1074; P, Q, R, A, B for 2 ^ 589, 2 ^ 485, 2 ^ 1074, 2 ^ (n / 2), 2 ^ (n / 2 + 485)
unit-cross : (u d P Q R A B : ℕ) → R ≡ P * Q → B ≡ A * Q → A * (d * 1) ≡ u * P * 1 → u * R ≡ B * d
unit-cross u d P Q R A B r b h = omega (arith, ap (λ (x : ℕ). u * x) r, ap (λ (x : ℕ). x * d) b, ap (λ (x : ℕ). x * Q) h)

unit : (n : ℕ) → up (half (sub_ℕ n 1126) +ℤ negsuc 25) * 2 ^ 1074 ≡ 2 ^ (n / 2 + 485) * down (half (sub_ℕ n 1126) +ℤ negsuc 25)
unit n =
    let H = half (sub_ℕ n 1126) +ℤ negsuc 25 in
    unit-cross (up H) (down H) (2 ^ 589) (2 ^ 485) (2 ^ 1074) (2 ^ (n / 2)) (2 ^ (n / 2 + 485)) refl (pow-add 2 (n / 2) 485)
    (subst (λ (x : ℤ). up x * (down H * 1) ≡ up H * 2 ^ 589 * down x) (half-more n) (up-add H (pos 589)))

same-value : (q u d l j : ℕ) → u * l ≡ j * d → q * u * l ≡ q * j * (1 * d)
same-value q u d l j h = omega (arith, ap (λ (x : ℕ). q * x) h)

-- a pattern's value again, by the leading digit that q brings along
pattern-is : (n q : ℕ) → n < 2099 → Full q → HasValue (of_bits binary64 (pattern n q)) false (q * 2 ^ (n / 2 + 485)) (2 ^ 1074)
pattern-is n q N F =
    let b = pattern n q in
    let k = n / 2 + 485 in
    let t = q - 2 ^ 52 in
    let h : b < 2047 * 2 ^ 52 = omega arith in
    let k' : b / 2 ^ 52 ≡ suc k = omega arith in
    let t' : b % 2 ^ 52 ≡ t = omega arith in
    subst (λ (x : Float). HasValue x false (q * 2 ^ k) (2 ^ 1074)) (sym (plain-fields b h ∙ ap (λ (x : ℕ). of_fields binary64 false x (b % 2 ^ 52)) k' ∙ ap (of_fields binary64 false (suc k)) t')) (at k t q (omega arith) (omega arith))
  where
    at : (k t q : ℕ) → suc k < 2047 → 2 ^ 52 + t ≡ q → HasValue (of_fields binary64 false (suc k) t) false (q * 2 ^ k) (2 ^ 1074)
    at k t q l e = subst (λ (x : Float). HasValue x false (q * 2 ^ k) (2 ^ 1074)) (sym (normal-fields k t l)) (subst (λ (x : ℕ). HasValue (odd 53 false (2 ^ 52 + t) k 1074) false (x * 2 ^ k) (2 ^ 1074)) e (odd_sign 53 false (2 ^ 52 + t) k 1074))

-- the rounded root, scaled, is that pattern's value
pub root-at : (M n : ℕ) → n < 2099 → Full M → root_at M (sub_ℕ n 1126) ≡ of_bits binary64 (pattern n (rounded (radicand M (n % 2))))
root-at M n N F =
    let q = rounded (radicand M (n % 2)) in
    let Q : Full q = rounded-full M (n % 2) (omega arith) F in
    let H = half (sub_ℕ n 1126) +ℤ negsuc 25 in
    let R = round binary64 false q 1 in
    let y = of_bits binary64 (pattern n q) in
    ap (λ (p : ℕ). scale H (round binary64 false (rounded (radicand M p)) 1)) (sym (half-bias n).1)
    ∙ unique (scale H R) y false (q * up H) (1 * down H) (mul-pos (zero-lt-suc 0) (down_pos H)) (scale-written H R (fits-written binary64 R (round-fits binary64 false q 1))) (fits-written binary64 y (of_bits-fits binary64 (pattern n q)))
    (scale-val H R false q 1 (round_whole binary64 false q (le_of_lt Q.1)))
    (revalue y false (q * 2 ^ (n / 2 + 485)) (2 ^ 1074) (q * up H) (1 * down H) (pow_pos 1074) (sym (same-value q (up H) (down H) (2 ^ 1074) (2 ^ (n / 2 + 485)) (unit n))) (pattern-is n q N Q))

expo-lt : (k t : ℕ) → k < 2047 → expo k t < 2099
expo-lt zero t h = few (missing_digits t)
  where
    few : (z : ℕ) → 52 - z < 2099
    few z = omega arith
expo-lt (suc k) t h = omega arith

-- ---- the law: the root of a positive finite value, by patterns
pub root-bits : (b : ℕ) → 0 < b → b < 2047 * 2 ^ 52 → square_root (of_bits binary64 b) ≡ of_bits binary64 (root_bits b)
unfolding root_bits
root-bits b P h =
    let k = b / 2 ^ 52 in
    let t = b % 2 ^ 52 in
    let v = pattern-val b P h in
    root_is (of_bits binary64 b) (lead k t) (expo k t) (of_bits-fits binary64 b) v.0 v.1
    ∙ root-at (lead k t) (expo k t) (expo-lt k t (omega arith)) v.0

-- ---- what the code works out
size_is : (t j : ℕ) → 2 ^ j ≤ t → t < 2 ^ suc j → size t ≡ suc j
size_is t j lo hi = le_antisymm (size-le t (suc j) hi) (lt_of_not-le (λ (g : size t ≤ j). not-le_of_lt (lt_of_lt_of_le (size-lt t) (pow_mono g)) lo))

pub missing-is : (t : ℕ) → 0 < t → t < 2 ^ 53 → (11 ≤ count_leading_zeros 64 t) × (count_leading_zeros 64 t ≤ 64) × (count_leading_zeros 64 t - 11 ≡ missing_digits t)
missing-is t P h =
    let l = leading_top 64 t P (lt_of_lt_of_le h (lib.Dec.lit≤ tt)) in
    let z : size t ≡ suc l.0 = size_is t l.0 l.2 l.3 in
    let y : size t ≤ 53 = size-le t 53 h in
    sum (count_leading_zeros 64 t) l.0 (size t) l.1 z y
  where
    sum : (x j z : ℕ) → x + suc j ≡ 64 → z ≡ suc j → z ≤ 53 → (11 ≤ x) × (x ≤ 64) × (x - 11 ≡ 53 - z)
    sum x j z h k l = omega arith

-- the argument of the whole root
pub whole_is : (M p : ℕ) → p < 2 → Full M → M * 2 ^ (10 + p) % 2 ^ 64 * 2 ^ 44 ≡ radicand M p
whole_is M p P F =
    ap (λ (x : ℕ). x * 2 ^ 44) (shl_exact 53 (10 + p) 64 F.1 (room p P)) ∙ mul_assoc M (2 ^ (10 + p)) (2 ^ 44) ∙ ap (λ (x : ℕ). M * x) (sym (pow-add 2 (10 + p) 44) ∙ ap (λ (x : ℕ). 2 ^ x) (sum p))
  where
    room : (p : ℕ) → p < 2 → 53 + (10 + p) ≤ 64
    room p h = omega arith

    sum : (p : ℕ) → 10 + p + 44 ≡ 54 + p
    sum p = omega arith

-- its root is below 2 ^ 54
pub root-small : (M p : ℕ) → p < 2 → Full M → whole_root 54 (radicand M p) < 2 ^ 54
root-small M p P F = small (whole_root 54 (radicand M p)) (rounded-full M p P F).1
  where
    small : (r : ℕ) → (r + 1) / 2 < 2 ^ 53 → r < 2 ^ 54
    small r h = omega arith

-- a pattern whose exponent's field is 0, and one whose field is not
pub low_bits : (b s : ℕ) → b / 2 ^ 52 ≡ 0 → 0 < b % 2 ^ 52 → s ≡ missing_digits (b % 2 ^ 52) → pattern (52 - s) (rounded (radicand (b % 2 ^ 52 * 2 ^ s % 2 ^ 64) ((52 - s) % 2))) ≡ root_bits b
unfolding root_bits
low_bits b s e P h =
    let t = b % 2 ^ 52 in
    let F = full-of t P (omega arith) in
    ap (λ (x : ℕ). pattern (52 - x) (rounded (radicand (t * 2 ^ x % 2 ^ 64) ((52 - x) % 2)))) h
    ∙ ap (λ (x : ℕ). pattern (52 - missing_digits t) (rounded (radicand x ((52 - missing_digits t) % 2)))) (native.Mathlib.Nat.mod-eq_of_lt (lt_of_lt_of_le F.1 (lib.Dec.lit≤ tt)))
    ∙ ap (λ (x : ℕ). pattern (expo x t) (rounded (radicand (lead x t) (expo x t % 2)))) (sym e)

pub low-full : (t s : ℕ) → 0 < t → t < 2 ^ 52 → s ≡ missing_digits t → Full (t * 2 ^ s % 2 ^ 64) × (s ≤ 52)
low-full t s P h e =
    let F = full-of t P (lt_of_lt_of_le h (lib.Dec.lit≤ tt)) in
    (subst Full (sym (ap (λ (x : ℕ). t * 2 ^ x % 2 ^ 64) e ∙ native.Mathlib.Nat.mod-eq_of_lt (lt_of_lt_of_le F.1 (lib.Dec.lit≤ tt)))) F, subst (λ (x : ℕ). x ≤ 52) (sym e) (short-le t P))

pub high_bits : (b : ℕ) → (b / 2 ^ 52 ≡ 0 → ⊥) → pattern (b / 2 ^ 52 + 51) (rounded (radicand (2 ^ 52 + b % 2 ^ 52) ((b / 2 ^ 52 + 51) % 2))) ≡ root_bits b
unfolding root_bits
high_bits b n = go (b / 2 ^ 52) n
  where
    go : (k : ℕ) → (k ≡ 0 → ⊥) → pattern (k + 51) (rounded (radicand (2 ^ 52 + b % 2 ^ 52) ((k + 51) % 2))) ≡ pattern (expo k (b % 2 ^ 52)) (rounded (radicand (lead k (b % 2 ^ 52)) (expo k (b % 2 ^ 52) % 2)))
    go zero n = absurd (n refl)
    go (suc k) n = refl

-- the root's pattern is a positive finite value's too
pub bits-lt : (b : ℕ) → 0 < b → b < 2047 * 2 ^ 52 → root_bits b < 2047 * 2 ^ 52
unfolding root_bits
bits-lt b P h =
    let k = b / 2 ^ 52 in
    let t = b % 2 ^ 52 in
    let n = expo k t in
    let Q = rounded-full (lead k t) (n % 2) (omega arith) (pattern-val b P h).0 in
    top n (rounded (radicand (lead k t) (n % 2))) (expo-lt k t (omega arith)) Q.1
  where
    top : (n q : ℕ) → n < 2099 → q < 2 ^ 53 → pattern n q < 2047 * 2 ^ 52
    top n q h k = omega arith

-- and so no NaN's
pub no_nan : (b : ℕ) → b < 2047 * 2 ^ 52 → T (not (nan_bits binary64 b))
no_nan b h = subst (λ (c : Bool). T (not c)) (sym (nan_bits_above binary64 b)) (lib.Dec.not_T (ltb (ones binary64 * hid binary64) (b % top binary64)) (λ q. over b h (ltb→lt (ones binary64 * hid binary64) (b % top binary64) q)))
  where
    over : (b : ℕ) → b < 2047 * 2 ^ 52 → 2047 * 2 ^ 52 < b % 2 ^ 63 → ⊥
    over b h k = omega arith
