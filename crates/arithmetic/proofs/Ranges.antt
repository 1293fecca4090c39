-- Ranges of magnitudes, in units of the format's smallest value, and the shifts that they bear: over the format and the range.
use mathlib.Core.Path.{◌≡◌, sym, ap}
use Prim.Native.Nat.{ℕ, zero, suc, ◌+◌, ◌*◌, ◌^◌, ◌≤◌, ◌<◌}
use native.Mathlib.Nat.{le_trans, le_of_eq, lt_of_lt_of_le, lt_of_le_of_lt, mul-one, mul-pos, mul-le-mul_right, mul-lt-mul_of_pos_right, le_of_mul-le-mul_right, lt_of_mul-lt-mul_right}
use native.Mathlib.Omega.{arith}
use lib.IntN.{ℤ, pos, negsuc, nat_abs}
use lib.Pow.{pow-add, pow_mono}
use lib.Ieee.{Float, nan, inf, fin, Format, prec, emax, low, up, down}
use lib.Ieee.Fits.{up_pos, down_pos}
use Rattle.arithmetic.specs.Scale.{scale, shift_exp}
use Rattle.arithmetic.proofs.ScaleLaws.{cross}
use Rattle.arithmetic.proofs.Rounding.{Within}
use Rattle.arithmetic.proofs.Operations.{Zero, Safe}

-- ---- from 2 ^ L to 2 ^ H units, scaled by 2 ^ u
-- 2 ^ u times the range from 2 ^ L to 2 ^ H lies within that from 2 ^ P to 2 ^ K
abbrev Spare : ℤ → ℕ → ℕ → ℕ → ℕ → Type 0
Spare u L H P K = (2 ^ P * down u ≤ 2 ^ L * up u) × (2 ^ H * up u ≤ 2 ^ K * down u)

spare : (u : ℤ) (L H P K t : ℕ) → nat_abs u ≤ t → P + t ≤ L → H + t ≤ K → Spare u L H P K
spare (pos a) L H P K t n l h = (
  le_trans (le_of_eq (mul-one (2 ^ P))) (le_trans (pow_mono (widen P L t a l)) (le_of_eq (pow-add 2 L a))),
  le_trans (le_of_eq (sym (pow-add 2 H a))) (le_trans (pow_mono (reach H K t a h n)) (le_of_eq (sym (mul-one (2 ^ K))))),
)
  where
    widen : (P L t a : ℕ) → P + t ≤ L → P ≤ L + a
    widen P L t a h = omega arith

    reach : (H K t a : ℕ) → H + t ≤ K → a ≤ t → H + a ≤ K
    reach H K t a h n = omega arith
spare (negsuc a) L H P K t n l h = (
  le_trans (le_of_eq (sym (pow-add 2 P (suc a)))) (le_trans (pow_mono (reach P L t (suc a) l n)) (le_of_eq (sym (mul-one (2 ^ L))))),
  le_trans (le_of_eq (mul-one (2 ^ H))) (le_trans (pow_mono (widen H K t (suc a) h)) (le_of_eq (pow-add 2 K (suc a)))),
)
  where
    widen : (P L t a : ℕ) → P + t ≤ L → P ≤ L + a
    widen P L t a h = omega arith

    reach : (H K t a : ℕ) → H + t ≤ K → a ≤ t → H + a ≤ K
    reach H K t a h n = omega arith

-- with m * ue / de the value and x / y the scaled one
scaled-le : (x y M de uu du p l n : ℕ) → 0 < de → 0 < du → x * (de * du) ≡ M * uu * y → p * du ≤ l * uu → l * de ≤ M * n → p * y ≤ x * n
scaled-le x y M de uu du p l n D U h k w = le_of_mul-le-mul_right
    (le_trans (le_trans (le_of_eq a) (le_trans (mul-le-mul_right (de * y) k) (le_trans (le_of_eq b) (mul-le-mul_right (uu * y) w)))) (le_of_eq c)) (mul-pos D U)
  where
    a : p * y * (de * du) ≡ p * du * (de * y)
    a = omega arith

    b : l * uu * (de * y) ≡ l * de * (uu * y)
    b = omega arith

    c : M * n * (uu * y) ≡ x * n * (de * du)
    c = omega (arith, ap (λ (z : ℕ). z * n) h)

scaled-lt : (x y M de uu du k h n : ℕ) → 0 < uu → 0 < y → x * (de * du) ≡ M * uu * y → h * uu ≤ k * du → M * n < h * de → x * n < k * y
scaled-lt x y M de uu du k h n U Y e s w = lt_of_mul-lt-mul_right (de * du)
    (lt_of_lt_of_le (lt_of_le_of_lt (le_of_eq c) (mul-lt-mul_of_pos_right w (mul-pos U Y))) (le_trans (le_of_eq b) (le_trans (mul-le-mul_right (de * y) s) (le_of_eq a))))
  where
    a : k * du * (de * y) ≡ k * y * (de * du)
    a = omega arith

    b : h * de * (uu * y) ≡ h * uu * (de * y)
    b = omega arith

    c : x * n * (de * du) ≡ M * n * (uu * y)
    c = omega (arith, ap (λ (z : ℕ). z * n) e)

pub within-scale : (f : Format) (u : ℤ) (L H P K : ℕ) (x : Float) → Spare u L H P K → Within f L H x → Within f P K (scale u x)
within-scale f u L H P K nan s w = w
within-scale f u L H P K (inf t) s w = w
within-scale f u L H P K (fin t m e) s w =
    let e' = shift_exp m e u in (
      scaled-le (m * up e') (down e') (m * up e) (down e) (up u) (down u) (2 ^ P) (2 ^ L) (2 ^ low f) (down_pos e) (down_pos u) (cross u m e) s.0 w.0,
      scaled-lt (m * up e') (down e') (m * up e) (down e) (up u) (down u) (2 ^ K) (2 ^ H) (2 ^ low f) (up_pos u) (down_pos e') (cross u m e) s.1 w.1,
    )

pub within-mono : (f : Format) (L H P K : ℕ) (x : Float) → P ≤ L → H ≤ K → Within f L H x → Within f P K x
within-mono f L H P K nan l h w = w
within-mono f L H P K (inf t) l h w = w
within-mono f L H P K (fin t m e) l h w = (le_trans (mul-le-mul_right (down e) (pow_mono l)) w.0, lt_of_lt_of_le w.1 (mul-le-mul_right (down e) (pow_mono h)))

-- what lies between 2 ^ L and 2 ^ H units can be scaled by each 2 ^ u, u from -t to t, that leaves it normal
pub safe-within : (f : Format) (u : ℤ) (L H t : ℕ) (x : Float) → nat_abs u ≤ t → prec f + t ≤ L → H + t ≤ low f + suc (emax f) → Within f L H x → Safe f u x
safe-within f u L H t nan n l h w = w
safe-within f u L H t (inf s) n l h w = w
safe-within f u L H t (fin s zero e) n l h w = tt
safe-within f u L H t (fin s (suc m) e) n l h w = (
  within-mono f L H (prec f) (low f + suc (emax f)) (fin s (suc m) e) (first (prec f) t L l) (first H t (low f + suc (emax f)) h) w,
  within-scale f u L H (prec f) (low f + suc (emax f)) (fin s (suc m) e) (spare u L H (prec f) (low f + suc (emax f)) t n l h) w,
)
  where
    first : (p t l : ℕ) → p + t ≤ l → p ≤ l
    first p t l h = omega arith

-- a zero can be scaled by any power
pub zero-safe : (f : Format) (u : ℤ) (x : Float) → Zero x → Safe f u x
zero-safe f u nan z = z
zero-safe f u (inf s) z = z
zero-safe f u (fin s zero e) z = tt
zero-safe f u (fin s (suc m) e) z = absurd (positive m z)
  where
    positive : (m : ℕ) → suc m ≡ 0 → ⊥
    positive m h = omega arith
