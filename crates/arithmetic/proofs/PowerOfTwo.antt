-- Scaling by 2 ^ u is multiplication by the f64 2 ^ u, wherever the result is a value of the format: where it is normal, and also where a subnormal holds it exactly.
use mathlib.Core.Path.{◌≡◌, refl, sym, ap, ◌∙◌}
use Prim.Native.Nat.{ℕ, zero, suc, ◌+◌, ◌-◌, ◌*◌, ◌%◌, ◌^◌, ◌≤◌, ◌<◌}
use native.Mathlib.Nat.{mul-one, one-mul, mul-pos, mul_assoc, mul_comm, mul_left_comm, mul-lt-mul_of_pos_right, lt_of_mul-lt-mul_right, lt_irrefl, zero-lt-suc, zero-mul, eq_of_mul-eq-mul_right, le_trans, le_of_eq, lt_of_lt_of_le, lt_of_le_of_lt, lt_of_not-le, le_of_suc-le-suc, mul-le-mul_right}
use native.Mathlib.Omega.{arith}
use mathlib.Core.Bool.{Bool, true, false, ◌&&◌}
use lib.IntN.{ℤ, pos, negsuc, nat_abs, ◌+ℤ◌}
use lib.Dec.{T, ltb, leb, eqb, ltb→lt, leb→le, lt→ltb, le→leb, lit≤}
use lib.Pow.{pow-add, pow_pos, pow_mono, pow-lt}
use lib.Ieee.{Float, nan, inf, fin, Format, binary64, prec, emax, low, up, down, round, fits, mul, unlike}
use lib.Ieee.Fits.{up_pos, down_pos, and_l, and_r, and_i, round-fits}
use lib.Ieee.Exact.{round_exact}
use Rattle.arithmetic.specs.Scale.{scale, power_of_two}
use Rattle.arithmetic.proofs.ScaleLaws.{cross}
use Rattle.arithmetic.proofs.Rounding.{fits-written, unique, pow_le_back, Within}
use Rattle.arithmetic.proofs.Operations.{round-zero}

-- 2 ^ e is 2 ^ j units
place : (l : ℕ) (e : ℤ) → down e ≤ 2 ^ l → (j : ℕ) × (up e * 2 ^ l ≡ 2 ^ j * down e)
place l (pos a) h = (a + l, sym (pow-add 2 a l) ∙ sym (mul-one (2 ^ (a + l))))
place l (negsuc a) h = (l - suc a, one-mul (2 ^ l) ∙ ap (λ (z : ℕ). 2 ^ z) (sym (whole l (suc a) (pow_le_back (suc a) l h))) ∙ pow-add 2 (l - suc a) (suc a))
  where
    whole : (l a : ℕ) → a ≤ l → l - a + a ≡ l
    whole l a h = omega arith

like : (s : Bool) → unlike s false ≡ s
like true = refl
like false = refl

-- what `fits` says of a value that is not zero
pub fits-parts : (f : Format) (s : Bool) (m : ℕ) (e : ℤ) → T (fits f (fin s (suc m) e)) → (suc m < 2 ^ prec f) × (down e ≤ 2 ^ low f) × (suc m * up e < 2 ^ suc (emax f) * down e)
unfolding fits
fits-parts f s m e t =
    let A = eqb (suc m % 2) 1 in
    let B = ltb (suc m) (2 ^ prec f) in
    let C = leb (down e) (2 ^ low f) in
    let D = ltb (suc m * up e) (2 ^ suc (emax f) * down e) in
    (ltb→lt (suc m) (2 ^ prec f) (and_r A B (and_l (A && B) C (and_l (A && B && C) D t))), leb→le (down e) (2 ^ low f) (and_r (A && B) C (and_l (A && B && C) D t)), ltb→lt (suc m * up e) (2 ^ suc (emax f) * down e) (and_r (A && B && C) D t))

-- x times the f64 2 ^ u is x scaled, where that is a value of the format
pub scale-is-mul : (f : Format) (u : ℤ) (x : Float) → T (fits f (scale u x)) → mul f x (power_of_two u) ≡ scale u x
unfolding mul
scale-is-mul f u nan t = refl
scale-is-mul f u (inf s) t = ap inf (like s)
scale-is-mul f u (fin s zero e) t =
    let D = down e * down u in
    ap (λ (z : Bool). round f z (zero * up e * (1 * up u)) D) (like s) ∙ ap (λ (z : ℕ). round f s z D) (omega arith) ∙ round-zero f s D (mul-pos (down_pos e) (down_pos u))
    ∙ ap (fin s zero) (sym (fits-written f (fin s zero e) t))
scale-is-mul f u (fin s (suc m) e) t =
    let e' = e +ℤ u in
    let N = suc m * up e * (1 * up u) in
    let D = down e * down u in
    let DP : 0 < D = mul-pos (down_pos e) (down_pos u) in
    let h = fits-parts f s m e' t in
    let p = place (low f) e' h.1 in
    let x : suc m * up e' * D ≡ N * down e' = cross u (suc m) e ∙ own (suc m) (up e) (up u) (down e') in
    ap (λ (z : Bool). round f z N D) (like s)
    ∙ unique (round f s N D) (fin s (suc m) e') s N D DP (fits-written f (round f s N D) (round-fits f s N D)) (fits-written f (fin s (suc m) e') t)
    (round_exact f s N D (suc m) p.0 DP h.0
    (lt_of_mul-lt-mul_right (down e') (fine (suc m) (up e') (down e') (2 ^ low f) (2 ^ p.0) (2 ^ suc (emax f)) (2 ^ (low f + suc (emax f))) (pow-add 2 (low f) (suc (emax f))) p.1 (mul-lt-mul_of_pos_right h.2 (pow_pos (low f)))))
    (exact (suc m) (up e') (down e') (2 ^ low f) (2 ^ p.0) N D (down_pos e') p.1 x))
    (refl, x)
  where
    own : (m u v d : ℕ) → m * u * v * d ≡ m * u * (1 * v) * d
    own m u v d = omega arith

    fine : (m u d l j t w : ℕ) → w ≡ l * t → u * l ≡ j * d → m * u * l < t * d * l → m * j * d < w * d
    fine m u d l j t w h k q = omega (arith, ap (λ (z : ℕ). z * d) h, ap (λ (z : ℕ). m * z) k, q)

    exact : (m u d l j n D : ℕ) → 0 < d → u * l ≡ j * d → m * u * D ≡ n * d → n * l ≡ m * j * D
    exact m u d l j n D P k x = eq_of_mul-eq-mul_right d P (n * l) (m * j * D) (omega (arith, ap (λ (z : ℕ). z * l) x, ap (λ (z : ℕ). m * D * z) k))

-- a normal result is a value of the format
normal-fits : (f : Format) (s : Bool) (m : ℕ) (e e' : ℤ) → T (fits f (fin s (suc m) e)) → Within f (prec f - 1) (low f + suc (emax f)) (fin s (suc m) e') → T (fits f (fin s (suc m) e'))
unfolding fits
normal-fits f s m e e' t w =
    let A = eqb (suc m % 2) 1 in
    let B = ltb (suc m) (2 ^ prec f) in
    let C = leb (down e) (2 ^ low f) in
    let D = ltb (suc m * up e) (2 ^ suc (emax f) * down e) in
    let C' = leb (down e') (2 ^ low f) in
    let D' = ltb (suc m * up e') (2 ^ suc (emax f) * down e') in
    let o : T (A && B) = and_l (A && B) C (and_l (A && B && C) D t) in
    and_i (A && B && C') D'
    (and_i (A && B) C' o (le→leb (down e') (2 ^ low f) (deep e' (ltb→lt (suc m) (2 ^ prec f) (and_r A B o)) w.0)))
    (lt→ltb (suc m * up e') (2 ^ suc (emax f) * down e') (lt_of_mul-lt-mul_right (2 ^ low f) (lt_of_lt_of_le w.1 (le_of_eq (regroup (2 ^ low f) (2 ^ suc (emax f)) (down e') (2 ^ (low f + suc (emax f))) (pow-add 2 (low f) (suc (emax f))))))))
  where
    regroup : (l t d w : ℕ) → w ≡ l * t → w * d ≡ t * d * l
    regroup l t d w h = omega (arith, ap (λ (z : ℕ). z * d) h)

    less : (p a l : ℕ) → 0 < p → p - 1 + suc a < p + l → suc a ≤ l
    less p a l P h = omega arith

    deep : (e' : ℤ) → suc m < 2 ^ prec f → 2 ^ (prec f - 1) * down e' ≤ suc m * up e' * 2 ^ low f → down e' ≤ 2 ^ low f
    deep (pos a) h k = pow_pos (low f)
    deep (negsuc a) h k =
        pow_mono (less (prec f) a (low f) (lib.Ieee.Fits.two-le_pos (prec f) (lib.Ieee.Fits.two f)) (lt_of_not-le (λ (g : prec f + low f ≤ prec f - 1 + suc a).
        lt_irrefl (2 ^ (prec f + low f))
        (lt_of_le_of_lt (le_trans (pow_mono g) (le_trans (le_of_eq (pow-add 2 (prec f - 1) (suc a))) k))
        (lt_of_lt_of_le (mul-lt-mul_of_pos_right (lt_of_le_of_lt (le_of_eq (mul-one (suc m))) h) (pow_pos (low f))) (le_of_eq (sym (pow-add 2 (prec f) (low f)))))))))

-- x times the f64 2 ^ u is x scaled, where the result is normal: from 2 ^ (prec - 1) units of the format on
pub normal-is-mul : (f : Format) (u : ℤ) (x : Float) → T (fits f x) → Within f (prec f - 1) (low f + suc (emax f)) (scale u x) → mul f x (power_of_two u) ≡ scale u x
normal-is-mul f u nan t w = scale-is-mul f u nan t
normal-is-mul f u (inf s) t w = absurd w
normal-is-mul f u (fin s zero e) t w = scale-is-mul f u (fin s zero e) t
normal-is-mul f u (fin s (suc m) e) t w = scale-is-mul f u (fin s (suc m) e) (normal-fits f s m e (e +ℤ u) t w)

-- 2 ^ u is an f64 for each u from -1022 to 1022
pub power-fits : (u : ℤ) → nat_abs u ≤ 1022 → T (fits binary64 (power_of_two u))
unfolding fits
power-fits (pos n) h = lt→ltb (1 * 2 ^ n) (2 ^ 1024 * 1) (lt_of_le_of_lt (le_of_eq (one-mul (2 ^ n))) (lt_of_lt_of_le (pow-lt (below n h)) (le_of_eq (sym (mul-one (2 ^ 1024))))))
  where
    below : (n : ℕ) → n ≤ 1022 → n < 1024
    below n h = omega arith
power-fits (negsuc n) h =
    and_i (leb (2 ^ suc n) (2 ^ 1074)) (ltb (1 * 1) (2 ^ 1024 * 2 ^ suc n)) (le→leb (2 ^ suc n) (2 ^ 1074) (pow_mono (below n h)))
    (lt→ltb (1 * 1) (2 ^ 1024 * 2 ^ suc n) (lt_of_lt_of_le (pow-lt {i = 0} {j = 1024} (lib.Dec.lit< tt)) (le_trans (le_of_eq (sym (mul-one (2 ^ 1024)))) (native.Mathlib.Nat.mul-le-mul_left (2 ^ 1024) (pow_pos (suc n))))))
  where
    below : (n : ℕ) → suc n ≤ 1022 → suc n ≤ 1074
    below n h = omega arith
