-- The theorem that the square root is correctly rounded, for every positive finite argument (`CorrectlyRounded` says what that means), and that no tie occurs.
use mathlib.Core.Path.{◌≡◌, refl, sym, ap, ◌∙◌, subst}
use Prim.Native.Nat.{ℕ, zero, suc, ◌+◌, ◌-◌, ◌*◌, ◌/◌, ◌%◌, ◌^◌, ◌≤◌, ◌<◌}
use native.Mathlib.Nat.{lt_irrefl, lt_of_lt_of_le, le_of_lt, mul-pos, mul_assoc, eq_of_mul-eq-mul_right, zero-lt-suc, mul-mod_left}
use native.Mathlib.Omega.{arith}
use mathlib.Core.Bool.{false}
use lib.IntN.{ℤ, pos, negsuc, pred_ℤ, ◌+ℤ◌, ◌-ℤ◌, +ℤ_assoc, +ℤ_idr, +ℤ-pred_ℤ, pred_ℤ-+ℤ}
use lib.Dec.{T}
use lib.Pow.{pow-add, pow_pos, pow_mono}
use lib.Ieee.{Float, fin, binary64, up, down, round, fits}
use lib.Ieee.Fits.{down_pos}
use lib.Ieee.Back.{round_whole}
use Rattle.arithmetic.proofs.ScaleLaws.{scale-val, up-add}
use Rattle.arithmetic.proofs.PowerOfTwo.{fits-parts}
use Rattle.arithmetic.specs.SquareRoot.{half, parity, missing_digits, radicand, rounded, square_root, Full}
use Rattle.arithmetic.proofs.RootWhole.{swap, half_down, parity-down, rounded-nearest}
use Rattle.arithmetic.proofs.RootPatterns.{full-of, rounded-full, less-up}
use Rattle.arithmetic.specs.SquareRoot.{CorrectlyRounded}

-- E is twice its half, and its parity
pred-pred : (h : ℤ) (p : ℤ) → (pred_ℤ h +ℤ pred_ℤ h) +ℤ p ≡ pred_ℤ (pred_ℤ ((h +ℤ h) +ℤ p))
pred-pred h p = ap (λ (x : ℤ). x +ℤ p) (pred_ℤ-+ℤ h (pred_ℤ h) ∙ ap pred_ℤ (+ℤ-pred_ℤ h h)) ∙ pred_ℤ-+ℤ (pred_ℤ (h +ℤ h)) p ∙ ap pred_ℤ (pred_ℤ-+ℤ (h +ℤ h) p)

half-parity-neg : (n : ℕ) → (half (negsuc n) +ℤ half (negsuc n)) +ℤ pos (parity (negsuc n)) ≡ negsuc n
half-parity-neg zero = refl
half-parity-neg (suc zero) = refl
half-parity-neg (suc (suc n)) =
    ap (λ (x : ℤ). (x +ℤ x) +ℤ pos (parity (negsuc (suc (suc n))))) (half_down (negsuc n))
    ∙ ap (λ (x : ℕ). (pred_ℤ (half (negsuc n)) +ℤ pred_ℤ (half (negsuc n))) +ℤ pos x) (parity-down (negsuc n))
    ∙ pred-pred (half (negsuc n)) (pos (parity (negsuc n)))
    ∙ ap (λ (x : ℤ). pred_ℤ (pred_ℤ x)) (half-parity-neg n)

half-parity : (E : ℤ) → (half E +ℤ half E) +ℤ pos (parity E) ≡ E
half-parity (pos n) = ap pos (two n)
  where
    two : (n : ℕ) → n / 2 + n / 2 + n % 2 ≡ n
    two n = omega arith
half-parity (negsuc n) = half-parity-neg n

-- with H = half - 26, E is 2 H + 52 + parity
twice : (h k : ℤ) → (h +ℤ k) +ℤ (h +ℤ k) ≡ (h +ℤ h) +ℤ (k +ℤ k)
twice h k = sym (+ℤ_assoc (h +ℤ k) h k) ∙ ap (λ (x : ℤ). x +ℤ k) (swap h k h) ∙ +ℤ_assoc (h +ℤ h) k k

whole-exp : (E : ℤ) → ((half E +ℤ negsuc 25) +ℤ (half E +ℤ negsuc 25)) +ℤ pos (52 + parity E) ≡ E
whole-exp E =
    let h = half E in
    ap (λ (x : ℤ). x +ℤ (pos 52 +ℤ pos (parity E))) (twice h (negsuc 25))
    ∙ sym (+ℤ_assoc ((h +ℤ h) +ℤ negsuc 51) (pos 52) (pos (parity E)))
    ∙ ap (λ (x : ℤ). x +ℤ pos (parity E)) (+ℤ_assoc (h +ℤ h) (negsuc 51) (pos 52) ∙ +ℤ_idr (h +ℤ h))
    ∙ half-parity E

parity-lt : (E : ℤ) → parity E < 2
parity-lt (pos n) = omega arith
parity-lt (negsuc n) = omega arith

pub root-nearest : (m : ℕ) (e : ℤ) → T (fits binary64 (fin false (suc m) e)) → CorrectlyRounded (fin false (suc m) e) (square_root (fin false (suc m) e))
unfolding square_root
root-nearest m e t =
    let z = missing_digits (suc m) in
    let M = suc m * 2 ^ z in
    let E = e -ℤ pos z in
    let p = parity E in
    let F = full-of (suc m) (zero-lt-suc m) (fits-parts binary64 false m e t).0 in
    let n = radicand M p in
    let h = half E +ℤ negsuc 25 in
    let Q = rounded-full M p (parity-lt E) F in
    let u : up E * (down (h +ℤ h) * 1) ≡ up (h +ℤ h) * 2 ^ (52 + p) * down E = subst (λ (x : ℤ). up x * (down (h +ℤ h) * 1) ≡ up (h +ℤ h) * 2 ^ (52 + p) * down x) (whole-exp E) (up-add (h +ℤ h) (pos (52 + p))) in
    record {
      q = rounded n;
      N = n;
      h = h;
      digits = Q;
      result = scale-val h (round binary64 false (rounded n) 1) false (rounded n) 1 (round_whole binary64 false (rounded n) (le_of_lt Q.1));
      argument = (refl, value (suc m) (up e) (down e) (2 ^ z) (up E) (down E) (up (h +ℤ h)) (down (h +ℤ h)) (2 ^ (52 + p)) (2 ^ (54 + p)) (down_pos E) (fours p) (less-up e z) u);
      near = rounded-nearest n (below_top M p F (parity-lt E)) (by-four M p) (mul-pos (lt_of_lt_of_le (pow_pos 52) F.0) (pow_pos (54 + p)));
    }
  where
    fours : (p : ℕ) → 2 ^ (54 + p) ≡ 2 ^ (52 + p) * 4
    fours p = ap (λ (x : ℕ). 2 ^ x) (sum p) ∙ pow-add 2 (52 + p) 2
      where
        sum : (p : ℕ) → 54 + p ≡ 52 + p + 2
        sum p = omega arith

    by-four : (M p : ℕ) → M * 2 ^ (54 + p) % 4 ≡ 0
    by-four M p = ap (λ (x : ℕ). x % 4) (ap (λ (x : ℕ). M * x) (fours p) ∙ sym (mul_assoc M (2 ^ (52 + p)) 4)) ∙ mul-mod_left (M * 2 ^ (52 + p)) 4

    below_top : (M p : ℕ) → Full M → p < 2 → M * 2 ^ (54 + p) < 4 ^ 54
    below_top M p F h = lt_of_lt_of_le (lib.Pow.shl_lt 53 (54 + p) F.1) (pow_mono {i = 53 + (54 + p)} {j = 108} (room p h))
      where
        room : (p : ℕ) → p < 2 → 53 + (54 + p) ≤ 108
        room p h = omega arith

    -- x is m u / d, M is m z, and 2 ^ E is U / D, 2 ^ (2 H) is A / B
    value : (m u d z U D A B P R : ℕ) → 0 < D → R ≡ P * 4 → U * (d * z) ≡ u * D → U * (B * 1) ≡ A * P * D → m * u * (4 * B) ≡ m * z * R * A * d
    value m u d z U D A B P R dp r g k = eq_of_mul-eq-mul_right D dp (m * u * (4 * B)) (m * z * R * A * d) (a1 ∙ ap (λ (x : ℕ). m * 4 * B * x) (sym g) ∙ a2 ∙ ap (λ (x : ℕ). m * 4 * d * z * x) k ∙ a3 ∙ ap (λ (x : ℕ). m * z * x * A * d * D) (sym r))
      where
        a1 : m * u * (4 * B) * D ≡ m * 4 * B * (u * D)
        a1 = omega arith

        a2 : m * 4 * B * (U * (d * z)) ≡ m * 4 * d * z * (U * (B * 1))
        a2 = omega arith

        a3 : m * 4 * d * z * (A * P * D) ≡ m * z * (P * 4) * A * d * D
        a3 = omega arith

-- no tie occurs: twice the root's 54th digit is never exactly half of a last digit
pub root-no-tie : {x y : Float} (r : CorrectlyRounded x y) → ((2 * r.q + 1) * (2 * r.q + 1) ≡ r.N → ⊥) × ((2 * r.q - 1) * (2 * r.q - 1) ≡ r.N → ⊥)
root-no-tie r = (λ e. lt_irrefl r.N (subst (λ (n : ℕ). r.N < n) e r.near.1), λ e. lt_irrefl r.N (subst (λ (n : ℕ). n < r.N) e r.near.0))
