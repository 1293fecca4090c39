-- The whole part of a root, half of an exponent, and the nearest: what the square root rests on; and that it goes with scaling.
use mathlib.Core.Path.{◌≡◌, refl, sym, ap, ◌∙◌, subst}
use Prim.Native.Nat.{ℕ, zero, suc, ◌+◌, ◌-◌, ◌*◌, ◌/◌, ◌%◌, ◌^◌, ◌≤◌, ◌<◌}
use native.Mathlib.Nat.{le_trans, le_of_eq, lt_of_lt_of_le, lt_of_le_of_lt, lt_of_not-le, lt_irrefl, le_antisymm, le_of_suc-le-suc, mul-le-mul, zero-lt-suc, div-lt_iff_lt-mul, pow-suc}
use native.Mathlib.Omega.{arith}
use mathlib.Core.Bool.{Bool, true, false, not, cond}
use lib.IntN.{ℤ, pos, negsuc, neg_ℤ, suc_ℤ, pred_ℤ, ◌+ℤ◌, +ℤ_assoc, +ℤ_comm, +ℤ_idr, +ℤ-suc_ℤ, +ℤ-pred_ℤ}
use lib.Dec.{T, leb, leb→le, nleb→lt}
use lib.Ieee.{Float, nan, inf, fin, Format, binary64, up, down, size, round, fits}
use Rattle.arithmetic.specs.Scale.{scale}
use Rattle.arithmetic.proofs.ScaleLaws.{scale-scale}
use Rattle.arithmetic.specs.SquareRoot.{whole_root, half, parity, missing_digits, radicand, rounded, root_at, square_root, Near}

abbrev pub Roots : ℕ → ℕ → Type 0
Roots n r = (r * r ≤ n) × (n < (r + 1) * (r + 1))

only_zero : (n : ℕ) → n < 1 → 0 * 0 ≤ n
only_zero n h = omega arith

-- with s the root of n / 4, the root of n is 2 s or 2 s + 1
step-low : (s n q : ℕ) → s * s ≤ q → 4 * q ≤ n → 2 * s * (2 * s) ≤ n
step-low s n q h k = omega (arith, h, k)

step-high : (s n q : ℕ) → q < (s + 1) * (s + 1) → n < 4 * q + 4 → n < (2 * s + 1 + 1) * (2 * s + 1 + 1)
step-high s n q h k = omega (arith, h, k)

four : (n : ℕ) → (4 * (n / 4) ≤ n) × (n < 4 * (n / 4) + 4)
four n = omega arith

pub root-roots : (k n : ℕ) → n < 4 ^ k → Roots n (whole_root k n)
unfolding whole_root
root-roots zero n h = (only_zero n h, h)
root-roots (suc k) n h =
    let s = whole_root k (n / 4) in
    let ih = root-roots k (n / 4) ((div-lt_iff_lt-mul (zero-lt-suc 3)).1 (subst (λ (x : ℕ). n < x) (pow-suc 4 k) h)) in
    let q = four n in
    go s (step-low s n (n / 4) ih.0 q.0) (step-high s n (n / 4) ih.1 q.1) (leb ((2 * s + 1) * (2 * s + 1)) n) (leb→le ((2 * s + 1) * (2 * s + 1)) n) (nleb→lt ((2 * s + 1) * (2 * s + 1)) n)
  where
    go : (s : ℕ) → 2 * s * (2 * s) ≤ n → n < (2 * s + 1 + 1) * (2 * s + 1 + 1) → (b : Bool) → (T b → (2 * s + 1) * (2 * s + 1) ≤ n) → (T (not b) → n < (2 * s + 1) * (2 * s + 1)) → Roots n (cond b (2 * s + 1) (2 * s))
    go s l u true y z = (y tt, u)
    go s l u false y z = (l, z tt)

pub below : (n r q : ℕ) → r * r ≤ n → n < (q + 1) * (q + 1) → r ≤ q
below n r q h k = le_of_suc-le-suc (lt_of_not-le (λ (g : suc q ≤ r). lt_irrefl n (lt_of_lt_of_le k (le_trans (mul-le-mul (up1 q r g) (up1 q r g)) h))))
  where
    up1 : (q r : ℕ) → suc q ≤ r → q + 1 ≤ r
    up1 q r h = omega arith

pub roots-unique : (n r q : ℕ) → Roots n r → Roots n q → r ≡ q
roots-unique n r q h k = le_antisymm (below n r q h.0 k.1) (below n q r k.0 h.1)

half-two : (n : ℕ) → suc (suc n) / 2 ≡ suc (n / 2)
half-two n = omega arith

mod-two : (n : ℕ) → suc (suc n) % 2 ≡ n % 2
mod-two n = omega arith

half_up : (k : ℤ) → half (suc_ℤ (suc_ℤ k)) ≡ suc_ℤ (half k)
half_up (pos n) = ap pos (half-two n)
half_up (negsuc zero) = refl
half_up (negsuc (suc zero)) = refl
half_up (negsuc (suc (suc n))) = ap (λ (x : ℕ). suc_ℤ (negsuc x)) (sym (half-two n))

parity-up : (k : ℤ) → parity (suc_ℤ (suc_ℤ k)) ≡ parity k
parity-up (pos n) = mod-two n
parity-up (negsuc zero) = refl
parity-up (negsuc (suc zero)) = refl
parity-up (negsuc (suc (suc n))) = ap (λ (x : ℕ). 1 - x) (sym (mod-two n))

pub half_down : (k : ℤ) → half (pred_ℤ (pred_ℤ k)) ≡ pred_ℤ (half k)
half_down (pos zero) = refl
half_down (pos (suc zero)) = refl
half_down (pos (suc (suc n))) = ap (λ (x : ℕ). pred_ℤ (pos x)) (sym (half-two n))
half_down (negsuc n) = ap negsuc (half-two n)

pub parity-down : (k : ℤ) → parity (pred_ℤ (pred_ℤ k)) ≡ parity k
parity-down (pos zero) = refl
parity-down (pos (suc zero)) = refl
parity-down (pos (suc (suc n))) = sym (mod-two n)
parity-down (negsuc n) = ap (λ (x : ℕ). 1 - x) (mod-two n)

two_up : (k w : ℤ) → k +ℤ suc_ℤ (suc_ℤ w) ≡ suc_ℤ (suc_ℤ (k +ℤ w))
two_up k w = +ℤ-suc_ℤ k (suc_ℤ w) ∙ ap suc_ℤ (+ℤ-suc_ℤ k w)

two_down : (k w : ℤ) → k +ℤ pred_ℤ (pred_ℤ w) ≡ pred_ℤ (pred_ℤ (k +ℤ w))
two_down k w = +ℤ-pred_ℤ k (pred_ℤ w) ∙ ap pred_ℤ (+ℤ-pred_ℤ k w)

-- twice v more in the exponent is v more in the half, and the same parity
pub half-add : (k v : ℤ) → (half (k +ℤ (v +ℤ v)) ≡ half k +ℤ v) × (parity (k +ℤ (v +ℤ v)) ≡ parity k)
half-add k (pos zero) = (ap half (+ℤ_idr k) ∙ sym (+ℤ_idr (half k)), ap parity (+ℤ_idr k))
half-add k (pos (suc n)) =
    let e : k +ℤ (pos (suc n) +ℤ pos (suc n)) ≡ suc_ℤ (suc_ℤ (k +ℤ (pos n +ℤ pos n))) = ap (λ (x : ℕ). k +ℤ pos x) (twice n) ∙ two_up k (pos (n + n)) in
    let ih = half-add k (pos n) in
    (ap half e ∙ half_up (k +ℤ (pos n +ℤ pos n)) ∙ ap suc_ℤ ih.0 ∙ sym (+ℤ-suc_ℤ (half k) (pos n)), ap parity e ∙ parity-up (k +ℤ (pos n +ℤ pos n)) ∙ ih.1)
  where
    twice : (n : ℕ) → suc n + suc n ≡ suc (suc (n + n))
    twice n = omega arith
half-add k (negsuc zero) =
    let e : k +ℤ (negsuc zero +ℤ negsuc zero) ≡ pred_ℤ (pred_ℤ k) = two_down k (pos zero) ∙ ap (λ (x : ℤ). pred_ℤ (pred_ℤ x)) (+ℤ_idr k) in
    (ap half e ∙ half_down k ∙ ap pred_ℤ (sym (+ℤ_idr (half k))) ∙ sym (+ℤ-pred_ℤ (half k) (pos zero)), ap parity e ∙ parity-down k)
half-add k (negsuc (suc n)) =
    let e : k +ℤ (negsuc (suc n) +ℤ negsuc (suc n)) ≡ pred_ℤ (pred_ℤ (k +ℤ (negsuc n +ℤ negsuc n))) = ap (λ (x : ℕ). k +ℤ negsuc x) (twice n) ∙ two_down k (negsuc (suc (n + n))) in
    let ih = half-add k (negsuc n) in
    (ap half e ∙ half_down (k +ℤ (negsuc n +ℤ negsuc n)) ∙ ap pred_ℤ ih.0 ∙ sym (+ℤ-pred_ℤ (half k) (negsuc n)), ap parity e ∙ parity-down (k +ℤ (negsuc n +ℤ negsuc n)) ∙ ih.1)
  where
    twice : (n : ℕ) → suc (suc n + suc n) ≡ suc (suc (suc (n + n)))
    twice n = omega arith

-- ---- it goes with scaling, whatever the range
pub swap : (a b c : ℤ) → (a +ℤ b) +ℤ c ≡ (a +ℤ c) +ℤ b
swap a b c = +ℤ_assoc a b c ∙ ap (λ (x : ℤ). a +ℤ x) (+ℤ_comm b c) ∙ sym (+ℤ_assoc a c b)

root_at-scale : (M : ℕ) (E v : ℤ) → root_at M (E +ℤ (v +ℤ v)) ≡ scale v (root_at M E)
root_at-scale M E v =
    let h = half-add E v in
    let R = round binary64 false (rounded (radicand M (parity E))) 1 in
    ap (λ (p : ℕ). scale (half (E +ℤ (v +ℤ v)) +ℤ negsuc 25) (round binary64 false (rounded (radicand M p)) 1)) h.1
    ∙ ap (λ (x : ℤ). scale (x +ℤ negsuc 25) R) h.0
    ∙ ap (λ (x : ℤ). scale x R) (swap (half E) v (negsuc 25))
    ∙ sym (scale-scale v (half E +ℤ negsuc 25) R)

cond-nan : (v : ℤ) (s : Bool) (x y : Float) → x ≡ scale v y → cond s nan x ≡ scale v (cond s nan y)
cond-nan v true x y h = refl
cond-nan v false x y h = h

pub root-scale : (v : ℤ) (x : Float) → square_root (scale (v +ℤ v) x) ≡ scale v (square_root x)
unfolding square_root
root-scale v nan = refl
root-scale v (inf s) = cond-nan v s (inf false) (inf false) refl
root-scale v (fin s zero e) = refl
root-scale v (fin s (suc m) e) =
    let z = neg_ℤ (pos (missing_digits (suc m))) in
    let M = suc m * 2 ^ missing_digits (suc m) in
    cond-nan v s (root_at M ((e +ℤ (v +ℤ v)) +ℤ z)) (root_at M (e +ℤ z)) (ap (root_at M) (swap e (v +ℤ v) z) ∙ root_at-scale M (e +ℤ z) v)

-- ---- some roots, worked out
root-two : square_root (fin false 1 (pos 1)) ≡ lib.Ieee.of_bits binary64 0x3FF6A09E667F3BCD
unfolding square_root whole_root round lib.Ieee.of_bits
root-two = refl

root-least : square_root (fin false 1 (negsuc 1073)) ≡ fin false 1 (negsuc 536)
unfolding square_root whole_root round
root-least = refl

root-three : square_root (fin false 3 (pos 0)) ≡ lib.Ieee.of_bits binary64 0x3FFBB67AE8584CAA
unfolding square_root whole_root round lib.Ieee.of_bits
root-three = refl

-- ---- the nearest: twice q is within 1 of the root of N, for an N that 4 divides
even_step : (N r : ℕ) → N % 4 ≡ 0 → r % 2 ≡ 1 → r * r ≡ N → ⊥
even_step N r h o e = no (r / 2) (omega arith) (omega arith)
  where
    no : (k : ℕ) → r ≡ 2 * k + 1 → N % 4 ≡ 0 → ⊥
    no k p q = omega (arith, ap (λ (z : ℕ). z * r) p, ap (λ (z : ℕ). (2 * k + 1) * z) p, e)

near_even : (N k : ℕ) → 0 < N → Roots N (2 * k) → Near N k
near_even N zero P h = (omega (arith, h.1), omega (arith, h.1))
near_even N (suc j) P h = (less, h.1)
  where
    less : (2 * suc j - 1) * (2 * suc j - 1) < N
    less = lt_of_le_of_lt (le_of_eq (ap (λ (z : ℕ). z * z) one-off)) (lt_of_lt_of_le grow h.0)
      where
        one-off : 2 * suc j - 1 ≡ 2 * j + 1
        one-off = omega arith

        grow : (2 * j + 1) * (2 * j + 1) < 2 * suc j * (2 * suc j)
        grow = omega arith

near-odd : (N k : ℕ) → ((2 * k + 1) * (2 * k + 1) ≡ N → ⊥) → Roots N (2 * k + 1) → Near N (suc k)
near-odd N k n h = (lt_of_le_of_lt (le_of_eq (ap (λ (z : ℕ). z * z) one-off)) (lib.Arith.lt_of_le-ne h.0 n), lt_of_lt_of_le h.1 grow)
  where
    one-off : 2 * suc k - 1 ≡ 2 * k + 1
    one-off = omega arith

    grow : (2 * k + 1 + 1) * (2 * k + 1 + 1) ≤ (2 * suc k + 1) * (2 * suc k + 1)
    grow = omega arith

pub rounded-nearest : (N : ℕ) → N < 4 ^ 54 → N % 4 ≡ 0 → 0 < N → Near N (rounded N)
rounded-nearest N h f P = go (whole_root 54 N) (root-roots 54 N h) (whole_root 54 N % 2) refl
  where
    evenly : (r : ℕ) → r % 2 ≡ 0 → (r ≡ 2 * (r / 2)) × ((r + 1) / 2 ≡ r / 2)
    evenly r e = omega arith

    oddly : (r : ℕ) → r % 2 ≡ 1 → (r ≡ 2 * (r / 2) + 1) × ((r + 1) / 2 ≡ suc (r / 2))
    oddly r e = omega arith

    never : (r k : ℕ) → r % 2 ≡ suc (suc k) → ⊥
    never r k e = omega arith

    go : (r : ℕ) → Roots N r → (b : ℕ) → r % 2 ≡ b → Near N ((r + 1) / 2)
    go r R zero e = let z = evenly r e in subst (Near N) (sym z.1) (near_even N (r / 2) P (subst (Roots N) z.0 R))
    go r R (suc zero) e =
        let z = oddly r e in
        subst (Near N) (sym z.1) (near-odd N (r / 2) (λ q. even_step N r f e (ap (λ (x : ℕ). x * x) z.0 ∙ q)) (subst (Roots N) z.0 R))
    go r R (suc (suc k)) e = absurd (never r k e)
