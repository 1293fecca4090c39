-- The square root in units: its square is near n units times 1, and the root of 1 or more is 1 or more.
use mathlib.Core.Path.{◌≡◌, sym, ap, ◌∙◌, subst}
use mathlib.Core.Bool.{true, false, true≢false}
use Prim.Native.Nat.{ℕ, zero, suc, ◌+◌, ◌-◌, ◌*◌, ◌^◌, ◌≤◌, ◌<◌}
use native.Mathlib.Nat.{le_trans, le_of_eq, lt_of_le_of_lt, lt_of_lt_of_le, lt_irrefl, lt_of_not-le, mul-pos, mul-one, zero-mul, mul-le-mul, mul-le-mul_right, mul-lt-mul_of_pos_right, le_of_mul-le-mul_right, lt_of_mul-lt-mul_right, eq_of_mul-eq-mul_right}
use native.Mathlib.Decide.{dec_le}
use native.Mathlib.Omega.{arith}
use lib.IntN.{ℤ, pos, negsuc, ◌+ℤ◌}
use lib.Dec.{T, lit≤}
use lib.Pow.{pow_pos, pow_mono}
use lib.Ieee.{Float, nan, inf, fin, binary64, up, down, fits}
use lib.Ieee.Exact.{HasValue}
use lib.Ieee.Fits.{up_pos, down_pos}
use Rattle.arithmetic.specs.SquareRoot.{square_root, CorrectlyRounded}
use Rattle.arithmetic.proofs.Operations.{grain}
use Rattle.arithmetic.proofs.ScaleLaws.{up-add}
use Rattle.arithmetic.proofs.RootNearest.{root-nearest}
use Rattle.arithmetic.proofs.RootCases.{root-fits}
use Rattle.tests_basis.proofs.RankUnits.{unit, unit-pos, Is}

-- r units are near the root of n units
pub record Root (n r : ℕ) : Type 0 where
  pub least : 1000 * (n * unit) ≤ 1001 * (r * r)
  pub most : 999 * (r * r) ≤ 1000 * (n * unit)
  pub whole : unit ≤ n → unit ≤ r

-- the units of a value that is a / c
value-units : (y : Float) (a c : ℕ) → T (fits binary64 y) → HasValue y false a c → (r : ℕ) × Is y false r × (r * c ≡ a * unit)
unfolding unit
value-units nan a c t v = absurd v
value-units (inf s) a c t v = absurd v
value-units (fin s m e) a c t v =
    let g = grain binary64 s m e t in
    (m * up e * g.0, record { val = (v.0, ap (λ (z : ℕ). m * up e * z) (sym g.1) ∙ turn (m * up e) (down e) g.0) }, cut (m * up e) g.0 (down e) unit v.1 g.1)
  where
    turn : (x y z : ℕ) → x * (y * z) ≡ x * z * y
    turn x y z = omega arith

    cut : (x k d U : ℕ) → x * c ≡ a * d → d * k ≡ U → x * k * c ≡ a * U
    cut x k d U h i = omega (arith, ap (λ (z : ℕ). z * k) h, ap (λ (z : ℕ). a * z) i)

argument-units : (m u d n N u2 d2 U : ℕ) → 0 < d → m * u * (4 * d2) ≡ N * u2 * d → m * u * U ≡ n * d → n * (4 * d2) ≡ N * u2 * U
argument-units m u d n N u2 d2 U D' g h = eq_of_mul-eq-mul_right d D' (n * (4 * d2)) (N * u2 * U) (omega (arith, ap (λ (z : ℕ). z * U) g, ap (λ (z : ℕ). z * (4 * d2)) h))

-- r / U is q 2 ^ h, and n / U is N 2 ^ (2 h) / 4
module _ (q N r n uh dh u2 d2 U : ℕ) (DH : 0 < dh) (D2 : 0 < d2) (g : r * (1 * dh) ≡ q * uh * U) (k : n * (4 * d2) ≡ N * u2 * U) (e : u2 * (dh * dh) ≡ uh * uh * d2) where
  square : r * r * N ≡ 4 * (q * q) * (n * U)
  square =
      let e1 : r * r * N * (dh * dh * d2) ≡ r * (1 * dh) * (r * (1 * dh)) * (N * d2) = omega arith in
      let e2 : r * (1 * dh) * (r * (1 * dh)) * (N * d2) ≡ q * uh * U * (q * uh * U) * (N * d2) = ap (λ (z : ℕ). z * z * (N * d2)) g in
      let e3 : q * uh * U * (q * uh * U) * (N * d2) ≡ uh * uh * d2 * (q * q * N * U * U) = omega arith in
      let e4 : uh * uh * d2 * (q * q * N * U * U) ≡ u2 * (dh * dh) * (q * q * N * U * U) = ap (λ (z : ℕ). z * (q * q * N * U * U)) (sym e) in
      let e5 : u2 * (dh * dh) * (q * q * N * U * U) ≡ N * u2 * U * (dh * dh * q * q * U) = omega arith in
      let e6 : N * u2 * U * (dh * dh * q * q * U) ≡ n * (4 * d2) * (dh * dh * q * q * U) = ap (λ (z : ℕ). z * (dh * dh * q * q * U)) (sym k) in
      let e7 : n * (4 * d2) * (dh * dh * q * q * U) ≡ 4 * (q * q) * (n * U) * (dh * dh * d2) = omega arith in
      eq_of_mul-eq-mul_right (dh * dh * d2) (mul-pos (mul-pos DH DH) D2) (r * r * N) (4 * (q * q) * (n * U)) (e1 ∙ e2 ∙ e3 ∙ e4 ∙ e5 ∙ e6 ∙ e7)

  -- where q has fewer than P, and P 2 ^ h is 1 at most, a root below 1 is of a number below 1
  below : (P : ℕ) → 0 < uh → 0 < U → q < P → P * uh ≤ dh → N < (2 * q + 1) * (2 * q + 1) → U ≤ n → ⊥
  below P UH UP Q J B l =
      let a1 : 4 * d2 * U ≤ N * u2 * U = le_trans (le_trans (le_of_eq (r1 d2 U)) (mul-le-mul_right (4 * d2) l)) (le_of_eq k) in
      let a2 : 4 * d2 ≤ N * u2 = le_of_mul-le-mul_right a1 UP in
      let a3 : 4 * d2 * (dh * dh) ≤ N * (uh * uh) * d2 = le_trans (mul-le-mul_right (dh * dh) a2) (le_of_eq (r2 N u2 dh uh d2 e)) in
      let a4 : 4 * (dh * dh) ≤ N * (uh * uh) = le_of_mul-le-mul_right (le_trans (le_of_eq (r3 dh d2)) a3) D2 in
      let a5 : P * uh * (P * uh) ≤ dh * dh = mul-le-mul J J in
      let a6 : 4 * (P * P) * (uh * uh) ≤ N * (uh * uh) = omega (arith, a4, a5) in
      let a7 : 4 * (P * P) ≤ N = le_of_mul-le-mul_right a6 (mul-pos UH UH) in
      let a8 : (2 * q + 1) * (2 * q + 1) ≤ 2 * P * (2 * P) = mul-le-mul (room q P Q) (room q P Q) in
      lt_irrefl N (lt_of_lt_of_le B (le_trans a8 (le_trans (le_of_eq (r4 P)) a7)))
    where
      r1 : (d2 U : ℕ) → 4 * d2 * U ≡ U * (4 * d2)
      r1 d2 U = omega arith

      r2 : (N u2 dh uh d2 : ℕ) → u2 * (dh * dh) ≡ uh * uh * d2 → N * u2 * (dh * dh) ≡ N * (uh * uh) * d2
      r2 N u2 dh uh d2 e = omega (arith, ap (λ (z : ℕ). N * z) e)

      r3 : (dh d2 : ℕ) → 4 * (dh * dh) * d2 ≡ 4 * d2 * (dh * dh)
      r3 dh d2 = omega arith

      r4 : (P : ℕ) → 2 * P * (2 * P) ≡ 4 * (P * P)
      r4 P = omega arith

      room : (q P : ℕ) → q < P → 2 * q + 1 ≤ 2 * P
      room q P h = omega arith

-- N is near 4 q²
near-square : (q N p : ℕ) → 2000 ≤ q → p + 1 ≡ 2 * q → p * p < N → N < (2 * q + 1) * (2 * q + 1) → (1000 * N ≤ 1001 * (4 * (q * q))) × (999 * (4 * (q * q)) ≤ 1000 * N)
near-square q N p h e l g =
    let s : 2000 * q ≤ q * q = mul-le-mul_right q h in
    let f : (p + 1) * (p + 1) ≡ 2 * q * (2 * q) = ap (λ (z : ℕ). z * z) e in
    (omega arith, omega arith)

cancel : (R N W E : ℕ) → 0 < W → R * N ≡ W * E → (1000 * N ≤ 1001 * W) × (999 * W ≤ 1000 * N) → (1000 * E ≤ 1001 * R) × (999 * R ≤ 1000 * E)
cancel R N W E P e h =
    let a : R * (1000 * N) ≤ R * (1001 * W) = native.Mathlib.Nat.mul-le-mul_left R h.0 in
    let b : R * (999 * W) ≤ R * (1000 * N) = native.Mathlib.Nat.mul-le-mul_left R h.1 in
    (le_of_mul-le-mul_right {m = 1000 * E} {n = 1001 * R} {k = W} (omega arith) P, le_of_mul-le-mul_right {m = 999 * R} {n = 1000 * E} {k = W} (omega arith) P)

-- 2 ^ h, below 2 ^ -52, is 2 ^ -53 at most
jump : (h : ℤ) → 2 ^ 52 * up h < down h → 2 ^ 53 * up h ≤ down h
jump (pos k) l = absurd (lt_irrefl 1 (lt_of_le_of_lt (mul-pos (pow_pos 52) (pow_pos k)) l))
jump (negsuc k) l =
    le_trans (le_of_eq (mul-one (2 ^ 53)))
    (pow_mono (lt_of_not-le (λ (g : suc k ≤ 52). lt_irrefl (2 ^ 52) (lt_of_lt_of_le (lt_of_le_of_lt (le_of_eq (sym (mul-one (2 ^ 52)))) l) (pow_mono g)))))

pub root-units : {x : Float} {n : ℕ} → T (fits binary64 x) → Is x false n → 1 ≤ n → (r : ℕ) × Is (square_root x) false r × Root n r
root-units {x = nan} t i l = absurd i.val
root-units {x = inf s} t i l = absurd i.val
root-units {x = fin true m e} t i l = absurd (true≢false i.val.0)
root-units {x = fin false zero e} {n} t i l = absurd (lt_irrefl 0 (subst (λ (z : ℕ). 0 < z) (sym i.val.1 ∙ ap (λ (z : ℕ). z * unit) (zero-mul (up e)) ∙ zero-mul unit) (mul-pos l (down_pos e))))
root-units {x = fin false (suc m) e} {n} t i l = (v.0, v.1, record { least = b.0; most = b.1; whole = w })
  where
    c : CorrectlyRounded (fin false (suc m) e) (square_root (fin false (suc m) e))
    c = root-nearest m e t

    v : (r : ℕ) × Is (square_root (fin false (suc m) e)) false r × (r * (1 * down c.h) ≡ c.q * up c.h * unit)
    v = value-units (square_root (fin false (suc m) e)) (c.q * up c.h) (1 * down c.h) (root-fits (fin false (suc m) e) t) c.result

    k : n * (4 * down (c.h +ℤ c.h)) ≡ c.N * up (c.h +ℤ c.h) * unit
    k = argument-units (suc m) (up e) (down e) n c.N (up (c.h +ℤ c.h)) (down (c.h +ℤ c.h)) unit (down_pos e) c.argument.1 i.val.1

    b : (1000 * (n * unit) ≤ 1001 * (v.0 * v.0)) × (999 * (v.0 * v.0) ≤ 1000 * (n * unit))
    b =
        cancel (v.0 * v.0) c.N (4 * (c.q * c.q)) (n * unit) (mul-pos (pow_pos 2) (mul-pos (lt_of_lt_of_le (pow_pos 52) c.digits.0) (lt_of_lt_of_le (pow_pos 52) c.digits.0)))
        (square c.q c.N v.0 n (up c.h) (down c.h) (up (c.h +ℤ c.h)) (down (c.h +ℤ c.h)) unit (down_pos c.h) (down_pos (c.h +ℤ c.h)) v.2 k (up-add c.h c.h))
        (near-square c.q c.N (2 * c.q - 1) (le_trans (lit≤ tt) c.digits.0) (one_more c.q (lt_of_lt_of_le (pow_pos 52) c.digits.0)) c.near.0 c.near.1)
      where
        one_more : (q : ℕ) → 0 < q → 2 * q - 1 + 1 ≡ 2 * q
        one_more q h = omega arith

    w : unit ≤ n → unit ≤ v.0
    w h = go (dec_le unit v.0)
      where
        small : v.0 < unit → c.q * up c.h < down c.h
        small g = lt_of_mul-lt-mul_right unit (lt_of_le_of_lt (le_of_eq (sym v.2)) (swap v.0 (down c.h) unit (mul-lt-mul_of_pos_right g (down_pos c.h))))
          where
            swap : (r d U : ℕ) → r * d < U * d → r * (1 * d) < d * U
            swap r d U h = omega arith

        go : Dec (unit ≤ v.0) → unit ≤ v.0
        go (yes g) = g
        go (no g) =
            absurd (below c.q c.N v.0 n (up c.h) (down c.h) (up (c.h +ℤ c.h)) (down (c.h +ℤ c.h)) unit (down_pos c.h) (down_pos (c.h +ℤ c.h)) v.2 k (up-add c.h c.h)
            (2 ^ 53) (up_pos c.h) unit-pos c.digits.1
            (jump c.h (lt_of_le_of_lt (mul-le-mul_right (up c.h) c.digits.0) (small (lt_of_not-le g)))) c.near.1 h)
