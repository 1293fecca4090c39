-- Bounds of f64 numbers by powers of two: products and sums of bounded numbers are bounded.
use mathlib.Core.Path.{◌≡◌, sym, ap, ◌∙◌}
use mathlib.Core.Bool.{Bool, true, false, not, beq, cond}
use Prim.Native.Nat.{ℕ, suc, ◌+◌, ◌-◌, ◌*◌, ◌^◌, ◌≤◌, ◌<◌}
use native.Mathlib.Nat.{le_trans, le_of_eq, le_refl, lt_of_le_of_lt, mul-le-mul, mul-le-mul_right, le_of_mul-le-mul_right, pow-succ'}
use native.Mathlib.Omega.{arith}
use lib.Pow.{pow-add, pow_pos, pow-lt}
use lib.Ieee.{Float, binary64, unlike, neg, add, sub, mul}
use Rattle.tests_basis.proofs.RankRounding.{fl, fl-le, fl-ge}
use Rattle.tests_basis.proofs.RankUnits.{unit, unit-pos, top, Is, Rounds, rounded, apart, neg-units, mul-rounds, add_same, add-other}

-- 2 ^ k, in units
unit-pow : (k : ℕ) → 2 ^ (1074 + k) ≡ unit * 2 ^ k
unfolding unit
unit-pow k = pow-add 2 1074 k

unit-back : (k : ℕ) → k ≤ 1074 → 2 ^ (1074 - k) * 2 ^ k ≡ unit
unfolding unit
unit-back k h = sym (pow-add 2 (1074 - k) k) ∙ ap (λ (z : ℕ). 2 ^ z) (back k h)
  where
    back : (k : ℕ) → k ≤ 1074 → 1074 - k + k ≡ 1074
    back k h = omega arith

-- ---- what rounds keeps a bound
pub fl-most : (n d k : ℕ) → 0 < d → n ≤ unit * 2 ^ k * d → fl n d ≤ unit * 2 ^ k
fl-most n d k h l = rw (← unit-pow k) (fl-le n d (1074 + k) h (rw (← unit-pow k) at l))

pub fl-least : (n d k : ℕ) → 0 < d → k ≤ 1074 → unit * d ≤ n * 2 ^ k → unit ≤ fl n d * 2 ^ k
fl-least n d k h l g =
    let P = 2 ^ (1074 - k) in
    let e : P * 2 ^ k ≡ unit = unit-back k l in
    le_trans (le_of_eq (sym e)) (mul-le-mul_right (2 ^ k)
    (fl-ge n d (1074 - k) h (le_of_mul-le-mul_right (le_trans (le_of_eq (turn P (2 ^ k) unit d e)) g) (pow_pos k))))
  where
    turn : (P K U d : ℕ) → P * K ≡ U → P * d * K ≡ U * d
    turn P K U d e = omega (arith, ap (λ (z : ℕ). z * d) e)

pub fl-top : (n k : ℕ) → k < 1024 → n ≤ unit * 2 ^ k → n < top
unfolding top
fl-top n k h l = lt_of_le_of_lt (le_trans l (le_of_eq (sym (unit-pow k)))) (pow-lt (room k h))
  where
    room : (k : ℕ) → k < 1024 → 1074 + k < 2098
    room k h = omega arith

-- x is finite, of at most b units
pub record Most (x : Float) (b : ℕ) : Type 0 where
  pub sign : Bool
  pub size : ℕ
  pub is : Is x sign size
  pub most : size ≤ b

pub most-less : {x : Float} {a b : ℕ} → a ≤ b → Most x a → Most x b
most-less h m = record { sign = m.sign; size = m.size; is = m.is; most = le_trans m.most h }

pub rounds-most : {x : Float} {s : Bool} {n d : ℕ} (k : ℕ) → Rounds x s n d → 0 < d → k < 1024 → n ≤ unit * 2 ^ k * d → (Is x s (fl n d)) × (fl n d ≤ unit * 2 ^ k)
rounds-most {n = n} {d} k r h l g = let m : fl n d ≤ unit * 2 ^ k = fl-most n d k h g in (rounded r h (fl-top (fl n d) k l m), m)

-- a sum, by the signs
pub add_rounds : {x y : Float} {s t : Bool} {a b : ℕ} → Is x s a → Is y t b → (r : Bool) × Rounds (add binary64 x y) r (cond (beq s t) (a + b) (apart a b)) 1
add_rounds {s = true} {t = true} p q = (true, add_same p q)
add_rounds {s = true} {t = false} p q = add-other p q
add_rounds {s = false} {t = true} p q = add-other p q
add_rounds {s = false} {t = false} p q = (false, add_same p q)

pub sub-rounds : {x y : Float} {s t : Bool} {a b : ℕ} → Is x s a → Is y t b → (r : Bool) × Rounds (sub binary64 x y) r (cond (beq s (not t)) (a + b) (apart a b)) 1
unfolding sub
sub-rounds p q = add_rounds p (neg-units q)

-- whichever sign, it is the sum of the magnitudes at most
pub either-most : (o : Bool) (a b : ℕ) → cond o (a + b) (apart a b) ≤ a + b
either-most true a b = le_refl (a + b)
either-most false a b = omega arith

double : (a b U K L : ℕ) → L ≡ 2 * K → a ≤ U * K → b ≤ U * K → a + b ≤ U * L * 1
double a b U K L e h l = omega (arith, ap (λ (z : ℕ). U * z) e)

pub either-double : (o : Bool) (a b k : ℕ) → a ≤ unit * 2 ^ k → b ≤ unit * 2 ^ k → cond o (a + b) (apart a b) ≤ unit * 2 ^ suc k * 1
either-double o a b k h l = le_trans (either-most o a b) (double a b unit (2 ^ k) (2 ^ suc k) (pow-succ' 2 k) h l)

pub product-most : (a b j k : ℕ) → a ≤ unit * 2 ^ j → b ≤ unit * 2 ^ k → a * b ≤ unit * 2 ^ (j + k) * unit
product-most a b j k h l = le_trans (mul-le-mul h l) (le_of_eq (turn unit (2 ^ j) (2 ^ k) (2 ^ (j + k)) (pow-add 2 j k)))
  where
    turn : (U J K L : ℕ) → L ≡ J * K → U * J * (U * K) ≡ U * L * U
    turn U J K L e = omega (arith, ap (λ (z : ℕ). U * U * z) e)

pub mul_most : {x y : Float} (j k : ℕ) → j + k < 1024 → Most x (unit * 2 ^ j) → Most y (unit * 2 ^ k) → Most (mul binary64 x y) (unit * 2 ^ (j + k))
mul_most j k h p q =
    let r = rounds-most (j + k) (mul-rounds p.is q.is) unit-pos h (product-most p.size q.size j k p.most q.most) in
    record { sign = unlike p.sign q.sign; size = fl (p.size * q.size) unit; is = r.0; most = r.1 }

pub add_most : {x y : Float} (k : ℕ) → suc k < 1024 → Most x (unit * 2 ^ k) → Most y (unit * 2 ^ k) → Most (add binary64 x y) (unit * 2 ^ suc k)
add_most k h p q =
    let o = beq p.sign q.sign in
    let a = add_rounds p.is q.is in
    let r = rounds-most (suc k) a.1 (pow_pos 0) h (either-double o p.size q.size k p.most q.most) in
    record { sign = a.0; size = fl (cond o (p.size + q.size) (apart p.size q.size)) 1; is = r.0; most = r.1 }

pub neg-most : {x : Float} {b : ℕ} → Most x b → Most (neg x) b
neg-most p = record { sign = not p.sign; size = p.size; is = neg-units p.is; most = p.most }

pub sub-most : {x y : Float} (k : ℕ) → suc k < 1024 → Most x (unit * 2 ^ k) → Most y (unit * 2 ^ k) → Most (sub binary64 x y) (unit * 2 ^ suc k)
unfolding sub
sub-most k h p q = add_most k h p (neg-most q)
