-- f64 numbers as whole numbers of units, the least positive f64: each operation rounds what it makes of them.
use mathlib.Core.Path.{◌≡◌, refl, sym, ap, ◌∙◌, subst}
use mathlib.Core.Logic.{◌⊎◌, inl, inr}
use mathlib.Core.Bool.{Bool, true, false, not, ◌&&◌, ◌||◌, beq, cond}
use Prim.Native.Nat.{ℕ, zero, suc, ◌+◌, ◌-◌, ◌*◌, ◌/◌, ◌^◌, ◌≤◌, ◌<◌}
use native.Mathlib.Nat.{le_trans, le_of_eq, mul-pos, mul_assoc, mul_comm, mul-one, mul-sub, mul-mul-mul_comm, eq_of_mul-eq-mul_right}
use native.Mathlib.Omega.{arith}
use lib.Dec.{T, ltb, eqb, ltb→lt, nltb→le, eqb→eq}
use lib.Pow.{pow_pos}
use lib.Ieee.{Float, nan, inf, fin, binary64, up, down, unlike, odd, units, round, fits, neg, sum, add, mul, div, lt, eq}
use lib.Ieee.Fits.{up_pos, down_pos, round_is}
use lib.Ieee.Exact.{HasValue}
use lib.Ieee.Order.{drop, kept}
use lib.Ieee.Scale.{grid, overflow}
use Rattle.arithmetic.specs.Numbers.{is_finite, magnitude, is_zero, one, plus_zero}
use Rattle.arithmetic.proofs.RangeTest.{test-of-zero}
use Rattle.arithmetic.proofs.Operations.{grain}
use Rattle.arithmetic.proofs.Rounding.{round_val}
use Rattle.arithmetic.proofs.ScaleLaws.{ltb-same}
use Rattle.tests_basis.proofs.RankRounding.{fl, fl-same}

-- how many units 1 has, and the first power of two that is no f64
unfoldable pub unit : ℕ
unit = 2 ^ 1074

unfoldable pub top : ℕ
top = 2 ^ 2098

pub unit-pos : 0 < unit
unfolding unit
unit-pos = pow_pos 1074

-- x is n units, with the sign s
pub record Is (x : Float) (s : Bool) (n : ℕ) : Type 0 where
  pub val : HasValue x s n unit

-- ---- what rounds
grid-is : (a c n d : ℕ) → 0 < c → 0 < d → a * unit * d ≡ n * c → grid binary64 a c ≡ fl n d
unfolding fl unit
grid-is a c n d C D' e = fl-same (a * 2 ^ 1074) c n d C D' e

-- x is n / d units, rounded, with the sign s
pub record Rounds (x : Float) (s : Bool) (n d : ℕ) : Type 0 where
  pub num : ℕ
  pub den : ℕ
  pub above : 0 < den
  pub frac : num * unit * d ≡ n * den
  pub is : x ≡ round binary64 s num den

-- a fraction that is not too large
pub rounded : {x : Float} {s : Bool} {n d : ℕ} → Rounds x s n d → 0 < d → fl n d < top → Is x s (fl n d)
unfolding unit top
rounded {x} {s} {n} {d} r D' h =
    let e : grid binary64 r.num r.den ≡ fl n d = grid-is r.num r.den n d r.above D' r.frac in
    subst (λ (z : Float). Is z s (fl n d)) (sym r.is)
    (record { val = subst (λ (z : ℕ). HasValue (round binary64 s r.num r.den) s z unit) e (round_val binary64 s r.num r.den (subst (λ (z : ℕ). z < overflow binary64) (sym e) h)) })

-- and any: one that is too large is an infinity
pub rounded-cases : {x : Float} {s : Bool} {n d : ℕ} → Rounds x s n d → 0 < d → (x ≡ inf s) ⊎ Is x s (fl n d)
unfolding units top
rounded-cases {x} {s} {n} {d} r D' = go (ltb (grid binary64 r.num r.den) (overflow binary64)) refl
  where
    go : (b : Bool) → ltb (grid binary64 r.num r.den) (overflow binary64) ≡ b → (x ≡ inf s) ⊎ Is x s (fl n d)
    go true h =
        inr (rounded r D' (subst (λ (z : ℕ). z < overflow binary64) (grid-is r.num r.den n d r.above D' r.frac) (ltb→lt (grid binary64 r.num r.den) (overflow binary64) (subst T (sym h) tt))))
    go false h =
        inl (r.is ∙ round_is binary64 s r.num r.den
        ∙ ap (λ (b : Bool). cond b (odd 54 s (kept 53 (r.num * 2 ^ 1074) r.den) (drop 53 (r.num * 2 ^ 1074) r.den) 1074) (inf s)) h)

-- ---- the operations
-- the sign of a square
pub like : (s : Bool) → unlike s s ≡ false
like true = refl
like false = refl

pub neg-units : {x : Float} {s : Bool} {a : ℕ} → Is x s a → Is (neg x) (not s) a
unfolding neg
neg-units {x = nan} p = absurd p.val
neg-units {x = inf r} p = absurd p.val
neg-units {x = fin r m e} p = record { val = (ap not p.val.0, p.val.1) }

pub magnitude-units : {x : Float} {s : Bool} {a : ℕ} → Is x s a → Is (magnitude x) false a
unfolding magnitude
magnitude-units {x = nan} p = absurd p.val
magnitude-units {x = inf r} p = absurd p.val
magnitude-units {x = fin r m e} p = record { val = (refl, p.val.1) }

mul-frac : (A B a b c d U : ℕ) → A * U ≡ a * c → B * U ≡ b * d → A * B * U * U ≡ a * b * (c * d)
mul-frac A B a b c d U g h = mul_assoc (A * B) U U ∙ mul-mul-mul_comm A B U U ∙ ap (λ (z : ℕ). z * (B * U)) g ∙ ap (λ (z : ℕ). a * c * z) h ∙ mul-mul-mul_comm a c b d

pub mul-rounds : {x y : Float} {s t : Bool} {a b : ℕ} → Is x s a → Is y t b → Rounds (mul binary64 x y) (unlike s t) (a * b) unit
unfolding mul
mul-rounds {x = nan} p q = absurd p.val
mul-rounds {x = inf r} p q = absurd p.val
mul-rounds {x = fin r m e} {y = nan} p q = absurd q.val
mul-rounds {x = fin r m e} {y = inf w} p q = absurd q.val
mul-rounds {x = fin r m e} {y = fin w n d} {s} {t} {a} {b} p q =
    record {
      num = m * up e * (n * up d);
      den = down e * down d;
      above = mul-pos (down_pos e) (down_pos d);
      frac = mul-frac (m * up e) (n * up d) a b (down e) (down d) unit p.val.1 q.val.1;
      is =
          ap (λ (z : Bool). round binary64 (unlike z w) (m * up e * (n * up d)) (down e * down d)) p.val.0
          ∙ ap (λ (z : Bool). round binary64 (unlike s z) (m * up e * (n * up d)) (down e * down d)) q.val.0;
    }

div-frac : (A B a b c d U : ℕ) → A * U ≡ a * c → B * U ≡ b * d → A * d * U * b ≡ a * U * (B * c)
div-frac A B a b c d U g h = omega (arith, ap (λ (z : ℕ). z * (d * b)) g, ap (λ (z : ℕ). z * (a * c)) h)

no-units : (b d c : ℕ) → 0 < b → 0 < d → 0 * c ≡ b * d → ⊥
no-units b d c B D' h = native.Mathlib.Nat.lt_irrefl 0 (subst (λ (z : ℕ). 0 < z) (sym h ∙ native.Mathlib.Nat.zero-mul c) (mul-pos B D'))

pub div-rounds : {x y : Float} {s t : Bool} {a b : ℕ} → Is x s a → Is y t b → 0 < b → Rounds (div binary64 x y) (unlike s t) (a * unit) b
unfolding div
div-rounds {x = nan} p q B = absurd p.val
div-rounds {x = inf r} p q B = absurd p.val
div-rounds {x = fin r m e} {y = nan} p q B = absurd q.val
div-rounds {x = fin r m e} {y = inf w} p q B = absurd q.val
div-rounds {x = fin r m e} {y = fin w zero d} {s} {t} {a} {b} p q B = absurd (no-units b (down d) unit B (down_pos d) (ap (λ (z : ℕ). z * unit) (sym (native.Mathlib.Nat.zero-mul (up d))) ∙ q.val.1))
div-rounds {x = fin r m e} {y = fin w (suc n) d} {s} {t} {a} {b} p q B =
    record {
      num = m * up e * down d;
      den = suc n * up d * down e;
      above = mul-pos (mul-pos (native.Mathlib.Nat.zero-lt-suc n) (up_pos d)) (down_pos e);
      frac = div-frac (m * up e) (suc n * up d) a b (down e) (down d) unit p.val.1 q.val.1;
      is =
          ap (λ (z : Bool). cond z (cond (eqb m 0) nan (inf (unlike r w))) (round binary64 (unlike r w) (m * up e * down d) (suc n * up d * down e))) (lib.Dec.eqb-suc-zero n)
          ∙ ap (λ (z : Bool). round binary64 (unlike z w) (m * up e * down d) (suc n * up d * down e)) p.val.0
          ∙ ap (λ (z : Bool). round binary64 (unlike s z) (m * up e * down d) (suc n * up d * down e)) q.val.0;
    }

-- ---- sums
left-part : (A a c d U : ℕ) → A * U ≡ a * c → A * d * U ≡ a * (c * d)
left-part A a c d U h = omega (arith, ap (λ (z : ℕ). z * d) h)

right-part : (B b c d U : ℕ) → B * U ≡ b * d → B * c * U ≡ b * (c * d)
right-part B b c d U h = omega (arith, ap (λ (z : ℕ). z * c) h)

sum-frac : (A B a b C U : ℕ) → A * U ≡ a * C → B * U ≡ b * C → (A + B) * U * 1 ≡ (a + b) * C
sum-frac A B a b C U g h = omega (arith, g, h)

sub-cross : (a b a' b' g w : ℕ) → a' * g ≡ a * w → b' * g ≡ b * w → (a' - b') * g ≡ (a - b) * w
sub-cross a b a' b' g w h k = mul_comm (a' - b') g ∙ mul-sub g a' b' ∙ two (g * a') (g * b') (w * a) (w * b) (mul_comm g a' ∙ h ∙ mul_comm a w) (mul_comm g b' ∙ k ∙ mul_comm b w) ∙ sym (mul_comm (a - b) w ∙ mul-sub w a b)
  where
    two : (x y z v : ℕ) → x ≡ z → y ≡ v → x - y ≡ z - v
    two x y z v h k = omega arith

-- the difference of a and b, whichever is the larger
abbrev pub apart : ℕ → ℕ → ℕ
apart a b = (a - b) + (b - a)

apart-frac : (A B a b C U : ℕ) → 0 < C → A * U ≡ a * C → B * U ≡ b * C → A ≤ B → (B - A) * U * 1 ≡ apart a b * C
apart-frac A B a b C U P g h l =
    let k : a ≤ b = native.Mathlib.Nat.le_of_mul-le-mul_right (le_trans (le_of_eq (sym g)) (le_trans (native.Mathlib.Nat.mul-le-mul_right U l) (le_of_eq h))) P in
    let z : apart a b ≡ b - a = omega arith in
    mul-one ((B - A) * U) ∙ sub-cross b a B A U C h g ∙ ap (λ (i : ℕ). i * C) (sym z)

apart-swap : (a b : ℕ) → apart a b ≡ apart b a
apart-swap a b = omega arith

same_sign : (s : Bool) (A B C : ℕ) → sum binary64 s A s B C ≡ round binary64 s (A + B) C
unfolding sum
same_sign true A B C = refl
same_sign false A B C = refl

other_sign : (s : Bool) (A B C : ℕ) → sum binary64 s A (not s) B C ≡ cond (ltb A B) (round binary64 (not s) (B - A) C) (round binary64 (s && ltb B A) (A - B) C)
unfolding sum
other_sign true A B C = refl
other_sign false A B C = refl

pub add_same : {x y : Float} {s : Bool} {a b : ℕ} → Is x s a → Is y s b → Rounds (add binary64 x y) s (a + b) 1
unfolding add
add_same {x = nan} p q = absurd p.val
add_same {x = inf r} p q = absurd p.val
add_same {x = fin r m e} {y = nan} p q = absurd q.val
add_same {x = fin r m e} {y = inf w} p q = absurd q.val
add_same {x = fin r m e} {y = fin w n d} {s} {a} {b} p q =
    let A = m * up e * down d in
    let B = n * up d * down e in
    let C = down e * down d in
    record {
      num = A + B;
      den = C;
      above = mul-pos (down_pos e) (down_pos d);
      frac = sum-frac A B a b C unit (left-part (m * up e) a (down e) (down d) unit p.val.1) (right-part (n * up d) b (down e) (down d) unit q.val.1);
      is = ap (λ (z : Bool). sum binary64 z A w B C) p.val.0 ∙ ap (λ (z : Bool). sum binary64 s A z B C) q.val.0 ∙ same_sign s A B C;
    }

-- of unlike signs: the sign is one of the two, or that of a zero
pub add-other : {x y : Float} {s : Bool} {a b : ℕ} → Is x s a → Is y (not s) b → (r : Bool) × Rounds (add binary64 x y) r (apart a b) 1
unfolding add
add-other {x = nan} p q = absurd p.val
add-other {x = inf r} p q = absurd p.val
add-other {x = fin r m e} {y = nan} p q = absurd q.val
add-other {x = fin r m e} {y = inf w} p q = absurd q.val
add-other {x = fin r m e} {y = fin w n d} {s} {a} {b} p q = go (ltb A B) (ltb→lt A B) (nltb→le A B) start
  where
    A : ℕ
    A = m * up e * down d

    B : ℕ
    B = n * up d * down e

    C : ℕ
    C = down e * down d

    f : A * unit ≡ a * C
    f = left-part (m * up e) a (down e) (down d) unit p.val.1

    g : B * unit ≡ b * C
    g = right-part (n * up d) b (down e) (down d) unit q.val.1

    start : sum binary64 r A w B C ≡ cond (ltb A B) (round binary64 (not s) (B - A) C) (round binary64 (s && ltb B A) (A - B) C)
    start = ap (λ (z : Bool). sum binary64 z A w B C) p.val.0 ∙ ap (λ (z : Bool). sum binary64 s A z B C) q.val.0 ∙ other_sign s A B C

    go : (t : Bool) → (T t → A < B) → (T (not t) → B ≤ A) → sum binary64 r A w B C ≡ cond t (round binary64 (not s) (B - A) C) (round binary64 (s && ltb B A) (A - B) C)
        → (o : Bool) × Rounds (sum binary64 r A w B C) o (apart a b) 1
    go true l k i = (not s, record { num = B - A; den = C; above = mul-pos (down_pos e) (down_pos d); frac = apart-frac A B a b C unit (mul-pos (down_pos e) (down_pos d)) f g (native.Mathlib.Nat.le_of_lt (l tt)); is = i })
    go false l k i = (s && ltb B A, record { num = A - B; den = C; above = mul-pos (down_pos e) (down_pos d); frac = apart-frac B A b a C unit (mul-pos (down_pos e) (down_pos d)) g f (k tt) ∙ ap (λ (z : ℕ). z * C) (apart-swap b a); is = i })

-- ---- comparisons of numbers that are not negative
pub lt-units : {x y : Float} {a b : ℕ} → Is x false a → Is y false b → lt x y ≡ ltb a b
unfolding lt
lt-units {x = nan} p q = absurd p.val
lt-units {x = inf r} p q = absurd p.val
lt-units {x = fin r m e} {y = nan} p q = absurd q.val
lt-units {x = fin r m e} {y = inf w} p q = absurd q.val
lt-units {x = fin true m e} {y = fin w n d} p q = absurd (mathlib.Core.Bool.true≢false p.val.0)
lt-units {x = fin false m e} {y = fin true n d} p q = absurd (mathlib.Core.Bool.true≢false q.val.0)
lt-units {x = fin false m e} {y = fin false n d} {a} {b} p q =
    ltb-same a b (m * up e * down d) (n * up d * down e) unit (down e * down d) unit-pos (mul-pos (down_pos e) (down_pos d))
    (left-part (m * up e) a (down e) (down d) unit p.val.1) (right-part (n * up d) b (down e) (down d) unit q.val.1)

pub eq-units : {x y : Float} {s t : Bool} {a b : ℕ} → Is x s a → Is y t b → T (eq x y) → a ≡ b
unfolding eq
eq-units {x = nan} p q h = absurd p.val
eq-units {x = inf r} p q h = absurd p.val
eq-units {x = fin r m e} {y = nan} p q h = absurd q.val
eq-units {x = fin r m e} {y = inf w} p q h = absurd q.val
eq-units {x = fin r m e} {y = fin w n d} {s} {t} {a} {b} p q h =
    let A = m * up e * down d in
    let B = n * up d * down e in
    let C = down e * down d in
    let k : A ≡ B = eqb→eq A B (lib.Ieee.Fits.and_l (eqb A B) (beq r w || eqb A 0) h) in
    eq_of_mul-eq-mul_right C (mul-pos (down_pos e) (down_pos d)) a b
    (sym (left-part (m * up e) a (down e) (down d) unit p.val.1) ∙ ap (λ (z : ℕ). z * unit) k ∙ right-part (n * up d) b (down e) (down d) unit q.val.1)

-- ---- which numbers are whole numbers of units: every finite f64
pub units_of : (x : Float) → T (is_finite x) → T (fits binary64 x) → (s : Bool) × (n : ℕ) × Is x s n
unfolding is_finite unit
units_of nan f t = absurd f
units_of (inf s) f t = absurd f
units_of (fin s m e) f t =
    let g = grain binary64 s m e t in
    (s, m * up e * g.0, record { val = (refl, ap (λ (z : ℕ). m * up e * z) (sym g.1) ∙ turn (m * up e) (down e) g.0) })
  where
    turn : (x y z : ℕ) → x * (y * z) ≡ x * z * y
    turn x y z = omega arith

pub first-zero : (m u c : ℕ) → 0 < u → 0 < c → m * u * c ≡ 0 → m ≡ 0
first-zero zero u c U C h = refl
first-zero (suc m) u c U C h = absurd (native.Mathlib.Nat.lt_irrefl 0 (subst (λ (z : ℕ). 0 < z) h (mul-pos (mul-pos (native.Mathlib.Nat.zero-lt-suc m) U) C)))

-- no units, and the test for zero
pub zero-units : {x : Float} {s : Bool} {n : ℕ} → Is x s n → n ≡ 0 → T (is_zero x)
zero-units {x = nan} p h = absurd p.val
zero-units {x = inf r} p h = absurd p.val
zero-units {x = fin r m e} {s} {n} p h = test-of-zero (fin r m e) (first-zero m (up e) unit (up_pos e) unit-pos (p.val.1 ∙ ap (λ (z : ℕ). z * down e) h ∙ native.Mathlib.Nat.zero-mul (down e)))

-- the one and the zero
pub one-units : Is one false unit
unfolding unit
one-units = record { val = (refl, refl) }

pub nil-units : Is plus_zero false 0
nil-units = record { val = (refl, native.Mathlib.Nat.zero-mul unit) }
