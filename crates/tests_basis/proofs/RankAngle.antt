-- The angle of a turn: the tangent is at most 1 in magnitude, and the cosine lies between 0.7 and 1.
use mathlib.Core.Path.{◌≡◌, refl, sym, ap, ◌∙◌, subst}
use mathlib.Core.Logic.{◌⊎◌, inl, inr}
use mathlib.Core.Bool.{Bool, true, false, not, cond}
use Prim.Native.Nat.{ℕ, ◌+◌, ◌*◌, ◌^◌, ◌≤◌, ◌<◌}
use native.Mathlib.Nat.{le_trans, le_of_eq, le_refl, lt_of_lt_of_le, mul-one, mul-le-mul, mul-le-mul_right, mul-le-mul_left, mul-pos}
use native.Mathlib.Decide.{dec_le}
use native.Mathlib.Omega.{arith}
use lib.Dec.{T, lit≤, lit<}
use lib.Pow.{pow_pos, pow_mono}
use lib.IntN.{pos}
use lib.Ieee.{Float, nan, inf, fin, binary64, unlike, add, mul, div, lt, fits}
use lib.Ieee.Fits.{add-fits}
use Rattle.arithmetic.specs.Numbers.{plus_zero, one, minus_one, magnitude, sign}
use Rattle.arithmetic.specs.SquareRoot.{square_root}
use Rattle.algebra.specs.Kind.{floats}
use Rattle.algebra.specs.Jacobi.{tangent, cosine, sine}
use Rattle.tests_basis.proofs.RankRounding.{fl, Near, fl-near}
use Rattle.tests_basis.proofs.RankUnits.{unit, unit-pos, Is, like, Rounds, rounded-cases, mul-rounds, div-rounds, add_same, magnitude-units, one-units}
use Rattle.tests_basis.proofs.RankRoot.{root-units}
use Rattle.tests_basis.proofs.RankBounds.{Most, fl-least, rounds-most, mul_most, product-most}

-- no NaN
pub data Number : Float → Type 0 where
  infinite : {x : Float} (s : Bool) → x ≡ inf s → Number x
  finite : {x : Float} {s : Bool} {n : ℕ} → Is x s n → Number x

pub rounded-number : {x : Float} {s : Bool} {n d : ℕ} → Rounds x s n d → 0 < d → Number x
rounded-number {x} {s} {n} {d} r h = go (rounded-cases r h)
  where
    go : (x ≡ inf s) ⊎ Is x s (fl n d) → Number x
    go (inl e) = infinite s e
    go (inr i) = finite i

-- 1 or more: an infinity, or a finite number
data Whole : Float → Type 0 where
  infinity : {x : Float} → x ≡ inf false → Whole x
  from : {x : Float} {n : ℕ} → Is x false n → unit ≤ n → Whole x

plus_one : (g : ℕ) → unit * 1 ≤ (g + unit) * 2 ^ 0
plus_one g = omega arith

-- x + y, where x is not negative and y is 1 or more
whole_sum : {x y : Float} {a b : ℕ} → Is x false a → Is y false b → unit ≤ b → Whole (add binary64 x y)
whole_sum {x} {y} {a} {b} p q h = go (rounded-cases r (pow_pos 0))
  where
    r : Rounds (add binary64 x y) false (a + b) 1
    r = add_same p q

    room : (a b U : ℕ) → U ≤ b → U * 1 ≤ (a + b) * 1
    room a b U h = omega arith

    go : (add binary64 x y ≡ inf false) ⊎ Is (add binary64 x y) false (fl (a + b) 1) → Whole (add binary64 x y)
    go (inl e) = infinity e
    go (inr i) = from i (le_trans (fl-least (a + b) 1 0 (pow_pos 0) (lit≤ tt) (room a b unit h)) (le_of_eq (mul-one (fl (a + b) 1))))

infinite-first : {y : Float} {t : Bool} {n : ℕ} (s : Bool) → Is y t n → add binary64 (inf s) y ≡ inf s
unfolding add
infinite-first {y = nan} s q = absurd q.val
infinite-first {y = inf w} s q = absurd q.val
infinite-first {y = fin w n d} s q = refl

infinite-second : {x : Float} {s : Bool} {n : ℕ} (t : Bool) → Is x s n → add binary64 x (inf t) ≡ inf t
unfolding add
infinite-second {x = nan} t q = absurd q.val
infinite-second {x = inf w} t q = absurd q.val
infinite-second {x = fin w n d} t q = refl

both-infinite : add binary64 (inf false) (inf false) ≡ inf false
unfolding add
both-infinite = refl

square-infinite : (s : Bool) → mul binary64 (inf s) (inf s) ≡ inf false
unfolding mul
square-infinite true = refl
square-infinite false = refl

root-infinite : square_root (inf false) ≡ inf false
unfolding square_root
root-infinite = refl

magnitude-infinite : (s : Bool) → magnitude (inf s) ≡ inf false
unfolding magnitude
magnitude-infinite s = refl

over-infinite : {x : Float} {s : Bool} {n : ℕ} → Is x s n → (r : Bool) × (div binary64 x (inf false) ≡ fin r 0 (pos 0))
unfolding div
over-infinite {x = nan} q = absurd q.val
over-infinite {x = inf w} q = absurd q.val
over-infinite {x = fin w n d} q = (unlike w false, refl)

-- z² + 1
square-whole : {z : Float} → Number z → Whole (add binary64 (mul binary64 z z) one)
square-whole (infinite s e) =
    infinity (ap (λ (x : Float). add binary64 (mul binary64 x x) one) e ∙ ap (λ (x : Float). add binary64 x one) (square-infinite s) ∙ infinite-first false one-units)
square-whole {z} (finite {s = s} {n} i) = go (rounded-cases r unit-pos)
  where
    r : Rounds (mul binary64 z z) false (n * n) unit
    r = subst (λ (b : Bool). Rounds (mul binary64 z z) b (n * n) unit) (like s) (mul-rounds i i)

    go : (mul binary64 z z ≡ inf false) ⊎ Is (mul binary64 z z) false (fl (n * n) unit) → Whole (add binary64 (mul binary64 z z) one)
    go (inl e) = infinity (ap (λ (x : Float). add binary64 x one) e ∙ infinite-first false one-units)
    go (inr j) = whole_sum j one-units (le_refl unit)

whole-root : {x : Float} → T (fits binary64 x) → Whole x → Whole (square_root x)
whole-root t (infinity e) = infinity (ap square_root e ∙ root-infinite)
whole-root t (from i h) = let r = root-units t i (le_trans unit-pos h) in from r.1 (r.2.whole h)

-- |z| and a root of 1 or more
magnitude-plus : {z w : Float} → Number z → Whole w → Whole (add binary64 (magnitude z) w)
magnitude-plus {w = w} (infinite s e) (infinity f) =
    infinity (ap (λ (x : Float). add binary64 (magnitude x) w) e ∙ ap (λ (x : Float). add binary64 x w) (magnitude-infinite s) ∙ ap (add binary64 (inf false)) f ∙ both-infinite)
magnitude-plus {w = w} (infinite s e) (from j h) =
    infinity (ap (λ (x : Float). add binary64 (magnitude x) w) e ∙ ap (λ (x : Float). add binary64 x w) (magnitude-infinite s) ∙ infinite-first false j)
magnitude-plus {z} (finite i) (infinity f) = infinity (ap (add binary64 (magnitude z)) f ∙ infinite-second false (magnitude-units i))
magnitude-plus (finite i) (from j h) = whole_sum (magnitude-units i) j h

sign-units : (z : Float) → (s : Bool) × Is (sign z) s unit
unfolding sign
sign-units z = go (lt z plus_zero)
  where
    go : (b : Bool) → (s : Bool) × Is (cond b minus_one one) s unit
    go true = (true, record { val = (refl, one-units.val.1) })
    go false = (false, one-units)

nothing-units : (r : Bool) → Is (fin r 0 (pos 0)) r 0
nothing-units r = record { val = (refl, native.Mathlib.Nat.zero-mul unit) }

-- 1 over 1 or more
over-whole : (U n : ℕ) → U ≤ n → U * U ≤ U * 2 ^ 0 * n
over-whole U n h = le_trans (mul-le-mul_left U h) (le_of_eq (ap (λ (z : ℕ). z * n) (sym (mul-one U))))

-- the tangent of no NaN is at most 1
pub tangent-most : {z : Float} → Number z → Most (tangent floats z) (unit * 2 ^ 0)
unfolding tangent
tangent-most {z} h =
    let s = sign-units z in
    go s.0 s.1 (magnitude-plus h (whole-root (add-fits binary64 (mul binary64 z z) one) (square-whole h)))
  where
    go : {w : Float} (s : Bool) → Is (sign z) s unit → Whole w → Most (div binary64 (sign z) w) (unit * 2 ^ 0)
    go s i (infinity e) =
        let r = over-infinite i in
        record { sign = r.0; size = 0; is = subst (λ (x : Float). Is x r.0 0) (sym (ap (div binary64 (sign z)) e ∙ r.1)) (nothing-units r.0); most = omega arith }
    go s i (from {n = n} j l) =
        let r = rounds-most 0 (div-rounds i j (lt_of_lt_of_le unit-pos l)) (lt_of_lt_of_le unit-pos l) (lit< tt) (over-whole unit n l) in
        record { sign = unlike s false; size = fl (unit * unit) n; is = r.0; most = r.1 }

-- ---- the cosine
-- the root of at most 2 is at most 91 / 64
root-most : (U h r : ℕ) → 0 < U → h ≤ U * 2 → 999 * (r * r) ≤ 1000 * (h * U) → 64 * r ≤ 91 * U
root-most U h r P l g = go (dec_le (64 * r) (91 * U))
  where
    close : (x : ℕ) → 0 < x → 8272719 * x ≤ 8192000 * x → ⊥
    close x p q = omega arith

    go : Dec (64 * r ≤ 91 * U) → 64 * r ≤ 91 * U
    go (yes a) = a
    go (no a) =
        let b : 91 * U ≤ 64 * r = omega arith in
        let c : 91 * U * (91 * U) ≤ 64 * r * (64 * r) = mul-le-mul b b in
        let d : h * U ≤ U * 2 * U = mul-le-mul_right U l in
        absurd (close (U * U) (mul-pos P P) (omega arith))

-- 1 over a root of at most 91 / 64 is 0.7 at least
over_root : (U r C : ℕ) → 1000 ≤ U → 64 * r ≤ 91 * U → Near (U * U) r C → 7 * U ≤ 10 * C
over_root U r C B l n = go (dec_le (7 * U) (10 * C))
  where
    go : Dec (7 * U ≤ 10 * C) → 7 * U ≤ 10 * C
    go (yes a) = a
    go (no a) =
        let b : 10 * C ≤ 7 * U = omega arith in
        let c : 10 * C * r ≤ 7 * U * r = mul-le-mul_right r b in
        let d : U * (64 * r) ≤ U * (91 * U) = mul-le-mul_left U l in
        let e : 1000 * U ≤ U * U = mul-le-mul_right U B in
        let f : 2046 * (U * U) ≤ 2048 * (C * r) + 1024 * r = n.least in
        absurd (omega arith)

pub unit-large : 1000 ≤ unit
unfolding unit
unit-large = le_trans (lit≤ tt) (pow_mono {i = 10} {j = 1074} (lit≤ tt))

pub record Cosine (x : Float) (C : ℕ) : Type 0 where
  pub is : Is x false C
  pub most : C ≤ unit * 2 ^ 0
  pub least : 7 * unit ≤ 10 * C

pub cosine-least : {t : Float} → Most t (unit * 2 ^ 0) → (C : ℕ) × Cosine (cosine floats t) C
unfolding cosine
cosine-least {t} m =
    let a : Rounds (mul binary64 t t) false (m.size * m.size) unit = subst (λ (b : Bool). Rounds (mul binary64 t t) b (m.size * m.size) unit) (like m.sign) (mul-rounds m.is m.is) in
    let b = rounds-most 0 a unit-pos (lit< tt) (product-most m.size m.size 0 0 m.most m.most) in
    let g = fl (m.size * m.size) unit in
    let c = rounds-most 1 (add_same b.0 one-units) (pow_pos 0) (lit< tt) (two g unit b.1) in
    let h = fl (g + unit) 1 in
    let low : unit ≤ h = le_trans (fl-least (g + unit) 1 0 (pow_pos 0) (lit≤ tt) (plus_one g)) (le_of_eq (mul-one h)) in
    let r = root-units (add-fits binary64 (mul binary64 t t) one) c.0 (le_trans unit-pos low) in
    let w : unit ≤ r.0 = r.2.whole low in
    let P : 0 < r.0 = lt_of_lt_of_le unit-pos w in
    let q = rounds-most 0 (div-rounds one-units r.1 P) P (lit< tt) (over-whole unit r.0 w) in
    (fl (unit * unit) r.0, record { is = q.0; most = q.1; least = over_root unit r.0 (fl (unit * unit) r.0) unit-large (root-most unit h r.0 unit-pos c.1 r.2.most) (fl-near (unit * unit) r.0 P) })
  where
    two : (g U : ℕ) → g ≤ U * 2 ^ 0 → g + U ≤ U * 2 ^ 1 * 1
    two g U h = omega arith

pub sine-most : {t c : Float} {C : ℕ} → Most t (unit * 2 ^ 0) → Cosine c C → Most (sine floats t c) (unit * 2 ^ 0)
unfolding sine
sine-most {C = C} m c = mul_most 0 0 (lit< tt) m (record { sign = false; size = C; is = c.is; most = c.most })
