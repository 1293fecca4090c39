-- The operations commute with scaling, where the result is zero or normal before and after.
use mathlib.Core.Path.{◌≡◌, refl, sym, ap, ◌∙◌, subst}
use Prim.Native.Nat.{ℕ, zero, suc, ◌+◌, ◌-◌, ◌*◌, ◌/◌, ◌%◌, ◌^◌, ◌≤◌, ◌<◌, compare}
use native.Mathlib.Nat.{le_trans, le_of_eq, le_of_lt, lt_of_lt_of_le, lt_of_le_of_lt, mul_assoc, mul_comm, mul_left_comm, mul-one, one-mul, mul-pos, mul-le-mul_right, eq_of_mul-eq-mul_right, zero-lt-suc, lt_irrefl, zero-mul, mul-sub, div-div-eq-div-mul, le-div_iff_mul-le}
use native.Mathlib.Omega.{arith}
use mathlib.Core.Bool.{Bool, true, false, not, ◌&&◌, beq, cond}
use mathlib.Core.Logic.{◌⊎◌, inl, inr}
use lib.IntN.{ℤ, pos, negsuc, neg_ℤ, ◌+ℤ◌, ◌-ℤ◌}
use lib.Dec.{T, ltb, leb, eqb, leb→le}
use lib.Pow.{pow-add, pow_pos, pow_mono}
use lib.Ieee.{Float, nan, inf, fin, Format, binary32, binary64, prec, emax, low, up, down, size, round, units, fits, neg, sum, add, sub, mul, div, unlike}
use lib.Ieee.Exact.{HasValue}
use lib.Ieee.Fits.{up_pos, down_pos, and_l, and_r, round_is, round-fits}
use lib.Ieee.Nearest.{nearest-ge}
use lib.Ieee.Order.{drop, kept}
use lib.Ieee.Scale.{grid, round_same}
use Rattle.arithmetic.specs.Scale.{scale, shift_exp}
use Rattle.arithmetic.proofs.ScaleLaws.{cross, up-add, ltb-same, scale-neg, G, left, right}
use Rattle.arithmetic.proofs.Rounding.{fits-written, pow_le_back, Normal, round-scaled}

-- x is a zero
abbrev pub Zero : Float → Type 0
Zero nan = ⊥
Zero (inf s) = ⊥
Zero (fin s m e) = m ≡ 0

-- x can be scaled by 2 ^ u as a result: it is a zero, or it is normal before and after
abbrev pub Safe : Format → ℤ → Float → Type 0
Safe f u nan = ⊥
Safe f u (inf s) = ⊥
Safe f u (fin s zero e) = Unit
Safe f u (fin s (suc m) e) = Normal f (fin s (suc m) e) × Normal f (scale u (fin s (suc m) e))

round-none : (f : Format) (s : Bool) → round f s 0 1 ≡ fin s 0 (pos 0)
unfolding round
round-none binary32 s = refl
round-none binary64 s = refl

no_more : (c : ℕ) → 0 * 1 ≡ 0 * c
no_more c = omega arith

pub round-zero : (f : Format) (s : Bool) (c : ℕ) → 0 < c → round f s 0 c ≡ fin s 0 (pos 0)
round-zero f s c C = round_same f s 0 c 0 1 C (zero-lt-suc 0) (no_more c) ∙ round-none f s

-- ---- a rounded fraction, scaled
is_zero : (a' a G K : ℕ) → 0 < G → a' * G ≡ a * K → a ≡ 0 → a' ≡ 0
is_zero a' a G K P h z = eq_of_mul-eq-mul_right G P a' 0 (h ∙ ap (λ (i : ℕ). i * K) z ∙ zero-mul K ∙ sym (zero-mul G))

pub round-moves : (f : Format) (s : Bool) (a c a' c' : ℕ) (u : ℤ) → 0 < c → 0 < c' → a' * (c * down u) ≡ a * (up u * c')
    → Safe f u (round f s a c) → (Zero (round f s a c) → a ≡ 0) → round f s a' c' ≡ scale u (round f s a c)
round-moves f s a c a' c' u C C' h = go (round f s a c) refl
  where
    go : (r : Float) → round f s a c ≡ r → Safe f u r → (Zero r → a ≡ 0) → round f s a' c' ≡ scale u (round f s a c)
    go nan e k z = absurd k
    go (inf t) e k z = absurd k
    go (fin t zero d) e k z =
        ap (λ (i : ℕ). round f s i c') (is_zero a' a (c * down u) (up u * c') (mul-pos C (down_pos u)) h (z refl))
        ∙ round-zero f s c' C' ∙ sym (ap (scale u) (ap (λ (i : ℕ). round f s i c) (z refl) ∙ round-zero f s c C))
    go (fin t (suc m) d) e k z =
        round-scaled f s a c a' c' u C C' (h ∙ sym (mul_assoc a (up u) c')) (subst (Normal f) (sym e) k.0) (subst (λ (x : Float). Normal f (scale u x)) (sym e) k.1)

-- ---- products
ruleset Ac = (mul_assoc, mul_comm, mul_left_comm)

-- a' / q' is a / q times i / j, and b' / t' is b / t times k / l, so the products are as i * k / (j * l), which is A / B
mul-cross : (a' a q q' b' b t t' i j k l A B : ℕ) → 0 < j → 0 < l
    → a' * (q * j) ≡ a * i * q' → b' * (t * l) ≡ b * k * t' → A * (j * l) ≡ i * k * B
    → a' * b' * (q * t * B) ≡ a * b * (A * (q' * t'))
mul-cross a' a q q' b' b t t' i j k l A B J' L g h s =
    let o : a' * b' * (q * t * B) * (j * l) ≡ a' * (q * j) * (b' * (t * l)) * B = simp Ac in
    let p : a' * (q * j) * (b' * (t * l)) * B ≡ a * i * q' * (b * k * t') * B = ap (λ (z : ℕ). z * (b' * (t * l)) * B) g ∙ ap (λ (z : ℕ). a * i * q' * z * B) h in
    let r : a * i * q' * (b * k * t') * B ≡ i * k * B * (a * b * q' * t') = simp Ac in
    let w : A * (j * l) * (a * b * q' * t') ≡ a * b * (A * (q' * t')) * (j * l) = simp Ac in
    eq_of_mul-eq-mul_right (j * l) (mul-pos J' L) (a' * b' * (q * t * B)) (a * b * (A * (q' * t'))) (o ∙ p ∙ r ∙ ap (λ (z : ℕ). z * (a * b * q' * t')) (sym s) ∙ w)

scale-pick : (u : ℤ) (b : Bool) (s : Bool) → cond b nan (inf s) ≡ scale u (cond b nan (inf s))
scale-pick u true s = refl
scale-pick u false s = refl

pub mul-scale : (f : Format) (u v : ℤ) (x y : Float) → Safe f (u +ℤ v) (mul f x y) → (Zero (mul f x y) → Zero x ⊎ Zero y) → mul f (scale u x) (scale v y) ≡ scale (u +ℤ v) (mul f x y)
unfolding mul
mul-scale f u v nan y k z = refl
mul-scale f u v (inf s) nan k z = refl
mul-scale f u v (inf s) (inf t) k z = refl
mul-scale f u v (inf s) (fin t n d) k z = scale-pick (u +ℤ v) (eqb n 0) (unlike s t)
mul-scale f u v (fin s m e) nan k z = refl
mul-scale f u v (fin s m e) (inf t) k z = scale-pick (u +ℤ v) (eqb m 0) (unlike s t)
mul-scale f u v (fin s m e) (fin t n d) k z =
    let e' = shift_exp m e u in
    let d' = shift_exp n d v in
    round-moves f (unlike s t) (m * up e * (n * up d)) (down e * down d) (m * up e' * (n * up d')) (down e' * down d') (u +ℤ v)
    (mul-pos (down_pos e) (down_pos d)) (mul-pos (down_pos e') (down_pos d'))
    (mul-cross (m * up e') (m * up e) (down e) (down e') (n * up d') (n * up d) (down d) (down d') (up u) (down u) (up v) (down v) (up (u +ℤ v)) (down (u +ℤ v)) (down_pos u) (down_pos v) (cross u m e) (cross v n d) (up-add u v))
    k (λ q. none (z q))
  where
    none : (m ≡ 0) ⊎ (n ≡ 0) → m * up e * (n * up d) ≡ 0
    none (inl h) = omega (arith, ap (λ (i : ℕ). i * up e * (n * up d)) h)
    none (inr h) = omega (arith, ap (λ (i : ℕ). m * up e * (i * up d)) h)

-- ---- quotients
pub up_neg : (v : ℤ) → up (neg_ℤ v) ≡ down v
up_neg (pos zero) = refl
up_neg (pos (suc n)) = refl
up_neg (negsuc n) = refl

pub down-neg : (v : ℤ) → down (neg_ℤ v) ≡ up v
down-neg (pos zero) = refl
down-neg (pos (suc n)) = refl
down-neg (negsuc n) = refl

up-sub : (u v : ℤ) → up (u -ℤ v) * (down u * up v) ≡ up u * down v * down (u -ℤ v)
up-sub u v = ap (λ (z : ℕ). up (u -ℤ v) * (down u * z)) (sym (down-neg v)) ∙ up-add u (neg_ℤ v) ∙ ap (λ (z : ℕ). up u * z * down (u -ℤ v)) (up_neg v)

div-cross : (a' a q q' b' b t t' i j k l A B : ℕ) → 0 < j → 0 < k
    → a' * (q * j) ≡ a * i * q' → b' * (t * l) ≡ b * k * t' → A * (j * k) ≡ i * l * B
    → a' * t' * (b * q * B) ≡ a * t * (A * (b' * q'))
div-cross a' a q q' b' b t t' i j k l A B J' K g h s =
    let o : a' * t' * (b * q * B) * (j * k) ≡ a' * (q * j) * (b * k * t') * B = simp Ac in
    let p : a' * (q * j) * (b * k * t') * B ≡ a * i * q' * (b' * (t * l)) * B = ap (λ (z : ℕ). z * (b * k * t') * B) g ∙ ap (λ (z : ℕ). a * i * q' * z * B) (sym h) in
    let r : a * i * q' * (b' * (t * l)) * B ≡ i * l * B * (a * b' * q' * t) = simp Ac in
    let w : A * (j * k) * (a * b' * q' * t) ≡ a * t * (A * (b' * q')) * (j * k) = simp Ac in
    eq_of_mul-eq-mul_right (j * k) (mul-pos J' K) (a' * t' * (b * q * B)) (a * t * (A * (b' * q'))) (o ∙ p ∙ r ∙ ap (λ (z : ℕ). z * (a * b' * q' * t)) (sym s) ∙ w)

not-safe : {X : Type 0} (f : Format) (u : ℤ) (b : Bool) (s : Bool) → Safe f u (cond b nan (inf s)) → X
not-safe f u true s k = absurd k
not-safe f u false s k = absurd k

some : (n : ℕ) → T (not (eqb n 0)) → 0 < n
some zero t = absurd t
some (suc n) t = zero-lt-suc n

pub div-scale : (f : Format) (u v : ℤ) (x y : Float) → Safe f (u -ℤ v) (div f x y) → (Zero (div f x y) → Zero x) → div f (scale u x) (scale v y) ≡ scale (u -ℤ v) (div f x y)
unfolding div
div-scale f u v nan y k z = refl
div-scale f u v (inf s) nan k z = refl
div-scale f u v (inf s) (inf t) k z = refl
div-scale f u v (inf s) (fin t n d) k z = refl
div-scale f u v (fin s m e) nan k z = refl
div-scale f u v (fin s m e) (inf t) k z = refl
div-scale f u v (fin s m e) (fin t n d) k z = go (eqb n 0) (some n) k z
  where
    w : ℤ
    w = u -ℤ v

    e' : ℤ
    e' = shift_exp m e u

    d' : ℤ
    d' = shift_exp n d v

    go : (b : Bool) → (T (not b) → 0 < n)
        → Safe f w (cond b (cond (eqb m 0) nan (inf (unlike s t))) (round f (unlike s t) (m * up e * down d) (n * up d * down e)))
        → (Zero (cond b (cond (eqb m 0) nan (inf (unlike s t))) (round f (unlike s t) (m * up e * down d) (n * up d * down e))) → m ≡ 0)
        → cond b (cond (eqb m 0) nan (inf (unlike s t))) (round f (unlike s t) (m * up e' * down d') (n * up d' * down e'))
        ≡ scale w (cond b (cond (eqb m 0) nan (inf (unlike s t))) (round f (unlike s t) (m * up e * down d) (n * up d * down e)))
    go true p k z = not-safe f w (eqb m 0) (unlike s t) k
    go false p k z =
        round-moves f (unlike s t) (m * up e * down d) (n * up d * down e) (m * up e' * down d') (n * up d' * down e') w
        (mul-pos (mul-pos (p tt) (up_pos d)) (down_pos e)) (mul-pos (mul-pos (p tt) (up_pos d')) (down_pos e'))
        (div-cross (m * up e') (m * up e) (down e) (down e') (n * up d') (n * up d) (down d) (down d') (up u) (down u) (up v) (down v) (up w) (down w) (down_pos u) (up_pos v) (cross u m e) (cross v n d) (up-sub u v))
        k (λ q. ap (λ (i : ℕ). i * up e * down d) (z q) ∙ ap (λ (i : ℕ). i * down d) (zero-mul (up e)) ∙ zero-mul (down d))

-- ---- a fraction of one unit at least does not round to zero
pub zero_val : (x : Float) (s : Bool) (a c : ℕ) → HasValue x s a c → Zero x → a ≡ 0
zero_val nan s a c v z = absurd v
zero_val (inf t) s a c v z = absurd v
zero_val (fin t m e) s a c v z = eq_of_mul-eq-mul_right (down e) (down_pos e) a 0 (sym v.1 ∙ ap (λ (i : ℕ). i * up e * c) z ∙ omega arith)

units-zero : (f : Format) (s : Bool) (q k : ℕ) → Zero (units f s q k) → q * 2 ^ k ≡ 0
unfolding units
units-zero f s q k = go (ltb (q * 2 ^ k) (2 ^ (low f + suc (emax f))))
  where
    go : (b : Bool) → Zero (cond b (lib.Ieee.odd (suc (prec f)) s q k (low f)) (inf s)) → q * 2 ^ k ≡ 0
    go true z = zero_val (lib.Ieee.odd (suc (prec f)) s q k (low f)) s (q * 2 ^ k) (2 ^ low f) (lib.Ieee.Exact.odd_sign (suc (prec f)) s q k (low f)) z
    go false z = absurd z

round-to-zero : (f : Format) (s : Bool) (a c : ℕ) → Zero (round f s a c) → grid f a c ≡ 0
round-to-zero f s a c z = units-zero f s (kept (prec f) (a * 2 ^ low f) c) (drop (prec f) (a * 2 ^ low f) c) (subst Zero (round_is f s a c) z)

pub size-pos : (n : ℕ) → 1 ≤ n → 0 < size n
size-pos n h = native.Mathlib.Nat.lt_of_not-le (λ (g : size n ≤ 0). native.Mathlib.Nat.not-le_of_lt (lt_of_lt_of_le (lib.Ieee.Digits.size-lt n) (pow_mono g)) h)

fewer : (z p : ℕ) → 0 < p → 0 < z → z - p < z
fewer z p P Z = omega arith

pub grid-pos : (f : Format) (a c : ℕ) → 0 < c → c ≤ a * 2 ^ low f → 0 < grid f a c
grid-pos f a c C h =
    let p = prec f in
    let n = a * 2 ^ low f in
    let w = n / c in
    let k = drop p n c in
    let u = c * 2 ^ k in
    let W1 : 1 ≤ w = (le-div_iff_mul-le C).1 (le_trans (le_of_eq (one-mul c)) h) in
    let r : 2 ^ k ≤ w = lib.Ieee.Digits.size_reaches w k (fewer (size w) p (lib.Ieee.Fits.two-le_pos p (lib.Ieee.Fits.two f)) (size-pos w W1)) in
    let q : 1 ≤ n / u = subst (λ (z : ℕ). 1 ≤ z) (div-div-eq-div-mul n c (2 ^ k)) ((le-div_iff_mul-le (pow_pos k)).1 (le_trans (le_of_eq (one-mul (2 ^ k))) r)) in
    mul-pos (le_trans q (nearest-ge (n / u) (compare (n % u * 2) u))) (pow_pos k)

-- a whole number of units, rounded to zero, is zero
none-lost : (f : Format) (s : Bool) (a c q : ℕ) → 0 < c → a * 2 ^ low f ≡ q * c → Zero (round f s a c) → a ≡ 0
none-lost f s a c zero C h z = eq_of_mul-eq-mul_right (2 ^ low f) (pow_pos (low f)) a 0 (h ∙ zero-mul c ∙ sym (zero-mul (2 ^ low f)))
none-lost f s a c (suc q) C h z =
    absurd (lt_irrefl 0 (subst (λ (i : ℕ). 0 < i) (round-to-zero f s a c z) (grid-pos f a c C (le_trans (more q c) (le_of_eq (sym h))))))
  where
    more : (q c : ℕ) → c ≤ suc q * c
    more q c = omega arith

-- ---- sums
pub sub-cross : (a b a' b' g w : ℕ) → a' * g ≡ a * w → b' * g ≡ b * w → (a' - b') * g ≡ (a - b) * w
sub-cross a b a' b' g w h k = mul_comm (a' - b') g ∙ mul-sub g a' b' ∙ two (g * a') (g * b') (w * a) (w * b) (mul_comm g a' ∙ h ∙ mul_comm a w) (mul_comm g b' ∙ k ∙ mul_comm b w) ∙ sym (mul_comm (a - b) w ∙ mul-sub w a b)
  where
    two : (x y z v : ℕ) → x ≡ z → y ≡ v → x - y ≡ z - v
    two x y z v h k = omega arith

module _ (f : Format) (u : ℤ) (s t : Bool) (a b c a' b' c' i j : ℕ) (C : 0 < c) (C' : 0 < c')
    (h : a' * (c * down u) ≡ a * (up u * c')) (k : b' * (c * down u) ≡ b * (up u * c')) (p : a * 2 ^ low f ≡ i * c) (q : b * 2 ^ low f ≡ j * c) where
  add-up : (a' + b') * (c * down u) ≡ (a + b) * (up u * c')
  add-up = omega (arith, h, k)

  add-units : (a + b) * 2 ^ low f ≡ (i + j) * c
  add-units = omega (arith, p, q)

  less : ltb a' b' ≡ ltb a b
  less = ltb-same a b a' b' (c * down u) (up u * c') (mul-pos C (down_pos u)) (mul-pos (up_pos u) C') h k

  more : ltb b' a' ≡ ltb b a
  more = ltb-same b a b' a' (c * down u) (up u * c') (mul-pos C (down_pos u)) (mul-pos (up_pos u) C') k h

  go2 : (w : Bool) → Safe f u (cond w (round f t (b - a) c) (round f (s && ltb b a) (a - b) c))
      → cond w (round f t (b' - a') c') (round f (s && ltb b a) (a' - b') c') ≡ scale u (cond w (round f t (b - a) c) (round f (s && ltb b a) (a - b) c))
  go2 true x = round-moves f t (b - a) c (b' - a') c' u C C' (sub-cross b a b' a' (c * down u) (up u * c') k h) x (none-lost f t (b - a) c (j - i) C (sub-cross j i b a (2 ^ low f) c q p))
  go2 false x = round-moves f (s && ltb b a) (a - b) c (a' - b') c' u C C' (sub-cross a b a' b' (c * down u) (up u * c') h k) x (none-lost f (s && ltb b a) (a - b) c (i - j) C (sub-cross i j a b (2 ^ low f) c p q))

  go1 : (w : Bool) → Safe f u (cond w (round f s (a + b) c) (cond (ltb a b) (round f t (b - a) c) (round f (s && ltb b a) (a - b) c)))
      → cond w (round f s (a' + b') c') (cond (ltb a' b') (round f t (b' - a') c') (round f (s && ltb b' a') (a' - b') c'))
      ≡ scale u (cond w (round f s (a + b) c) (cond (ltb a b) (round f t (b - a) c) (round f (s && ltb b a) (a - b) c)))
  go1 true x = round-moves f s (a + b) c (a' + b') c' u C C' add-up x (none-lost f s (a + b) c (i + j) C add-units)
  go1 false x = rw (less, more) (go2 (ltb a b) x)

  sum-moves : Safe f u (sum f s a t b c) → sum f s a' t b' c' ≡ scale u (sum f s a t b c)
  unfolding sum
  sum-moves x = go1 (beq s t) x

-- ---- a value that fits is a whole number of units
grain-at : (l : ℕ) (e : ℤ) → down e ≤ 2 ^ l → (k : ℕ) × (down e * k ≡ 2 ^ l)
grain-at l (pos a) h = (2 ^ l, one-mul (2 ^ l))
grain-at l (negsuc a) h = (2 ^ (l - suc a), sym (pow-add 2 (suc a) (l - suc a)) ∙ ap (λ (z : ℕ). 2 ^ z) (whole l (suc a) (pow_le_back (suc a) l h)))
  where
    whole : (l a : ℕ) → a ≤ l → a + (l - a) ≡ l
    whole l a h = omega arith

pub grain : (f : Format) (s : Bool) (m : ℕ) (e : ℤ) → T (fits f (fin s m e)) → (k : ℕ) × (down e * k ≡ 2 ^ low f)
unfolding fits
grain f s zero e t = grain-at (low f) e (subst (λ (z : ℤ). down z ≤ 2 ^ low f) (sym (fits-written f (fin s zero e) t)) (pow_pos (low f)))
grain f s (suc m) e t =
    let A = eqb (suc m % 2) 1 && ltb (suc m) (2 ^ prec f) in
    let D = ltb (suc m * up e) (2 ^ suc (emax f) * down e) in
    grain-at (low f) e (leb→le (down e) (2 ^ low f) (and_r A (leb (down e) (2 ^ low f)) (and_l (A && leb (down e) (2 ^ low f)) D t)))

pub add-scale : (f : Format) (u : ℤ) (x y : Float) → T (fits f x) → T (fits f y) → Safe f u (add f x y) → add f (scale u x) (scale u y) ≡ scale u (add f x y)
unfolding add
add-scale f u nan y p q k = refl
add-scale f u (inf s) nan p q k = refl
add-scale f u (inf s) (inf t) p q k = go (beq s t)
  where
    go : (b : Bool) → cond b (inf s) nan ≡ scale u (cond b (inf s) nan)
    go true = refl
    go false = refl
add-scale f u (inf s) (fin t n d) p q k = refl
add-scale f u (fin s m e) nan p q k = refl
add-scale f u (fin s m e) (inf t) p q k = refl
add-scale f u (fin s m e) (fin t n d) p q k =
    let e' = shift_exp m e u in
    let d' = shift_exp n d u in
    let g = grain f s m e p in
    let h = grain f t n d q in
    sum-moves f u s t (m * up e * down d) (n * up d * down e) (down e * down d) (m * up e' * down d') (n * up d' * down e') (down e' * down d')
    (m * up e * g.0) (n * up d * h.0) (mul-pos (down_pos e) (down_pos d)) (mul-pos (down_pos e') (down_pos d'))
    (flip (down e) (down u) (down d) (m * up e' * down d') (m * up e * down d * (up u * (down e' * down d'))) (left u m e n d))
    (flip (down e) (down u) (down d) (n * up d' * down e') (n * up d * down e * (up u * (down e' * down d'))) (right u m e n d))
    (one (m * up e) (down e) (down d) g.0 (2 ^ low f) g.1)
    (two (n * up d) (down e) (down d) h.0 (2 ^ low f) h.1)
    k
  where
    flip : (x y z v w : ℕ) → v * (x * y * z) ≡ w → v * (x * z * y) ≡ w
    flip x y z v w h = omega (arith, h)

    one : (X x y k l : ℕ) → x * k ≡ l → X * y * l ≡ X * k * (x * y)
    one X x y k l h = omega (arith, ap (λ (z : ℕ). X * y * z) h)

    two : (X x y k l : ℕ) → y * k ≡ l → X * x * l ≡ X * k * (x * y)
    two X x y k l h = omega (arith, ap (λ (z : ℕ). X * x * z) h)

pub sub-scale : (f : Format) (u : ℤ) (x y : Float) → T (fits f x) → T (fits f y) → Safe f u (sub f x y) → sub f (scale u x) (scale u y) ≡ scale u (sub f x y)
unfolding sub
sub-scale f u x y p q k = ap (add f (scale u x)) (scale-neg u y) ∙ add-scale f u x (neg y) p (lib.Ieee.Fits.neg-fits f y q) k
