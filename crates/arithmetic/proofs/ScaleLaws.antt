-- Laws of `scale` that need no rounding: scale 0, scale of scale, negation, and comparisons, which do not see a common scale.
use mathlib.Core.Path.{◌≡◌, refl, sym, ap, ◌∙◌}
use Prim.Native.Nat.{ℕ, zero, suc, ◌+◌, ◌-◌, ◌*◌, ◌^◌, ◌≤◌, ◌<◌}
use native.Mathlib.Nat.{mul_comm, mul-one, one-mul, mul-pos, mul-lt-mul_of_pos_right, eq_of_mul-eq-mul_right, lt_of_mul-lt-mul_right}
use native.Mathlib.Omega.{arith}
use mathlib.Core.Bool.{Bool, true, false, not, ◌&&◌, ◌||◌, beq, cond}
use lib.IntN.{ℤ, pos, negsuc, ◌+ℤ◌, sub_ℕ, +ℤ_idr, +ℤ_assoc}
use lib.Dec.{T, ltb, eqb, ltb→lt, lt→ltb, nltb→le, eqb→eq}
use lib.Pow.{pow-add}
use lib.Ieee.{Float, nan, inf, fin, up, down, neg, lt, eq, le, ne, below, level}
use lib.Ieee.Exact.{HasValue}
use lib.Ieee.Fits.{up_pos, down_pos, eq→eqb}
use Rattle.arithmetic.specs.Scale.{shift_exp, scale}

pub scale-zero : (x : Float) → scale (pos 0) x ≡ x
scale-zero nan = refl
scale-zero (inf s) = refl
scale-zero (fin s zero e) = refl
scale-zero (fin s (suc m) e) = ap (fin s (suc m)) (+ℤ_idr e)

pub scale-scale : (u v : ℤ) (x : Float) → scale u (scale v x) ≡ scale (v +ℤ u) x
scale-scale u v nan = refl
scale-scale u v (inf s) = refl
scale-scale u v (fin s zero e) = refl
scale-scale u v (fin s (suc m) e) = ap (fin s (suc m)) (+ℤ_assoc e v u)

pub scale-neg : (u : ℤ) (x : Float) → neg (scale u x) ≡ scale u (neg x)
unfolding neg
scale-neg u nan = refl
scale-neg u (inf s) = refl
scale-neg u (fin s m e) = refl

-- ---- 2 ^ (a + b), as a fraction
join : (m n : ℕ) → n ≤ m → m - n + n ≡ m
join m n h = omega arith

join' : (m n : ℕ) → m < n → suc (n - suc m) + m ≡ n
join' m n h = omega arith

pub sub_val : (m n : ℕ) → up (sub_ℕ m n) * 2 ^ n ≡ 2 ^ m * down (sub_ℕ m n)
sub_val m n = go (ltb m n) (ltb→lt m n) (nltb→le m n)
  where
    go : (b : Bool) → (T b → m < n) → (T (not b) → n ≤ m) → up (cond b (negsuc (n - suc m)) (pos (m - n))) * 2 ^ n ≡ 2 ^ m * down (cond b (negsuc (n - suc m)) (pos (m - n)))
    go true l g = one-mul (2 ^ n) ∙ ap (λ (k : ℕ). 2 ^ k) (sym (join' m n (l tt))) ∙ pow-add 2 (suc (n - suc m)) m ∙ mul_comm (2 ^ suc (n - suc m)) (2 ^ m)
    go false l g = sym (pow-add 2 (m - n) n) ∙ ap (λ (k : ℕ). 2 ^ k) (join m n (g tt)) ∙ sym (mul-one (2 ^ m))

pub up-add : (a b : ℤ) → up (a +ℤ b) * (down a * down b) ≡ up a * up b * down (a +ℤ b)
up-add (pos a) (pos b) = omega (arith, pow-add 2 a b)
up-add (pos a) (negsuc b) = omega (arith, sub_val a (suc b))
up-add (negsuc a) (pos b) = omega (arith, sub_val b (suc a))
up-add (negsuc a) (negsuc b) = omega (arith, pow-add 2 (suc a) (suc b), ap (λ (k : ℕ). 2 ^ k) (shuffle a b))
  where
    shuffle : (a b : ℕ) → suc a + suc b ≡ suc (suc (a + b))
    shuffle a b = omega arith

-- ---- what a scale does to m * 2 ^ e as a fraction
pub cross : (u : ℤ) (m : ℕ) (e : ℤ) → m * up (shift_exp m e u) * (down e * down u) ≡ m * up e * up u * down (shift_exp m e u)
cross u zero e = omega arith
cross u (suc m) e = omega (arith, ap (λ (z : ℕ). suc m * z) (up-add e u))

-- x of the value a / c, scaled, has the value a * 2 ^ u / c
pub scale-val : (u : ℤ) (x : Float) (s : Bool) (a c : ℕ) → HasValue x s a c → HasValue (scale u x) s (a * up u) (c * down u)
scale-val u nan s a c v = v
scale-val u (inf t) s a c v = v
scale-val u (fin t m e) s a c v = (v.0, eq_of_mul-eq-mul_right (down e) (down_pos e) _ _ (step m (up (shift_exp m e u)) (down (shift_exp m e u)) (up e) (down e) (up u) (down u) (cross u m e) v.1))
  where
    step : (m U D p q r w : ℕ) → m * U * (q * w) ≡ m * p * r * D → m * p * c ≡ a * q → m * U * (c * w) * q ≡ a * r * D * q
    step m U D p q r w h k = omega (arith, ap (λ (z : ℕ). z * c) h, ap (λ (z : ℕ). z * (r * D)) k)

-- ---- comparisons
same_test : (a b : Bool) → (T a → T b) → (T b → T a) → a ≡ b
same_test true true p q = refl
same_test true false p q = absurd (p tt)
same_test false true p q = absurd (q tt)
same_test false false p q = refl

-- A / B is A' / B': the two pairs have one order
module _ (A B A' B' G W : ℕ) (P : 0 < G) (Q : 0 < W) (h : A' * G ≡ A * W) (k : B' * G ≡ B * W) where
  less : A < B → A' < B'
  less l = lt_of_mul-lt-mul_right G (omega (arith, mul-lt-mul_of_pos_right l Q, h, k))

  less' : A' < B' → A < B
  less' l = lt_of_mul-lt-mul_right W (omega (arith, mul-lt-mul_of_pos_right l P, h, k))

  even : A ≡ B → A' ≡ B'
  even l = eq_of_mul-eq-mul_right G P A' B' (omega (arith, ap (λ (z : ℕ). z * W) l, h, k))

  even' : A' ≡ B' → A ≡ B
  even' l = eq_of_mul-eq-mul_right W Q A B (omega (arith, ap (λ (z : ℕ). z * G) l, h, k))

  pub ltb-same : ltb A' B' ≡ ltb A B
  ltb-same = same_test (ltb A' B') (ltb A B) (λ t. lt→ltb A B (less' (ltb→lt A' B' t))) (λ t. lt→ltb A' B' (less (ltb→lt A B t)))

  eqb_same : eqb A' B' ≡ eqb A B
  eqb_same = same_test (eqb A' B') (eqb A B) (λ t. eq→eqb (even' (eqb→eq A' B' t))) (λ t. eq→eqb (even (eqb→eq A B t)))

nothing : (G W : ℕ) → 0 * G ≡ 0 * W
nothing G W = omega arith

module _ (A B A' B' G W : ℕ) (P : 0 < G) (Q : 0 < W) (h : A' * G ≡ A * W) (k : B' * G ≡ B * W) where
  sum : (A' + B') * G ≡ (A + B) * W
  sum = omega (arith, h, k)

  below-same : (s t : Bool) → below s A' t B' ≡ below s A t B
  below-same false false = ltb-same A B A' B' G W P Q h k
  below-same false true = refl
  below-same true false = ltb-same 0 (A + B) 0 (A' + B') G W P Q (nothing G W) sum
  below-same true true = ltb-same B A B' A' G W P Q k h

  level-same : (s t : Bool) → level s A' t B' ≡ level s A t B
  level-same s t =
      ap (λ (b : Bool). b && (beq s t || eqb A' 0)) (eqb_same A B A' B' G W P Q h k)
      ∙ ap (λ (b : Bool). eqb A B && (beq s t || b)) (eqb_same A 0 A' 0 G W P Q h (nothing G W))

-- the two sides of a comparison, both scaled
module _ (u : ℤ) (m : ℕ) (e : ℤ) (n : ℕ) (d : ℤ) where
  abbrev pub e' : ℤ
  e' = shift_exp m e u

  abbrev pub d' : ℤ
  d' = shift_exp n d u

  abbrev pub G : ℕ
  G = down e * down u * down d

  abbrev pub W : ℕ
  W = up u * (down e' * down d')

  pub G-pos : 0 < G
  G-pos = mul-pos (mul-pos (down_pos e) (down_pos u)) (down_pos d)

  pub W-pos : 0 < W
  W-pos = mul-pos (up_pos u) (mul-pos (down_pos e') (down_pos d'))

  pub left : m * up e' * down d' * G ≡ m * up e * down d * W
  left = omega (arith, ap (λ (z : ℕ). z * (down d * down d')) (cross u m e))

  pub right : n * up d' * down e' * G ≡ n * up d * down e * W
  right = omega (arith, ap (λ (z : ℕ). z * (down e * down e')) (cross u n d))

pub lt-scale : (u : ℤ) (x y : Float) → lt (scale u x) (scale u y) ≡ lt x y
unfolding lt
lt-scale u nan y = refl
lt-scale u (inf s) nan = refl
lt-scale u (inf s) (inf t) = refl
lt-scale u (inf s) (fin t n d) = refl
lt-scale u (fin s m e) nan = refl
lt-scale u (fin s m e) (inf t) = refl
lt-scale u (fin s m e) (fin t n d) = below-same _ _ _ _ (G u m e n d) (W u m e n d) (G-pos u m e n d) (W-pos u m e n d) (left u m e n d) (right u m e n d) s t

pub eq-scale : (u : ℤ) (x y : Float) → eq (scale u x) (scale u y) ≡ eq x y
unfolding eq
eq-scale u nan y = refl
eq-scale u (inf s) nan = refl
eq-scale u (inf s) (inf t) = refl
eq-scale u (inf s) (fin t n d) = refl
eq-scale u (fin s m e) nan = refl
eq-scale u (fin s m e) (inf t) = refl
eq-scale u (fin s m e) (fin t n d) = level-same _ _ _ _ (G u m e n d) (W u m e n d) (G-pos u m e n d) (W-pos u m e n d) (left u m e n d) (right u m e n d) s t

pub le-scale : (u : ℤ) (x y : Float) → le (scale u x) (scale u y) ≡ le x y
unfolding le
le-scale u x y = ap (λ (b : Bool). b || eq (scale u x) (scale u y)) (lt-scale u x y) ∙ ap (λ (b : Bool). lt x y || b) (eq-scale u x y)

pub ne-scale : (u : ℤ) (x y : Float) → ne (scale u x) (scale u y) ≡ ne x y
unfolding ne
ne-scale u x y = ap not (eq-scale u x y)
