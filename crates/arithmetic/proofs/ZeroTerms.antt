-- A term that is a zero changes no running sum: x + ±0 is x, for an x that is no -0; and a sum from +0 never is one. A zero times a finite number is a zero, and
-- every term of a finite sum is finite.
use Prim.Native.Nat.{ℕ, zero, suc, ◌+◌, ◌-◌, ◌*◌, ◌%◌, ◌^◌, ◌<◌, ◌≤◌}
use native.Mathlib.Omega.{arith}
use native.Mathlib.Nat.{le_trans, le_of_eq, mul-one, mul-pos, mul-lt-mul_of_pos_right, zero-mul, zero-lt-suc, lt_irrefl}
use mathlib.Core.Path.{◌≡◌, refl, sym, ap, ◌∙◌, subst}
use mathlib.Core.Bool.{Bool, true, false, ◌&&◌, beq, cond}
use lib.IntN.{ℤ, pos, negsuc}
use lib.Dec.{T, ltb, leb, eqb, ltb→lt, lt→ltb, leb→le}
use lib.Pow.{pow-add, pow_pos}
use lib.Ieee.{Float, nan, inf, fin, Format, prec, emax, low, up, down, unlike, round, units, odd, fits, sum, add, mul}
use lib.Ieee.Exact.{HasValue, round_exact, odd_sign}
use lib.Ieee.Fits.{up_pos, down_pos, and_l, and_r, round_is, round-fits}
use lib.Ieee.Order.{drop, kept}
use lib.Ieee.Scale.{round_same}
use Rattle.arithmetic.specs.Numbers.{is_finite}
use Rattle.arithmetic.proofs.Rounding.{fits-written, pow_le_back, unique}
use Rattle.arithmetic.proofs.Operations.{Zero, round-zero, grain, zero_val, grid-pos, sub-cross}

-- ---- a number of the format rounds to itself
abbrev Own : Format → Bool → ℕ → ℤ → Type 0
Own f s m e = HasValue (round f s (m * up e) (down e)) s (m * up e) (down e)

own-up : (f : Format) (s : Bool) (m k : ℕ) → m < 2 ^ prec f → m * 2 ^ k < 2 ^ suc (emax f) * 1 → Own f s m (pos k)
own-up f s m k h l =
    round_exact f s (m * 2 ^ k) 1 m (k + low f) (zero-lt-suc 0) h
    (subst (λ (z : ℕ). z < 2 ^ (low f + suc (emax f))) (both m (2 ^ k) (2 ^ low f) (2 ^ (k + low f)) (pow-add 2 k (low f)))
    (subst (λ (z : ℕ). m * 2 ^ k * 2 ^ low f < z) (over (2 ^ suc (emax f)) (2 ^ low f) (2 ^ (low f + suc (emax f))) (pow-add 2 (low f) (suc (emax f))))
    (mul-lt-mul_of_pos_right l (pow_pos (low f)))))
    (both m (2 ^ k) (2 ^ low f) (2 ^ (k + low f)) (pow-add 2 k (low f)) ∙ sym (mul-one (m * 2 ^ (k + low f))))
  where
    both : (m a b z : ℕ) → z ≡ a * b → m * a * b ≡ m * z
    both m a b z h = omega (arith, ap (λ (x : ℕ). m * x) h)

    over : (a b z : ℕ) → z ≡ b * a → a * 1 * b ≡ z
    over a b z h = omega arith

own-down : (f : Format) (s : Bool) (m k : ℕ) → m < 2 ^ prec f → 2 ^ suc k ≤ 2 ^ low f → m * 1 < 2 ^ suc (emax f) * 2 ^ suc k → Own f s m (negsuc k)
own-down f s m k h d l =
    let j = low f - suc k in
    let w : 2 ^ low f ≡ 2 ^ suc k * 2 ^ j = sym (ap (λ (z : ℕ). 2 ^ z) (whole (low f) (suc k) (pow_le_back (suc k) (low f) d))) ∙ pow-add 2 (suc k) j in
    round_exact f s (m * 1) (2 ^ suc k) m j (pow_pos (suc k)) h
    (subst (λ (z : ℕ). z < 2 ^ (low f + suc (emax f))) (ap (λ (z : ℕ). z * 2 ^ j) (mul-one m))
    (subst (λ (z : ℕ). m * 1 * 2 ^ j < z) (over (2 ^ suc (emax f)) (2 ^ suc k) (2 ^ j) (2 ^ low f) (2 ^ (low f + suc (emax f))) w (pow-add 2 (low f) (suc (emax f))))
    (mul-lt-mul_of_pos_right l (pow_pos j))))
    (both m (2 ^ suc k) (2 ^ j) (2 ^ low f) w)
  where
    whole : (l a : ℕ) → a ≤ l → a + (l - a) ≡ l
    whole l a h = omega arith

    over : (a b x y z : ℕ) → y ≡ b * x → z ≡ y * a → a * b * x ≡ z
    over a b x y z h k = omega (arith, ap (λ (u : ℕ). u * a) h)

    both : (m b x y : ℕ) → y ≡ b * x → m * 1 * y ≡ m * x * b
    both m b x y h = omega (arith, ap (λ (u : ℕ). m * u) h)

own_value : (f : Format) (s : Bool) (m : ℕ) (e : ℤ) → m < 2 ^ prec f → down e ≤ 2 ^ low f → m * up e < 2 ^ suc (emax f) * down e → Own f s m e
own_value f s m (pos k) h d l = own-up f s m k h l
own_value f s m (negsuc k) h d l = own-down f s m k h d l

pub round-own : (f : Format) (s : Bool) (m : ℕ) (e : ℤ) → T (fits f (fin s m e)) → round f s (m * up e) (down e) ≡ fin s m e
unfolding fits
round-own f s zero e t =
    ap (λ (z : ℕ). round f s z (down e)) (zero-mul (up e)) ∙ round-zero f s (down e) (down_pos e) ∙ ap (fin s zero) (sym (fits-written f (fin s zero e) t))
round-own f s (suc m) e t =
    let O = eqb (suc m % 2) 1 in
    let A = ltb (suc m) (2 ^ prec f) in
    let B = leb (down e) (2 ^ low f) in
    let D = ltb (suc m * up e) (2 ^ suc (emax f) * down e) in
    let b : T (O && A && B) = and_l (O && A && B) D t in
    unique (round f s (suc m * up e) (down e)) (fin s (suc m) e) s (suc m * up e) (down e) (down_pos e)
    (fits-written f (round f s (suc m * up e) (down e)) (round-fits f s (suc m * up e) (down e))) (fits-written f (fin s (suc m) e) t)
    (own_value f s (suc m) e (ltb→lt (suc m) (2 ^ prec f) (and_r O A (and_l (O && A) B b))) (leb→le (down e) (2 ^ low f) (and_r (O && A) B b))
    (ltb→lt (suc m * up e) (2 ^ suc (emax f) * down e) (and_r (O && A && B) D t))) (refl, refl)

-- ---- x is -0
abbrev pub MinusZero : Float → Type 0
MinusZero nan = ⊥
MinusZero (inf s) = ⊥
MinusZero (fin false m e) = ⊥
MinusZero (fin true m e) = m ≡ 0

-- a number of the format that is no -0
pub record Plain (f : Format) (x : Float) : Type 0 where
  pub held : T (fits f x)
  pub signed : MinusZero x → ⊥

-- a negative number that is no -0 is no zero
sign : (s : Bool) (m : ℕ) (e d : ℤ) → (MinusZero (fin s m e) → ⊥) → T s → 0 < m * up e * down d
sign false m e d h t = absurd t
sign true zero e d h t = absurd (h refl)
sign true (suc m) e d h t = mul-pos (mul-pos (zero-lt-suc m) (up_pos e)) (down_pos d)

-- ---- x + ±0 is x
-- the sign that a sum with a zero has, from the number's own
some-sum : (f : Format) (s t : Bool) (a b c : ℕ) → b ≡ 0 → (T s → 0 < a) → sum f s a t b c ≡ round f s a c
unfolding sum
some-sum f s t a b c z h = rw z (go s t h)
  where
    plus : a + 0 ≡ a
    plus = omega arith

    drop-none : a - 0 ≡ a
    drop-none = omega arith

    least : (w : Bool) → ltb a 0 ≡ w → (r q : Float) → cond w r q ≡ q
    least false e r q = refl
    least true e r q = absurd (none a (ltb→lt a 0 (subst T (sym e) tt)))
      where
        none : (a : ℕ) → a < 0 → ⊥
        none a h = omega arith

    is_true : (w : Bool) → T w → w ≡ true
    is_true true h = refl
    is_true false h = absurd h

    go : (s t : Bool) → (T s → 0 < a) → cond (beq s t) (round f s (a + 0) c) (cond (ltb a 0) (round f t (0 - a) c) (round f (s && ltb 0 a) (a - 0) c)) ≡ round f s a c
    go true true h = rw plus
    go false false h = rw plus
    go false true h = least (ltb a 0) refl (round f true (0 - a) c) (round f false (a - 0) c) ∙ ap (λ (z : ℕ). round f false z c) drop-none
    go true false h =
        least (ltb a 0) refl (round f false (0 - a) c) (round f (ltb 0 a) (a - 0) c)
        ∙ ap (λ (z : ℕ). round f (ltb 0 a) z c) drop-none
        ∙ ap (λ (w : Bool). round f w a c) (is_true (ltb 0 a) (lt→ltb 0 a (h tt)))

pub add-zero : (f : Format) (x y : Float) → Plain f x → Zero y → add f x y ≡ x
unfolding add
add-zero f nan y p z = refl
add-zero f (inf s) nan p z = absurd z
add-zero f (inf s) (inf t) p z = absurd z
add-zero f (inf s) (fin t n d) p z = refl
add-zero f (fin s m e) nan p z = absurd z
add-zero f (fin s m e) (inf t) p z = absurd z
add-zero f (fin s m e) (fin t n d) p z =
    some-sum f s t (m * up e * down d) (n * up d * down e) (down e * down d) (ap (λ (k : ℕ). k * up d * down e) z ∙ none (up d) (down e)) (sign s m e d p.signed)
    ∙ round_same f s (m * up e * down d) (down e * down d) (m * up e) (down e) (mul-pos (down_pos e) (down_pos d)) (down_pos e)
    (turned (m * up e) (down e) (down d)) ∙ round-own f s m e p.held
  where
    none : (u v : ℕ) → 0 * u * v ≡ 0
    none u v = omega arith

    turned : (x u v : ℕ) → x * v * u ≡ x * (u * v)
    turned x u v = omega arith

-- ---- a sum of whole units is no -0
units-signed : (f : Format) (s : Bool) (q k : ℕ) → (T s → 0 < q * 2 ^ k) → MinusZero (units f s q k) → ⊥
unfolding units
units-signed f s q k h = go (ltb (q * 2 ^ k) (2 ^ (low f + suc (emax f))))
  where
    minus : (x : Float) (a c : ℕ) → HasValue x s a c → (T s → 0 < a) → MinusZero x → ⊥
    minus nan a c v p z = v
    minus (inf t) a c v p z = v
    minus (fin false m e) a c v p z = z
    minus (fin true m e) a c v p z = lt_irrefl 0 (subst (λ (i : ℕ). 0 < i) (zero_val (fin true m e) s a c v z) (p (subst T v.0 tt)))

    go : (b : Bool) → MinusZero (cond b (odd (suc (prec f)) s q k (low f)) (inf s)) → ⊥
    go true z = minus (odd (suc (prec f)) s q k (low f)) (q * 2 ^ k) (2 ^ low f) (odd_sign (suc (prec f)) s q k (low f)) h z
    go false z = z

round-signed : (f : Format) (s : Bool) (a c q : ℕ) → 0 < c → a * 2 ^ low f ≡ q * c → (T s → 0 < a) → MinusZero (round f s a c) → ⊥
round-signed f s a c q C h p z =
    units-signed f s (kept (prec f) (a * 2 ^ low f) c) (drop (prec f) (a * 2 ^ low f) c) (λ t. grid-pos f a c C (whole q (p t) h)) (subst MinusZero (round_is f s a c) z)
  where
    whole : (q : ℕ) → 0 < a → a * 2 ^ low f ≡ q * c → c ≤ a * 2 ^ low f
    whole zero A e = absurd (lt_irrefl 0 (subst (λ (i : ℕ). 0 < i) (e ∙ zero-mul c) (mul-pos A (pow_pos (low f)))))
    whole (suc q) A e = le_trans (more q c) (le_of_eq (sym e))
      where
        more : (q c : ℕ) → c ≤ suc q * c
        more q c = omega arith

sum-signed : (f : Format) (s t : Bool) (a b c i j : ℕ) → 0 < c → a * 2 ^ low f ≡ i * c → b * 2 ^ low f ≡ j * c → (T s → 0 < a) → MinusZero (sum f s a t b c) → ⊥
unfolding sum
sum-signed f s t a b c i j C h k p = go s t p
  where
    units-sum : (a + b) * 2 ^ low f ≡ (i + j) * c
    units-sum = omega (arith, h, k)

    rest : (s : Bool) (w : Bool) → (T w → b < a) → MinusZero (round f (s && w) (a - b) c) → ⊥
    rest s w l z = round-signed f (s && w) (a - b) c (i - j) C (sub-cross i j a b (2 ^ low f) c h k) (λ t. above (l (and_r s w t))) z
      where
        above : b < a → 0 < a - b
        above h = omega arith

    other : (t : Bool) (w : Bool) → (T w → a < b) → (s : Bool) → MinusZero (cond w (round f t (b - a) c) (round f (s && ltb b a) (a - b) c)) → ⊥
    other t true l s z = round-signed f t (b - a) c (j - i) C (sub-cross j i b a (2 ^ low f) c k h) (λ x. above (l tt)) z
      where
        above : a < b → 0 < b - a
        above h = omega arith
    other t false l s z = rest s (ltb b a) (ltb→lt b a) z

    go : (s t : Bool) → (T s → 0 < a) → MinusZero (cond (beq s t) (round f s (a + b) c) (cond (ltb a b) (round f t (b - a) c) (round f (s && ltb b a) (a - b) c))) → ⊥
    go true true p z = round-signed f true (a + b) c (i + j) C units-sum (λ x. more (p tt)) z
      where
        more : 0 < a → 0 < a + b
        more h = omega arith
    go false false p z = round-signed f false (a + b) c (i + j) C units-sum (λ x. absurd x) z
    go true false p z = other false (ltb a b) (ltb→lt a b) true z
    go false true p z = other true (ltb a b) (ltb→lt a b) false z

pub add-plain : (f : Format) (x y : Float) → Plain f x → T (fits f y) → Plain f (add f x y)
unfolding add
add-plain f x y p q = record { held = lib.Ieee.Fits.add-fits f x y; signed = go x y p q }
  where
    one : (X x y k l : ℕ) → x * k ≡ l → X * y * l ≡ X * k * (x * y)
    one X x y k l h = omega (arith, ap (λ (z : ℕ). X * y * z) h)

    other : (X x y k l : ℕ) → y * k ≡ l → X * x * l ≡ X * k * (x * y)
    other X x y k l h = omega (arith, ap (λ (z : ℕ). X * x * z) h)

    infinite : (s t : Bool) → MinusZero (cond (beq s t) (inf s) nan) → ⊥
    infinite true true z = z
    infinite true false z = z
    infinite false true z = z
    infinite false false z = z

    go : (x y : Float) → Plain f x → T (fits f y) → MinusZero (add f x y) → ⊥
    go nan y p q z = z
    go (inf s) nan p q z = z
    go (inf s) (inf t) p q z = infinite s t z
    go (inf s) (fin t n d) p q z = z
    go (fin s m e) nan p q z = z
    go (fin s m e) (inf t) p q z = z
    go (fin s m e) (fin t n d) p q z =
        let g = grain f s m e p.held in
        let h = grain f t n d q in
        sum-signed f s t (m * up e * down d) (n * up d * down e) (down e * down d) (m * up e * g.0) (n * up d * h.0) (mul-pos (down_pos e) (down_pos d))
        (one (m * up e) (down e) (down d) g.0 (2 ^ low f) g.1) (other (n * up d) (down e) (down d) h.0 (2 ^ low f) h.1) (sign s m e d p.signed) z

-- ---- a zero times a finite number
pub zero-times : (f : Format) (x y : Float) → Zero x → T (is_finite y) → Zero (mul f x y)
unfolding mul is_finite
zero-times f nan y z h = absurd z
zero-times f (inf s) y z h = absurd z
zero-times f (fin s m e) nan z h = absurd h
zero-times f (fin s m e) (inf t) z h = absurd h
zero-times f (fin s m e) (fin t n d) z h =
    subst Zero
    (sym (ap (λ (k : ℕ). round f (unlike s t) k (down e * down d)) (none m (up e) (n * up d) z)
    ∙ round-zero f (unlike s t) (down e * down d) (mul-pos (down_pos e) (down_pos d)))) refl
  where
    none : (m u x : ℕ) → m ≡ 0 → m * u * x ≡ 0
    none m u x h = rw h (omega arith)

-- ---- the terms of a finite sum
pub add-finite : (f : Format) (x y : Float) → T (is_finite (add f x y)) → T (is_finite x) × T (is_finite y)
unfolding add is_finite
add-finite f nan y h = absurd h
add-finite f (inf s) nan h = absurd h
add-finite f (inf s) (inf t) h = absurd (none s t h)
  where
    none : (s t : Bool) → T (is_finite (cond (beq s t) (inf s) nan)) → ⊥
    none true true h = h
    none true false h = h
    none false true h = h
    none false false h = h
add-finite f (inf s) (fin t n d) h = absurd h
add-finite f (fin s m e) nan h = absurd h
add-finite f (fin s m e) (inf t) h = absurd h
add-finite f (fin s m e) (fin t n d) h = (tt, tt)
