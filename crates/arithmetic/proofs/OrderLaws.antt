-- The order of f64, for all numbers, NaNs and infinities included: what is below a number is below each larger or equal one, and no number is below itself.
use Prim.Native.Nat.{ℕ, ◌+◌, ◌*◌, ◌≤◌, ◌<◌}
use mathlib.Core.Path.{◌≡◌, refl}
use mathlib.Core.Bool.{Bool, true, false, ◌||◌, beq, cond, false≢true}
use native.Mathlib.Nat.{le_refl, le_of_lt, mul-le-mul_right, mul-lt-mul_of_pos_right, lt_of_mul-lt-mul_right}
use native.Mathlib.Omega.{arith}
use lib.Dec.{T, eqb, eqb→eq}
use lib.Ieee.{Float, nan, inf, fin, up, down, below, level, lt, eq}
use lib.Ieee.Fits.{down_pos, and_l, and_r}
use borrow.Author.Tests.{ltb-true, lt-ltb, le-ltb}
use Rattle.arithmetic.proofs.PlainLaws.{of_eq}

-- ---- fractions of any sign: (p - n) / E is below (q - m) / F, with E and F above 0, where p * F + m * E is below q * E + n * F
-- from x ≤ y and y < z, x < z: the one times z's divisor, the other times x's, added, and y's divided out
go_on : (p n E q m F r k G : ℕ) → 0 < E → p * F + m * E ≤ q * E + n * F → q * G + k * F < r * F + m * G → p * G + k * E < r * E + n * G
go_on p n E q m F r k G P a b = lt_of_mul-lt-mul_right F (omega (arith, mul-le-mul_right G a, mul-lt-mul_of_pos_right b P))

-- a sign and a magnitude as a difference: what is added, and what is taken away
abbrev plus_part : Bool → ℕ → ℕ
plus_part s a = cond s 0 a

abbrev minus_part : Bool → ℕ → ℕ
minus_part s a = cond s a 0

-- ±A / E is below ±B / F
abbrev Less : Bool → ℕ → ℕ → Bool → ℕ → ℕ → Type 0
Less s A E t B F = plus_part s A * F + minus_part t B * E < plus_part t B * E + minus_part s A * F

less-of : (s : Bool) (A E : ℕ) (t : Bool) (B F : ℕ) → below s (A * F) t (B * E) ≡ true → Less s A E t B F
less-of false A E false B F h = omega (arith, ltb-true)
less-of false A E true B F h = absurd (false≢true h)
less-of true A E false B F h = omega (arith, ltb-true)
less-of true A E true B F h = omega (arith, ltb-true)

of-less : (s : Bool) (A E : ℕ) (t : Bool) (B F : ℕ) → Less s A E t B F → below s (A * F) t (B * E) ≡ true
of-less false A E false B F h = lt-ltb (A * F) (B * E) (omega arith)
of-less false A E true B F h = absurd (omega arith)
of-less true A E false B F h = lt-ltb 0 (A * F + B * E) (omega arith)
of-less true A E true B F h = lt-ltb (B * E) (A * F) (omega arith)

-- equal numbers differ in sign only where they are zeros
same_of : (s : Bool) (A E : ℕ) (t : Bool) (B F : ℕ) → level s (A * F) t (B * E) ≡ true → plus_part s A * F + minus_part t B * E ≡ plus_part t B * E + minus_part s A * F
same_of s A E t B F h =
    let a = A * F in
    let b = B * E in
    go s t (eqb→eq a b (and_l (eqb a b) (beq s t || eqb a 0) (of_eq h))) (and_r (eqb a b) (beq s t || eqb a 0) (of_eq h))
  where
    go : (s t : Bool) → A * F ≡ B * E → T (beq s t || eqb (A * F) 0) → plus_part s A * F + minus_part t B * E ≡ plus_part t B * E + minus_part s A * F
    go false false e z = omega arith
    go false true e z = omega (arith, eqb→eq (A * F) 0 z)
    go true false e z = omega (arith, eqb→eq (A * F) 0 z)
    go true true e z = omega arith

module _ (s : Bool) (A E : ℕ) (t : Bool) (B F : ℕ) (r : Bool) (C G : ℕ) where
  below-trans : 0 < E → below s (A * F) t (B * E) ≡ true → below t (B * G) r (C * F) ≡ true → below s (A * G) r (C * E) ≡ true
  below-trans P a b =
      of-less s A E r C G
      (go_on (plus_part s A) (minus_part s A) E (plus_part t B) (minus_part t B) F (plus_part r C) (minus_part r C) G P (le_of_lt (less-of s A E t B F a)) (less-of t B F r C G b))

  -- the same of the negated numbers: what is added and what is taken away change places, and so do the first number and the last
  below-level : 0 < G → below s (A * F) t (B * E) ≡ true → level r (C * F) t (B * G) ≡ true → below s (A * G) r (C * E) ≡ true
  below-level P a b =
      let l = less-of s A E t B F a in
      let e = same_of r C G t B F b in
      let o = go_on (minus_part r C) (plus_part r C) G (minus_part t B) (plus_part t B) F (minus_part s A) (plus_part s A) E P (omega arith) (omega arith) in
      of-less s A E r C G (omega arith)

-- ---- the order itself. Nothing is below -inf or above +inf
none_below : (x : Float) → lt x (inf true) ≡ true → ⊥
unfolding lt
none_below nan h = false≢true h
none_below (inf true) h = false≢true h
none_below (inf false) h = false≢true h
none_below (fin s m e) h = false≢true h

none_above : (x : Float) → lt (inf false) x ≡ true → ⊥
unfolding lt
none_above nan h = false≢true h
none_above (inf s) h = false≢true h
none_above (fin s m e) h = false≢true h

pub lt_trans : (x y z : Float) → lt x y ≡ true → lt y z ≡ true → lt x z ≡ true
unfolding lt
lt_trans nan y z a b = absurd (false≢true a)
lt_trans (inf s) nan z a b = absurd (false≢true b)
lt_trans (inf s) (inf true) z a b = absurd (none_below (inf s) a)
lt_trans (inf s) (inf false) z a b = absurd (none_above z b)
lt_trans (inf s) (fin t n d) nan a b = b
lt_trans (inf s) (fin t n d) (inf r) a b = rw (a, b)
lt_trans (inf s) (fin t n d) (fin r k c) a b = a
lt_trans (fin s m e) nan z a b = absurd (false≢true b)
lt_trans (fin s m e) (inf true) z a b = absurd (none_below (fin s m e) a)
lt_trans (fin s m e) (inf false) z a b = absurd (none_above z b)
lt_trans (fin s m e) (fin t n d) nan a b = b
lt_trans (fin s m e) (fin t n d) (inf r) a b = b
lt_trans (fin s m e) (fin t n d) (fin r k c) a b = below-trans s (m * up e) (down e) t (n * up d) (down d) r (k * up c) (down c) (down_pos e) a b

-- what is below x is below each y that equals x
pub lt-level : (w x y : Float) → lt w x ≡ true → eq y x ≡ true → lt w y ≡ true
unfolding lt eq
lt-level w x nan a b = absurd (false≢true b)
lt-level w nan (inf r) a b = absurd (false≢true b)
lt-level w (inf true) (inf true) a b = a
lt-level w (inf true) (inf false) a b = absurd (false≢true b)
lt-level w (inf false) (inf true) a b = absurd (false≢true b)
lt-level w (inf false) (inf false) a b = a
lt-level w (fin t n d) (inf r) a b = absurd (false≢true b)
lt-level w nan (fin r k c) a b = absurd (false≢true b)
lt-level w (inf t) (fin r k c) a b = absurd (false≢true b)
lt-level nan (fin t n d) (fin r k c) a b = a
lt-level (inf s) (fin t n d) (fin r k c) a b = a
lt-level (fin s m e) (fin t n d) (fin r k c) a b = below-level s (m * up e) (down e) t (n * up d) (down d) r (k * up c) (down c) (down_pos c) a b

pub lt-self : (x : Float) → lt x x ≡ false
unfolding lt
lt-self nan = refl
lt-self (inf true) = refl
lt-self (inf false) = refl
lt-self (fin true m e) = le-ltb (m * up e * down e) (m * up e * down e) (le_refl (m * up e * down e))
lt-self (fin false m e) = le-ltb (m * up e * down e) (m * up e * down e) (le_refl (m * up e * down e))
