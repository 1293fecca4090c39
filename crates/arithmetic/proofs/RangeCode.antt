-- The mark's test as the code makes it, by comparisons of the number itself with both ends and their negatives, is the test of the definition.
use mathlib.Core.Path.{◌≡◌, refl, sym, ap, ◌∙◌}
use Prim.Native.Nat.{ℕ, ◌+◌, ◌*◌, ◌^◌, ◌<◌}
use native.Mathlib.Nat.{lt_of_le_of_lt, lt_of_lt_of_le, le_of_eq, le-add_right, mul-pos}
use mathlib.Core.Bool.{Bool, true, false, ◌&&◌, ◌||◌}
use mathlib.Core.Logic.{◌⊎◌, inl, inr}
use native.Mathlib.Omega.{arith}
use lib.IntN.{ℤ}
use lib.Dec.{T, ltb, eqb, eqb→eq, lt→ltb, not_T}
use lib.Pow.{pow_pos}
use lib.Ieee.{Float, nan, inf, fin, up, down, lt, le, eq, neg}
use lib.Ieee.Bits.{is_true, is_false}
use lib.Ieee.Fits.{down_pos, and_i, and_l, and_r, eq→eqb}
use Rattle.arithmetic.specs.Numbers.{magnitude, is_zero}
use Rattle.arithmetic.specs.Marks.{least, limit, in_range}
use Rattle.arithmetic.proofs.RangeTest.{or_cases, or_left, or_right, zero-of-test}

-- the code's test; its last argument is its test for a zero
abbrev pub test : Float → Bool → Bool
test x z = (lt x limit && lt (neg limit) x) && ((le least x || le x (neg least)) || z)

-- a zero is below the limit, so its test may stand inside or outside that of the limit
inside : (a b z : Bool) → (T z → T b) → (b && (a || z)) ≡ (z || (a && b))
inside true true true h = refl
inside true false true h = absurd (h tt)
inside false true true h = refl
inside false false true h = absurd (h tt)
inside true true false h = refl
inside true false false h = refl
inside false true false h = refl
inside false false false h = refl

same : (a b : Bool) → (T a → T b) → (T b → T a) → a ≡ b
same true true f g = refl
same true false f g = absurd (f tt)
same false true f g = absurd (g tt)
same false false f g = refl

-- numbers of unlike signs are equal only where both are zeros
unlike-signs : (a b : ℕ) → 0 < b → T (eqb a b && eqb a 0) → ⊥
unlike-signs a b h t =
    let p : a ≡ b = eqb→eq a b (and_l (eqb a b) (eqb a 0) t) in
    let q : a ≡ 0 = eqb→eq a 0 (and_r (eqb a b) (eqb a 0) t) in
    omega arith

unlike-signs' : (a b : ℕ) → 0 < a → T (eqb a b && eqb a 0) → ⊥
unlike-signs' a b h t =
    let q : a ≡ 0 = eqb→eq a 0 (and_r (eqb a b) (eqb a 0) t) in
    omega arith

one_down : (d : ℕ) → 0 < d → 0 < 1 * 1 * d
one_down d h = omega arith

zero-below : (m : ℕ) (e : ℤ) → m ≡ 0 → T (lt (fin false m e) limit)
unfolding lt
zero-below m e z = lt→ltb (m * up e * 1) (2 ^ 801 * down e) (lt_of_le_of_lt (le_of_eq (ap (λ (k : ℕ). k * up e * 1) z ∙ omega arith)) (mul-pos (pow_pos 801) (down_pos e)))

-- a number that is not negative
plus-limit : (m : ℕ) (e : ℤ) → lt (neg limit) (fin false m e) ≡ true
unfolding lt neg
plus-limit m e =
    is_true (ltb 0 (2 ^ 801 * down e + m * up e * 1)) (lt→ltb 0 (2 ^ 801 * down e + m * up e * 1)
    (lt_of_lt_of_le (mul-pos (pow_pos 801) (down_pos e)) (le-add_right (2 ^ 801 * down e) (m * up e * 1))))

plus-least : (m : ℕ) (e : ℤ) → le (fin false m e) (neg least) ≡ false
unfolding le lt eq neg
plus-least m e = is_false (le (fin false m e) (neg least)) (not_T (le (fin false m e) (neg least)) (unlike-signs (m * up e * 2 ^ 800) (1 * 1 * down e) (one_down (down e) (down_pos e))))

-- a negative number
minus-limit : (m : ℕ) (e : ℤ) → lt (fin true m e) limit ≡ true
unfolding lt
minus-limit m e =
    is_true (ltb 0 (m * up e * 1 + 2 ^ 801 * down e)) (lt→ltb 0 (m * up e * 1 + 2 ^ 801 * down e)
    (lt_of_lt_of_le (mul-pos (pow_pos 801) (down_pos e)) (native.Mathlib.Nat.le-add_left (2 ^ 801 * down e) (m * up e * 1))))

minus-least : (m : ℕ) (e : ℤ) → le least (fin true m e) ≡ false
unfolding le lt eq
minus-least m e = is_false (le least (fin true m e)) (not_T (le least (fin true m e)) (unlike-signs' (1 * 1 * down e) (m * up e * 2 ^ 800) (one_down (down e) (down_pos e))))

mirrored : (m : ℕ) (e : ℤ) → le (fin true m e) (neg least) ≡ le least (fin false m e)
unfolding le lt eq neg
mirrored m e = same (ltb b a || (eqb a b && true)) (ltb b a || (eqb b a && true)) (over a b) (over b a)
  where
    a : ℕ
    a = m * up e * 2 ^ 800

    b : ℕ
    b = 1 * 1 * down e

    over : (x y : ℕ) → T (ltb b a || (eqb x y && true)) → T (ltb b a || (eqb y x && true))
    over x y t = go (or_cases (ltb b a) (eqb x y && true) t)
      where
        go : T (ltb b a) ⊎ T (eqb x y && true) → T (ltb b a || (eqb y x && true))
        go (inl l) = or_left (ltb b a) (eqb y x && true) l
        go (inr q) = or_right (ltb b a) (eqb y x && true) (and_i (eqb y x) true (eq→eqb (sym (eqb→eq x y (and_l (eqb x y) true q)))) tt)

and-true : (b : Bool) → (b && true) ≡ b
and-true true = refl
and-true false = refl

or-false : (b : Bool) → (b || false) ≡ b
or-false true = refl
or-false false = refl

plus : (b n a d z : Bool) → n ≡ true → d ≡ false → (T z → T b) → ((b && n) && ((a || d) || z)) ≡ (z || (a && b))
plus b n a d z p q h =
    ap (λ (k : Bool). (b && k) && ((a || d) || z)) p
    ∙ ap (λ (k : Bool). (b && true) && ((a || k) || z)) q
    ∙ ap (λ (k : Bool). k && ((a || false) || z)) (and-true b)
    ∙ ap (λ (k : Bool). b && (k || z)) (or-false a)
    ∙ inside a b z h

minus : (b n a d z l : Bool) → b ≡ true → a ≡ false → d ≡ l → (T z → T n) → ((b && n) && ((a || d) || z)) ≡ (z || (l && n))
minus b n a d z l p q r h =
    ap (λ (k : Bool). (k && n) && ((a || d) || z)) p
    ∙ ap (λ (k : Bool). (true && n) && ((k || d) || z)) q
    ∙ ap (λ (k : Bool). n && (k || z)) r
    ∙ inside l n z h

pub range-code : (x : Float) → test x (is_zero x) ≡ in_range x
unfolding in_range is_zero magnitude lt le eq neg
range-code nan = refl
range-code (inf true) = refl
range-code (inf false) = refl
range-code (fin false m e) =
    let x = fin false m e in
    plus (lt x limit) (lt (neg limit) x) (le least x) (le x (neg least)) (is_zero x) (plus-limit m e) (plus-least m e) (λ t. zero-below m e (zero-of-test x t))
range-code (fin true m e) =
    let x = fin true m e in
    minus (lt x limit) (lt (neg limit) x) (le least x) (le x (neg least)) (is_zero x) (le least (fin false m e)) (minus-limit m e) (minus-least m e) (mirrored m e) (λ t. zero-below m e (zero-of-test x t))
