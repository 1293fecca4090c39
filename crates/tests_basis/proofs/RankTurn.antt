-- One turn of two cells x and y: neither new cell is above twice the larger of the two, and one of them is at least half of it.
use mathlib.Core.Path.{◌≡◌, refl, sym, ap, ◌∙◌, subst}
use mathlib.Core.Logic.{◌⊎◌, inl, inr}
use mathlib.Core.Bool.{Bool, true, false, not, beq, cond}
use Prim.Native.Nat.{ℕ, suc, ◌+◌, ◌*◌, ◌^◌, ◌≤◌, ◌<◌}
use native.Mathlib.Nat.{le_trans, le_of_eq, lt_of_lt_of_le, lt_of_le_of_lt, lt_irrefl, lt_of_not-le, mul-one, zero-add, mul-le-mul_right, mul-le-mul_left, mul-lt-mul_of_pos_right, le_of_mul-le-mul_right, eq_of_mul-eq-mul_right, pow-succ'}
use native.Mathlib.Decide.{dec_le}
use native.Mathlib.Omega.{arith}
use lib.Pow.{pow_pos, pow_mono, pow-add}
use lib.Ieee.{Float, nan, inf, fin, binary64, unlike, down, add, sub, mul}
use lib.Ieee.Fits.{down_pos}
use Rattle.algebra.specs.Kind.{floats}
use Rattle.algebra.specs.Jacobi.{turned_first, turned_second}
use Rattle.tests_basis.proofs.RankRounding.{fl, Near, fl-near}
use Rattle.tests_basis.proofs.RankUnits.{unit, unit-pos, Is, Rounds, apart, mul-rounds}
use Rattle.tests_basis.proofs.RankBounds.{Most, fl-least, rounds-most, product-most, mul_most, add_most, sub-most, add_rounds, sub-rounds, either-double}
use Rattle.tests_basis.proofs.RankAngle.{Cosine}

-- ---- whole numbers: C and S are the cosine and the sine, U is 1, and each product has its rounding error
-- the cosine keeps half of a number
kept_half : (C U Y Q : ℕ) → 0 < U → 7 * U ≤ 10 * C → 10000 ≤ Y → Near (C * Y) U Q → Y ≤ 2 * Q
kept_half C U Y Q P c l n =
    let a : 7 * U * Y ≤ 10 * C * Y = mul-le-mul_right Y c in
    let b : 10000 * U ≤ Y * U = mul-le-mul_right U l in
    let d : 2046 * (C * Y) ≤ 2048 * (Q * U) + 1024 * U = n.least in
    le_of_mul-le-mul_right {m = Y} {n = 2 * Q} {k = U} (omega arith) P

-- where c x + s y is below half of y, s x is small
small_product : (C S U X Y P1 P2 : ℕ) → 0 < U → 7 * U ≤ 10 * C → S ≤ U → 2 * (P1 + P2) ≤ Y → Near (C * X) U P1 → Near (S * Y) U P2
    → 1000 * (S * X) ≤ 180 * (U * Y) + 2000 * U
small_product C S U X Y P1 P2 P c s h n1 n2 = go (dec_le U (4 * S))
  where
    a : 2 * (P1 + P2) * U ≤ Y * U
    a = mul-le-mul_right U h

    b : 2046 * (C * X) + 2046 * (S * Y) ≤ 1024 * (U * Y) + 2048 * U
    b = omega (arith, n1.least, n2.least, a)

    d : 7 * U * X ≤ 10 * C * X
    d = mul-le-mul_right X c

    i : 14322 * (U * X) + 20460 * (S * Y) ≤ 10240 * (U * Y) + 20480 * U
    i = omega (arith, b, d)

    go : Dec (U ≤ 4 * S) → 1000 * (S * X) ≤ 180 * (U * Y) + 2000 * U
    go (yes g) =
        let e : U * Y ≤ 4 * S * Y = mul-le-mul_right Y g in
        let f : 14322 * X * U ≤ (5125 * Y + 20480) * U = omega (arith, e, i) in
        let j : 14322 * X ≤ 5125 * Y + 20480 = le_of_mul-le-mul_right f P in
        let k : S * (14322 * X) ≤ S * (5125 * Y + 20480) = mul-le-mul_left S j in
        omega (arith, k, b, s)
    go (no g) =
        let e : 4 * S * X ≤ U * X = mul-le-mul_right X (le_four S U g) in
        omega (arith, e, i)
      where
        le_four : (S U : ℕ) → (U ≤ 4 * S → ⊥) → 4 * S ≤ U
        le_four S U g = omega arith

core : (C S U X Y P1 P2 Q1 Q2 : ℕ) → 0 < U → 7 * U ≤ 10 * C → S ≤ U → 10000 ≤ Y
    → Near (C * X) U P1 → Near (S * Y) U P2 → Near (S * X) U Q1 → Near (C * Y) U Q2 → (Y ≤ 2 * (P1 + P2)) ⊎ (Y + 2 * Q1 ≤ 2 * Q2)
core C S U X Y P1 P2 Q1 Q2 P c s l n1 n2 n3 n4 = go (dec_le Y (2 * (P1 + P2)))
  where
    go : Dec (Y ≤ 2 * (P1 + P2)) → (Y ≤ 2 * (P1 + P2)) ⊎ (Y + 2 * Q1 ≤ 2 * Q2)
    go (yes g) = inl g
    go (no g) =
        let a : 1000 * (S * X) ≤ 180 * (U * Y) + 2000 * U = small_product C S U X Y P1 P2 P c s (omega arith) n1 n2 in
        let b : 7 * U * Y ≤ 10 * C * Y = mul-le-mul_right Y c in
        let d : 10000 * U ≤ Y * U = mul-le-mul_right U l in
        let e : 2048 * (Q1 * U) ≤ 2050 * (S * X) + 1024 * U = n3.most in
        let f : 2046 * (C * Y) ≤ 2048 * (Q2 * U) + 1024 * U = n4.least in
        inr (le_of_mul-le-mul_right {m = Y + 2 * Q1} {n = 2 * Q2} {k = U} (omega (arith, a, b, d, e, f)) P)

-- the two new cells before their last rounding, by whether the second adds two of one sign
abbrev either : Bool → ℕ → ℕ → ℕ
either o a b = cond o (a + b) (apart a b)

module _ (C S U X Y P1 P2 Q1 Q2 : ℕ) (P : 0 < U) (c : 7 * U ≤ 10 * C) (s : S ≤ U)
    (n1 : Near (C * X) U P1) (n2 : Near (S * Y) U P2) (n3 : Near (S * X) U Q1) (n4 : Near (C * Y) U Q2) where
  half-of-second : (o : Bool) → 10000 ≤ Y → (Y ≤ 2 * either (not o) P1 P2) ⊎ (Y ≤ 2 * either o Q1 Q2)
  half-of-second true l =
      let h : Y ≤ 2 * Q2 = kept_half C U Y Q2 P c l n4 in
      inr (omega (arith, h))
  half-of-second false l = go (core C S U X Y P1 P2 Q1 Q2 P c s l n1 n2 n3 n4)
    where
      go : (Y ≤ 2 * (P1 + P2)) ⊎ (Y + 2 * Q1 ≤ 2 * Q2) → (Y ≤ 2 * (P1 + P2)) ⊎ (Y ≤ 2 * apart Q1 Q2)
      go (inl h) = inl h
      go (inr h) = inr (omega (arith, h))

  half-of-first : (o : Bool) → 10000 ≤ X → (X ≤ 2 * either (not o) P1 P2) ⊎ (X ≤ 2 * either o Q1 Q2)
  half-of-first false l =
      let h : X ≤ 2 * P1 = kept_half C U X P1 P c l n1 in
      inl (omega (arith, h))
  half-of-first true l = go (core C S U Y X Q2 Q1 P2 P1 P c s l n4 n3 n2 n1)
    where
      go : (X ≤ 2 * (Q2 + Q1)) ⊎ (X + 2 * P2 ≤ 2 * P1) → (X ≤ 2 * apart P1 P2) ⊎ (X ≤ 2 * (Q1 + Q2))
      go (inl h) = inr (omega (arith, h))
      go (inr h) = inl (omega (arith, h))

-- ---- numbers
-- x is finite, and 2 ^ -k at least
pub record Least (x : Float) (k : ℕ) : Type 0 where
  pub sign : Bool
  pub size : ℕ
  pub is : Is x sign size
  pub least : unit ≤ size * 2 ^ k

pub same_size : {x : Float} {s t : Bool} {a b : ℕ} → Is x s a → Is x t b → a ≡ b
same_size {x = nan} p q = absurd p.val
same_size {x = inf w} p q = absurd p.val
same_size {x = fin w m e} {a = a} {b} p q = eq_of_mul-eq-mul_right (down e) (down_pos e) a b (sym p.val.1 ∙ q.val.1)

-- 2 ^ -450 is many units
large : (n k : ℕ) → k ≤ 450 → unit ≤ n * 2 ^ k → 10000 ≤ n
unfolding unit
large n k h l = go (dec_le 10000 n)
  where
    room : (k : ℕ) → k ≤ 450 → 14 + k ≤ 1074
    room k h = omega arith

    less : (n : ℕ) → (10000 ≤ n → ⊥) → n < 16384
    less n g = omega arith

    go : Dec (10000 ≤ n) → 10000 ≤ n
    go (yes g) = g
    go (no g) =
        absurd (lt_irrefl (2 ^ 1074) (lt_of_le_of_lt l (lt_of_lt_of_le (mul-lt-mul_of_pos_right (less n g) (pow_pos k))
        (le_trans (le_of_eq (sym (pow-add 2 14 k))) (pow_mono (room k h))))))

-- the signs: exactly one of c x − s y and s x + c y adds two numbers of one sign
one-adds : (a b s : Bool) → beq (unlike false a) (not (unlike s b)) ≡ not (beq (unlike s a) (unlike false b))
one-adds true true true = refl
one-adds true true false = refl
one-adds true false true = refl
one-adds true false false = refl
one-adds false true true = refl
one-adds false true false = refl
one-adds false false true = refl
one-adds false false false = refl

room-one : (k : ℕ) → k ≤ 450 → suc k < 1024
room-one k h = omega arith

room-none : (k : ℕ) → k ≤ 450 → 0 + k < 1024
room-none k h = omega arith

-- a product with a number of at most 1
pub part-most : {x y : Float} (k : ℕ) → k ≤ 450 → Most x (unit * 2 ^ 0) → Most y (unit * 2 ^ k) → Most (mul binary64 x y) (unit * 2 ^ k)
part-most {x} {y} k h p q = subst (λ (z : ℕ). Most (mul binary64 x y) (unit * 2 ^ z)) (zero-add k) (mul_most 0 k (room-none k h) p q)

module _ {c s : Float} {C : ℕ} (co : Cosine c C) (si : Most s (unit * 2 ^ 0)) (k : ℕ) (K : k ≤ 450) {x y : Float} (mx : Most x (unit * 2 ^ k)) (my : Most y (unit * 2 ^ k)) where
  cos : Most c (unit * 2 ^ 0)
  cos = record { sign = false; size = C; is = co.is; most = co.most }

  pub first-most : Most (turned_first floats c s x y) (unit * 2 ^ suc k)
  unfolding turned_first
  first-most = sub-most k (room-one k K) (part-most k K cos mx) (part-most k K si my)

  pub second-most : Most (turned_second floats c s x y) (unit * 2 ^ suc k)
  unfolding turned_second
  second-most = add_most k (room-one k K) (part-most k K si mx) (part-most k K cos my)

  -- a number that is half of M at least, before its rounding
  from-half : {z : Float} {r : Bool} {E : ℕ} (M : ℕ) → Rounds z r E 1 → E ≤ unit * 2 ^ suc k * 1 → unit ≤ M * 2 ^ k → M ≤ 2 * E → Least z (suc k)
  from-half {r = r} {E} M o h l g =
      let i = rounds-most (suc k) o (pow_pos 0) (room-one k K) h in
      record { sign = r; size = fl E 1; is = i.0; least = fl-least E 1 (suc k) (pow_pos 0) (room k K) (grow unit M E (2 ^ k) (2 ^ suc k) (pow-succ' 2 k) l (mul-le-mul_right (2 ^ k) g)) }
    where
      room : (k : ℕ) → k ≤ 450 → suc k ≤ 1074
      room k h = omega arith

      grow : (U M E K L : ℕ) → L ≡ 2 * K → U ≤ M * K → M * K ≤ 2 * E * K → U * 1 ≤ E * L
      grow U M E K L e h g = omega (arith, ap (λ (z : ℕ). E * z) e, h, g)

  pub turn-least : (unit ≤ mx.size * 2 ^ k) ⊎ (unit ≤ my.size * 2 ^ k) → Least (turned_first floats c s x y) (suc k) ⊎ Least (turned_second floats c s x y) (suc k)
  unfolding turned_first turned_second
  turn-least w = go (dec_le X Y)
    where
      X : ℕ
      X = mx.size

      Y : ℕ
      Y = my.size

      S : ℕ
      S = si.size

      o : Bool
      o = beq (unlike si.sign mx.sign) (unlike false my.sign)

      bound : (a b : ℕ) → a ≤ unit * 2 ^ 0 → b ≤ unit * 2 ^ k → a * b ≤ unit * 2 ^ k * unit
      bound a b h l = le_trans (product-most a b 0 k h l) (le_of_eq (ap (λ (z : ℕ). unit * 2 ^ z * unit) (zero-add k)))

      p1 : Is (mul binary64 c x) (unlike false mx.sign) (fl (C * X) unit) × (fl (C * X) unit ≤ unit * 2 ^ k)
      p1 = rounds-most k (mul-rounds co.is mx.is) unit-pos (lt_of_le_of_lt (le_of_eq (sym (zero-add k))) (room-none k K)) (bound C X co.most mx.most)

      p2 : Is (mul binary64 s y) (unlike si.sign my.sign) (fl (S * Y) unit) × (fl (S * Y) unit ≤ unit * 2 ^ k)
      p2 = rounds-most k (mul-rounds si.is my.is) unit-pos (lt_of_le_of_lt (le_of_eq (sym (zero-add k))) (room-none k K)) (bound S Y si.most my.most)

      q1 : Is (mul binary64 s x) (unlike si.sign mx.sign) (fl (S * X) unit) × (fl (S * X) unit ≤ unit * 2 ^ k)
      q1 = rounds-most k (mul-rounds si.is mx.is) unit-pos (lt_of_le_of_lt (le_of_eq (sym (zero-add k))) (room-none k K)) (bound S X si.most mx.most)

      q2 : Is (mul binary64 c y) (unlike false my.sign) (fl (C * Y) unit) × (fl (C * Y) unit ≤ unit * 2 ^ k)
      q2 = rounds-most k (mul-rounds co.is my.is) unit-pos (lt_of_le_of_lt (le_of_eq (sym (zero-add k))) (room-none k K)) (bound C Y co.most my.most)

      first : (r : Bool) × Rounds (sub binary64 (mul binary64 c x) (mul binary64 s y)) r (either (not o) (fl (C * X) unit) (fl (S * Y) unit)) 1
      first =
          subst (λ (b : Bool). (r : Bool) × Rounds (sub binary64 (mul binary64 c x) (mul binary64 s y)) r (either b (fl (C * X) unit) (fl (S * Y) unit)) 1)
          (one-adds mx.sign my.sign si.sign) (sub-rounds p1.0 p2.0)

      second : (r : Bool) × Rounds (add binary64 (mul binary64 s x) (mul binary64 c y)) r (either o (fl (S * X) unit) (fl (C * Y) unit)) 1
      second = add_rounds q1.0 q2.0

      sine-one : S ≤ unit
      sine-one = le_trans si.most (le_of_eq (mul-one unit))

      done : (M : ℕ) → unit ≤ M * 2 ^ k → (M ≤ 2 * either (not o) (fl (C * X) unit) (fl (S * Y) unit)) ⊎ (M ≤ 2 * either o (fl (S * X) unit) (fl (C * Y) unit))
          → Least (sub binary64 (mul binary64 c x) (mul binary64 s y)) (suc k) ⊎ Least (add binary64 (mul binary64 s x) (mul binary64 c y)) (suc k)
      done M l (inl h) = inl (from-half M first.1 (either-double (not o) (fl (C * X) unit) (fl (S * Y) unit) k p1.1 p2.1) l h)
      done M l (inr h) = inr (from-half M second.1 (either-double o (fl (S * X) unit) (fl (C * Y) unit) k q1.1 q2.1) l h)

      larger : (a b : ℕ) → a ≤ b → (unit ≤ a * 2 ^ k) ⊎ (unit ≤ b * 2 ^ k) → unit ≤ b * 2 ^ k
      larger a b h (inl l) = le_trans l (mul-le-mul_right (2 ^ k) h)
      larger a b h (inr l) = l

      other : {A B : Type 0} → A ⊎ B → B ⊎ A
      other (inl a) = inr a
      other (inr a) = inl a

      go : Dec (X ≤ Y) → Least (sub binary64 (mul binary64 c x) (mul binary64 s y)) (suc k) ⊎ Least (add binary64 (mul binary64 s x) (mul binary64 c y)) (suc k)
      go (yes g) =
          let l : unit ≤ Y * 2 ^ k = larger X Y g w in
          done Y l
          (half-of-second C S unit X Y (fl (C * X) unit) (fl (S * Y) unit) (fl (S * X) unit) (fl (C * Y) unit) unit-pos co.least sine-one
          (fl-near (C * X) unit unit-pos) (fl-near (S * Y) unit unit-pos) (fl-near (S * X) unit unit-pos) (fl-near (C * Y) unit unit-pos) o (large Y k K l))
      go (no g) =
          let l : unit ≤ X * 2 ^ k = larger Y X (native.Mathlib.Nat.le_of_lt (lt_of_not-le g)) (other w) in
          done X l
          (half-of-first C S unit X Y (fl (C * X) unit) (fl (S * Y) unit) (fl (S * X) unit) (fl (C * Y) unit) unit-pos co.least sine-one
          (fl-near (C * X) unit unit-pos) (fl-near (S * Y) unit unit-pos) (fl-near (S * X) unit unit-pos) (fl-near (C * Y) unit unit-pos) o (large X k K l))
