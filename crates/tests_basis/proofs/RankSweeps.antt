-- The sweeps over pairs of rows: after k turns each cell is at most 2 ^ k, and some cell is at least 2 ^ -k.
use mathlib.Core.Path.{◌≡◌, refl, sym, ap, ◌∙◌, subst}
use mathlib.Core.Logic.{◌⊎◌, inl, inr}
use mathlib.Core.Bool.{Bool, true, false, cond}
use mathlib.Core.List.{List, []}
use Prim.Native.Nat.{ℕ, suc, ◌+◌, ◌-◌, ◌*◌, ◌^◌, ◌≤◌, ◌<◌}
use native.Mathlib.Nat.{le_trans, le_of_eq, le_refl, lt_of_lt_of_le, mul-le-mul, mul-le-mul_left, pos_of_ne-zero}
use native.Mathlib.Decide.{ℕ_discrete}
use native.Mathlib.Omega.{arith}
use lib.Dec.{T, lit≤}
use lib.Pow.{pow_mono}
use lib.ListN.{length, get_or, set, length-set}
use lib.Seq.{get_or-set_same, get_or-set_other}
use lib.Ieee.{Float, nan, binary64, unlike, add, mul}
use Rattle.arithmetic.specs.Numbers.{plus_zero, is_zero}
use Rattle.algebra.specs.Fold.{fold}
use Rattle.algebra.specs.Table.{row}
use Rattle.algebra.specs.Kind.{floats}
use Rattle.algebra.specs.Product.{at, sum}
use Rattle.algebra.specs.Jacobi.{two, ratio, tangent, cosine, sine, turned_first, turned_second}
use Rattle.algebra.proofs.FoldLaws.{fold-steps}
use Rattle.algebra.proofs.TableLaws.{row_at}
use Rattle.algebra.proofs.JacobiCount.{pairs, pairs-less, pairs_small}
use Rattle.algebra.specs.Small.{Rows}
use Rattle.tests.specs.Basis.{row_dot, turn_rows, turn_pair, pairs_to, sweep_to, sweeps_to}
use Rattle.tests_basis.proofs.RankRounding.{fl, fl-ge}
use Rattle.tests_basis.proofs.RankUnits.{unit, unit-pos, Is, zero-units, nil-units, mul-rounds, div-rounds}
use Rattle.tests_basis.proofs.RankBounds.{Most, most-less, rounds-most, product-most, mul_most, add_most, sub-most}
use Rattle.tests_basis.proofs.RankAngle.{Number, rounded-number, tangent-most, cosine-least, sine-most, Cosine}
use Rattle.tests_basis.proofs.RankTurn.{Least, same_size, first-most, second-most, turn-least}

-- m after k turns
pub record Good (rows p k : ℕ) (m : Rows) : Type 0 where
  pub six : length m ≡ 6
  pub cells : (i j : ℕ) → i < rows → j < p → Most (at floats m i j) (unit * 2 ^ k)
  pub i : ℕ
  pub j : ℕ
  pub in_rows : i < rows
  pub in_columns : j < p
  pub large : Least (at floats m i j) k

pub least_more : {x : Float} {k l : ℕ} → k ≤ l → Least x k → Least x l
least_more h x = record { sign = x.sign; size = x.size; is = x.is; least = le_trans x.least (mul-le-mul_left x.size (pow_mono h)) }

-- the bounds of more turns are wider
pub good_more : {rows p k l : ℕ} {m : Rows} → k ≤ l → Good rows p k m → Good rows p l m
good_more {k = k} {l} h g =
    record {
      six = g.six;
      cells = λ i j a b. most-less (mul-le-mul_left unit (pow_mono h)) (g.cells i j a b);
      i = g.i;
      j = g.j;
      in_rows = g.in_rows;
      in_columns = g.in_columns;
      large = least_more h g.large;
    }

-- ---- dot products
nothing : (b : ℕ) → Most plus_zero b
nothing b = record { sign = false; size = 0; is = nil-units; most = omega arith }

sum-most : (n b : ℕ) (f : ℕ → Float) → b + n < 1024 → ((k : ℕ) → k < n → Most (f k) (unit * 2 ^ b)) → Most (sum floats n f) (unit * 2 ^ (b + n))
unfolding sum
sum-most n b f h g =
    fold-steps (λ k x. Most x (unit * 2 ^ (b + k))) 0 n (λ k s. add binary64 s (f k)) plus_zero (omega arith) (nothing (unit * 2 ^ (b + 0)))
    (λ k u l x m. subst (λ (z : ℕ). Most (add binary64 x (f k)) (unit * 2 ^ z)) (next k)
    (add_most (b + k) (omega arith) m (most-less (mul-le-mul_left unit (pow_mono (more k))) (g k l))))
  where
    next : (k : ℕ) → suc (b + k) ≡ b + (k + 1)
    next k = omega arith

    more : (k : ℕ) → b ≤ b + k
    more k = omega arith

module _ {rows p k : ℕ} {m : Rows} (K : k ≤ 450) (C : p ≤ 6) (g : Good rows p k m) where
  pub dot-most : (i j : ℕ) → i < rows → j < rows → Most (row_dot p m i j) (unit * 2 ^ (k + k + p))
  unfolding row_dot
  dot-most i j a b = sum-most p (k + k) _ (omega arith) (λ h l. mul_most k k (omega arith) (g.cells i h a l) (g.cells j h b l))

-- ---- the ratio is no NaN
two-units : Is two false (unit * 2)
two-units = record { val = (refl, swap unit) }
  where
    swap : (U : ℕ) → 1 * 2 ^ 1 * U ≡ U * 2 * 1
    swap U = omega arith

ratio-number : {a b d : Float} (k : ℕ) → suc k < 1024 → Most a (unit * 2 ^ k) → Most b (unit * 2 ^ k) → Most d (unit * 2 ^ k) → is_zero d ≡ false → Number (ratio floats a b d)
unfolding ratio
ratio-number {a} {b} {d} k h p q r z =
    rounded-number (div-rounds (sub-most k h q p).is t.0 above) above
  where
    G : ℕ
    G = r.size

    some : 0 < G
    some = pos_of_ne-zero (λ e. clash (zero-units r.is e))
      where
        clash : T (is_zero d) → ⊥
        clash t = subst T z t

    t : Is (mul binary64 two d) (unlike false r.sign) (fl (unit * 2 * G) unit) × (fl (unit * 2 * G) unit ≤ unit * 2 ^ (1 + k))
    t = rounds-most (1 + k) (mul-rounds two-units r.is) unit-pos (omega arith) (product-most (unit * 2) G 1 k (le_refl (unit * 2)) r.most)

    above : 0 < fl (unit * 2 * G) unit
    above = fl-ge (unit * 2 * G) unit 0 unit-pos (wide unit G some)
      where
        wide : (U n : ℕ) → 0 < n → 1 * U ≤ U * 2 * n
        wide U n h =
            let e : U * 2 * 1 ≤ U * 2 * n = mul-le-mul_left (U * 2) h in
            omega arith

-- ---- the cells of turned rows
-- rows i and j replaced by r and q
module _ (i j : ℕ) (m : Rows) (r q : List Float) (six : length m ≡ 6) (I : i < j) (J : j < 6) where
  first-row : get_or (set (set m i r) j q) i [] ≡ r
  first-row = get_or-set_other (set m i r) j i q [] (λ e. omega arith) ∙ get_or-set_same m i r [] (omega arith)

  second-row : get_or (set (set m i r) j q) j [] ≡ q
  second-row = get_or-set_same (set m i r) j q [] (omega (arith, length-set m i r))

  other_row : (a : ℕ) → (a ≡ i → ⊥) → (a ≡ j → ⊥) → get_or (set (set m i r) j q) a [] ≡ get_or m a []
  other_row a h l = get_or-set_other (set m i r) j a q [] l ∙ get_or-set_other m i a r [] h

  rows-six : length (set (set m i r) j q) ≡ 6
  rows-six = length-set (set m i r) j q ∙ length-set m i r ∙ six

module _ (p i j : ℕ) (c s : Float) (m : Rows) (six : length m ≡ 6) (C : p ≤ 6) (I : i < j) (J : j < 6) where
  abbrev f : ℕ → Float
  f b = turned_first floats c s (at floats m i b) (at floats m j b)

  abbrev g : ℕ → Float
  g b = turned_second floats c s (at floats m i b) (at floats m j b)

  abbrev r : List Float
  r = row plus_zero 6 p f

  abbrev q : List Float
  q = row plus_zero 6 p g

  turned-first : (b : ℕ) → b < p → at floats (turn_rows p i j c s m) i b ≡ f b
  unfolding turn_rows
  turned-first b h = ap (λ (x : List Float). get_or x b nan) (first-row i j m r q six I J) ∙ row_at plus_zero 6 p f b nan h C

  turned-second : (b : ℕ) → b < p → at floats (turn_rows p i j c s m) j b ≡ g b
  unfolding turn_rows
  turned-second b h = ap (λ (x : List Float). get_or x b nan) (second-row i j m r q six I J) ∙ row_at plus_zero 6 p g b nan h C

  turned-other : (a b : ℕ) → (a ≡ i → ⊥) → (a ≡ j → ⊥) → at floats (turn_rows p i j c s m) a b ≡ at floats m a b
  unfolding turn_rows
  turned-other a b h l = ap (λ (x : List Float). get_or x b nan) (other_row i j m r q six I J a h l)

  turned-six : length (turn_rows p i j c s m) ≡ 6
  unfolding turn_rows
  turned-six = rows-six i j m r q six I J

-- ---- a turn
least_at : {x y : Float} {k : ℕ} → x ≡ y → Least y k → Least x k
least_at {k = k} e l = subst (λ (z : Float). Least z k) (sym e) l

most-at : {x y : Float} {b : ℕ} → x ≡ y → Most y b → Most x b
most-at {b = b} e l = subst (λ (z : Float). Most z b) (sym e) l

module _ {rows p k : ℕ} {m : Rows} (R : rows ≤ 6) (P : p ≤ 6) (K : k ≤ 450) (g : Good rows p k m) (i j : ℕ) (I : i < j) (J : j < rows) where
  module _ {c s : Float} {C : ℕ} (co : Cosine c C) (si : Most s (unit * 2 ^ 0)) where
    J6 : j < 6
    J6 = lt_of_lt_of_le J R

    IR : i < rows
    IR = native.Mathlib.Nat.lt_trans I J

    new-cell : (a b : ℕ) → a < rows → b < p → Most (at floats (turn_rows p i j c s m) a b) (unit * 2 ^ suc k)
    new-cell a b h l = go (ℕ_discrete a i) (ℕ_discrete a j)
      where
        go : Dec (a ≡ i) → Dec (a ≡ j) → Most (at floats (turn_rows p i j c s m) a b) (unit * 2 ^ suc k)
        go (yes e) d =
            subst (λ (z : ℕ). Most (at floats (turn_rows p i j c s m) z b) (unit * 2 ^ suc k)) (sym e)
            (most-at (turned-first p i j c s m g.six P I J6 b l) (first-most co si k K (g.cells i b IR l) (g.cells j b J l)))
        go (no n) (yes e) =
            subst (λ (z : ℕ). Most (at floats (turn_rows p i j c s m) z b) (unit * 2 ^ suc k)) (sym e)
            (most-at (turned-second p i j c s m g.six P I J6 b l) (second-most co si k K (g.cells i b IR l) (g.cells j b J l)))
        go (no n) (no o) = most-at (turned-other p i j c s m g.six P I J6 a b n o) (most-less (mul-le-mul_left unit (pow_mono (native.Mathlib.Nat.le-suc k))) (g.cells a b h l))

    -- where a cell of column b in one of the two rows is large, one of the two new cells is
    from-pair : (b : ℕ) → b < p → Least (at floats m i b) k ⊎ Least (at floats m j b) k → Good rows p (suc k) (turn_rows p i j c s m)
    from-pair b l w = go (turn-least co si k K (g.cells i b IR l) (g.cells j b J l) (sizes w))
      where
        sizes : Least (at floats m i b) k ⊎ Least (at floats m j b) k → (unit ≤ (g.cells i b IR l).size * 2 ^ k) ⊎ (unit ≤ (g.cells j b J l).size * 2 ^ k)
        sizes (inl x) = inl (subst (λ (z : ℕ). unit ≤ z * 2 ^ k) (same_size x.is (g.cells i b IR l).is) x.least)
        sizes (inr x) = inr (subst (λ (z : ℕ). unit ≤ z * 2 ^ k) (same_size x.is (g.cells j b J l).is) x.least)

        go : Least (turned_first floats c s (at floats m i b) (at floats m j b)) (suc k) ⊎ Least (turned_second floats c s (at floats m i b) (at floats m j b)) (suc k)
            → Good rows p (suc k) (turn_rows p i j c s m)
        go (inl x) =
            record { six = turned-six p i j c s m g.six P I J6; cells = new-cell; i = i; j = b; in_rows = IR; in_columns = l; large = least_at (turned-first p i j c s m g.six P I J6 b l) x }
        go (inr x) =
            record { six = turned-six p i j c s m g.six P I J6; cells = new-cell; i = j; j = b; in_rows = J; in_columns = l; large = least_at (turned-second p i j c s m g.six P I J6 b l) x }

    good-rows : Good rows p (suc k) (turn_rows p i j c s m)
    good-rows = go (ℕ_discrete g.i i) (ℕ_discrete g.i j)
      where
        go : Dec (g.i ≡ i) → Dec (g.i ≡ j) → Good rows p (suc k) (turn_rows p i j c s m)
        go (yes e) d = from-pair g.j g.in_columns (inl (subst (λ (z : ℕ). Least (at floats m z g.j) k) e g.large))
        go (no n) (yes e) = from-pair g.j g.in_columns (inr (subst (λ (z : ℕ). Least (at floats m z g.j) k) e g.large))
        go (no n) (no o) =
            record {
              six = turned-six p i j c s m g.six P I J6;
              cells = new-cell;
              i = g.i;
              j = g.j;
              in_rows = g.in_rows;
              in_columns = g.in_columns;
              large = least_at (turned-other p i j c s m g.six P I J6 g.i g.j n o) (least_more (native.Mathlib.Nat.le-suc k) g.large);
            }

  pub good-pair : Good rows p (suc k) (turn_pair p i j m)
  unfolding turn_pair
  good-pair = go (is_zero (row_dot p m i j)) refl
    where
      IR : i < rows
      IR = native.Mathlib.Nat.lt_trans I J

      t : Float
      t = tangent floats (ratio floats (row_dot p m i i) (row_dot p m j j) (row_dot p m i j))

      tm : is_zero (row_dot p m i j) ≡ false → Most t (unit * 2 ^ 0)
      tm e = tangent-most (ratio-number (k + k + p) (omega arith) (dot-most K P g i i IR IR) (dot-most K P g j j J J) (dot-most K P g i j IR J) e)

      go : (b : Bool) → is_zero (row_dot p m i j) ≡ b → Good rows p (suc k) (cond b m (turn_rows p i j (cosine floats t) (sine floats t (cosine floats t)) m))
      go true e = good_more (native.Mathlib.Nat.le-suc k) g
      go false e = let c = cosine-least (tm e) in good-rows c.1 (sine-most (tm e) c.1)

-- ---- the sweeps
module _ {rows p : ℕ} (R : rows ≤ 6) (P : p ≤ 6) where
  good-pairs : (k i : ℕ) (m : Rows) → i + 1 ≤ rows → k + (rows - (i + 1)) ≤ 450 → Good rows p k m → Good rows p (k + (rows - (i + 1))) (pairs_to rows p i m)
  unfolding pairs_to
  good-pairs k i m h l g =
      fold-steps (λ j x. Good rows p (k + (j - (i + 1))) x) (i + 1) rows (λ j x. turn_pair p i j x) m h (good_more (omega arith) g)
      (λ j a b x y. good_more (omega arith) (good-pair R P (omega arith) y i j (omega arith) b))

  -- some number of turns so far, with those of the rows from i on at most n
  record Turns (n i : ℕ) (m : Rows) : Type 0 where
    k : ℕ
    good : Good rows p k m
    few : k + pairs (rows - i) ≤ n

  good-sweep : (k : ℕ) (m : Rows) → k + pairs rows ≤ 450 → Good rows p k m → Good rows p (k + pairs rows) (sweep_to rows rows p m)
  unfolding sweep_to
  good-sweep k m l g = good_more (le_trans (native.Mathlib.Nat.le-add_right t.k (pairs (rows - rows))) t.few) t.good
    where
      start : Turns (k + pairs rows) 0 m
      start = record { k = k; good = g; few = le_of_eq (ap (λ (z : ℕ). k + pairs z) (native.Mathlib.Nat.sub-zero rows)) }

      step : (i : ℕ) (x : Rows) → i < rows → Turns (k + pairs rows) i x → Turns (k + pairs rows) (i + 1) (pairs_to rows p i x)
      step i x h t =
          let e : pairs (rows - i) ≡ (rows - (i + 1)) + pairs (rows - (i + 1)) = pairs-less rows i h in
          let f : t.k + pairs (rows - i) ≤ k + pairs rows = t.few in
          record { k = t.k + (rows - (i + 1)); good = good-pairs t.k i x (omega arith) (omega arith) t.good; few = omega arith }

      t : Turns (k + pairs rows) rows (fold 0 rows (λ i x. pairs_to rows p i x) m)
      t = fold-steps (λ i x. Turns (k + pairs rows) i x) 0 rows (λ i x. pairs_to rows p i x) m (omega arith) start (λ i a b x y. step i x b y)

  pub good-sweeps : (m : Rows) → Good rows p 0 m → Good rows p 450 (sweeps_to 30 rows p m)
  unfolding sweeps_to
  good-sweeps m g =
      good_more (bound 30 (lit≤ tt))
      (fold-steps (λ i x. Good rows p (i * pairs rows) x) 0 30 (λ i x. sweep_to rows rows p x) m (omega arith) (good_more (omega arith) g)
      (λ i a b x y. good_more (le_of_eq (next i (pairs rows))) (good-sweep (i * pairs rows) x (le_trans (le_of_eq (next i (pairs rows))) (bound (i + 1) (omega arith))) y)))
    where
      next : (i n : ℕ) → i * n + n ≡ (i + 1) * n
      next i n = omega arith

      bound : (i : ℕ) → i ≤ 30 → i * pairs rows ≤ 450
      bound i h = mul-le-mul {n₂ = 30} {m₂ = 15} h (pairs_small rows R)
