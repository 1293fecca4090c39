-- The contrast basis: a row's cells over their largest magnitude are the same bits for every power of two that the row is multiplied with, and so are the rank and the
-- rows of the basis, where the divisions are marked inside. Each row has its own power.
use Prim.Native.Nat.{ℕ, zero, suc, ◌+◌, ◌*◌, ◌≤◌, ◌<◌}
use native.Mathlib.Nat.{le_trans, min-le_left, zero-mul, mul-pos, zero-lt-suc}
use native.Mathlib.Omega.{arith}
use native.Mathlib.Decide.{dec_lt}
use mathlib.Core.Path.{◌≡◌, refl, sym, ap, ◌∙◌, subst}
use mathlib.Core.Bool.{Bool, true, false, cond, true≢false, false≢true}
use mathlib.Core.List.{List, []}
use mathlib.Core.Logic.{◌⊎◌, inl, inr}
use lib.Dec.{T, eqb, ltb, lt→ltb}
use lib.IntN.{ℤ, pos, nat_abs}
use lib.ListN.{get_or}
use lib.Ieee.{Float, nan, inf, fin, binary64, fits, up, down, div, lt, eq}
use lib.Ieee.Fits.{div-fits, up_pos}
use lib.Ieee.Bits.{is_true}
use borrow.Author.Tests.{eqb-true}
use Rattle.arithmetic.specs.declared.Marked.{Marked}
use Rattle.arithmetic.specs.Numbers.{plus_zero, magnitude, is_zero}
use Rattle.arithmetic.specs.Scale.{scale}
use Rattle.arithmetic.specs.Marks.{given, marked_div}
use Rattle.arithmetic.proofs.Tied.{Tied}
use Rattle.arithmetic.proofs.ScaleLaws.{scale-zero}
use Rattle.arithmetic.proofs.PlainLaws.{not-below, magnitude-zero, magnitude-scale, magnitude-fits}
use Rattle.arithmetic.proofs.RangeTest.{test-of-zero}
use Rattle.arithmetic.proofs.MarkLaws.{Bears, Moves, given-moves, div-operands}
use Rattle.algebra.specs.Kind.{floats, marks}
use Rattle.algebra.specs.Product.{at}
use Rattle.algebra.proofs.FoldLaws.{fold-both, fold-steps}
use Rattle.algebra.proofs.TableLaws.{table_at}
use Rattle.algebra.proofs.MovingCells.{MovesCells, table-moves, alike-over, less-agrees, cond-two, cond_both}
use Rattle.algebra.specs.Small.{Rows, values, all_marks}
use Rattle.tests.specs.Order.{index_at}
use Rattle.tests.specs.declared.Basis.{Basis}
use Rattle.tests.specs.Basis.{largest, divided_cell, divided, sweeps_to, norms, singular, rank_of, basis_rows, contrast_basis}
use Rattle.tests_basis.proofs.Rank.{rank_most}
use Rattle.converter_run.specs.joints.ConvertedInput.{WrittenCells}
use Rattle.algebra_products.proofs.MovingSmall.{tied-still, tied-nil, all_marks-cells, values_agree}

-- ---- the largest magnitude
magnitude-tied : (u : ℤ) (x x' : Float) → Tied u x x' → Tied u (magnitude x) (magnitude x')
magnitude-tied u x x' e = record { fine = magnitude-fits x e.fine; moved = ap magnitude e.moved ∙ magnitude-scale u x }

larger-tied : (u : ℤ) (x v x' v' : Float) → Tied u x x' → Tied u v v' → Tied u (cond (lt x v) v x) (cond (lt x' v') v' x')
larger-tied u x v x' v' e f = rw (less-agrees u x v x' v' e f) (cond-two (Tied u) (lt x v) v x v' x' f e)

-- it moves with its row
pub largest-tied : (p : ℕ) (u : ℤ) (xs xs' : List Float) → ((j : ℕ) → j < p → Tied u (get_or xs j nan) (get_or xs' j nan)) → Tied u (largest p xs) (largest p xs')
unfolding largest
largest-tied p u xs xs' e =
    fold-both (λ x y. Tied u x y) 0 p (λ j s. cond (lt s (magnitude (get_or xs j nan))) (magnitude (get_or xs j nan)) s)
    (λ j s. cond (lt s (magnitude (get_or xs' j nan))) (magnitude (get_or xs' j nan)) s) plus_zero plus_zero (tied-nil u)
    (λ j h l x y q. larger-tied u x (magnitude (get_or xs j nan)) y (magnitude (get_or xs' j nan)) q (magnitude-tied u (get_or xs j nan) (get_or xs' j nan) (e j l)))

-- ---- a row with no largest magnitude above zero holds zeros (and NaNs), which no power of two changes
abbrev Still : Float → Type 0
Still x = (u : ℤ) → scale u x ≡ x

-- v replaces no number that is not below zero
abbrev Passed : Float → Type 0
Passed v = (s : Float) → lt s plus_zero ≡ false → lt s v ≡ false

less-nan : (s : Float) → lt s nan ≡ false
unfolding lt
less-nan nan = refl
less-nan (inf s) = refl
less-nan (fin s m e) = refl

one_way : (s : Float) → lt plus_zero s ≡ true → lt s plus_zero ≡ false
unfolding lt
one_way nan h = refl
one_way (inf true) h = absurd (false≢true h)
one_way (inf false) h = refl
one_way (fin true m e) h = absurd (false≢true h)
one_way (fin false m e) h = none (ltb (m * up e * 1) (0 * down e)) (not-below (m * up e * 1) (down e))
  where
    none : (b : Bool) → (T b → ⊥) → b ≡ false
    none true f = absurd (f tt)
    none false f = refl

above : (m : ℕ) (e : ℤ) → ltb (0 * down e) (suc m * up e * 1) ≡ true
above m e = is_true (ltb (0 * down e) (suc m * up e * 1)) (lt→ltb (0 * down e) (suc m * up e * 1) (go (0 * down e) (zero-mul (down e)) (mul-pos (mul-pos (zero-lt-suc m) (up_pos e)) (zero-lt-suc 0))))
  where
    go : (z : ℕ) → z ≡ 0 → 0 < suc m * up e * 1 → z < suc m * up e * 1
    go z h k = rw h k

-- a magnitude is above zero, or its number stays and is passed over
above-or-still : (x : Float) → T (fits binary64 x) → (lt plus_zero (magnitude x) ≡ true) ⊎ (Still x × Passed (magnitude x))
unfolding magnitude lt is_zero
above-or-still nan f = inr (λ u. refl, λ s h. less-nan s)
above-or-still (inf s) f = inl refl
above-or-still (fin s zero e) f =
    let z : plus_zero ≡ magnitude (fin s zero e) = magnitude-zero (fin s zero e) (is_true (fits binary64 (fin s zero e)) f) (is_true (eq (fin s zero e) plus_zero) (test-of-zero (fin s zero e) refl)) in
    inr (λ u. refl, λ y h. subst (λ (v : Float). lt y v ≡ false) z h)
above-or-still (fin s (suc m) e) f = inl (above m e)

zero-not-below : lt plus_zero plus_zero ≡ false
unfolding lt
zero-not-below = refl

-- the largest so far is above zero, or it is +0 and all cells so far stay
record Empty (xs : List Float) (k : ℕ) (s : Float) : Type 0 where
  pub none : s ≡ plus_zero
  pub still : (j : ℕ) → j < k → Still (get_or xs j nan)

module _ (xs : List Float) where
  one_more : (k : ℕ) (s : Float) → T (fits binary64 (get_or xs k nan)) → (lt plus_zero s ≡ true) ⊎ Empty xs k s
      → (lt plus_zero (cond (lt s (magnitude (get_or xs k nan))) (magnitude (get_or xs k nan)) s) ≡ true) ⊎ Empty xs (k + 1) (cond (lt s (magnitude (get_or xs k nan))) (magnitude (get_or xs k nan)) s)
  one_more k s f q = go (above-or-still (get_or xs k nan) f) q
    where
      v : Float
      v = magnitude (get_or xs k nan)

      to-k : Empty xs k s → Still (get_or xs k nan) → (j : ℕ) → j < k + 1 → Dec (j < k) → Still (get_or xs j nan)
      to-k e p j h (yes l) = e.still j l
      to-k e p j h (no l) = let g : j ≡ k = omega arith in rw g p

      go : (lt plus_zero v ≡ true) ⊎ (Still (get_or xs k nan) × Passed v) → (lt plus_zero s ≡ true) ⊎ Empty xs k s
          → (lt plus_zero (cond (lt s v) v s) ≡ true) ⊎ Empty xs (k + 1) (cond (lt s v) v s)
      go (inl a) (inl h) = inl (cond_both (λ (y : Float). lt plus_zero y ≡ true) (lt s v) v s a h)
      go (inl a) (inr e) = inl (rw (e.none, a) a)
      go (inr p) (inl h) = inl (rw (p.1 s (one_way s h)) h)
      go (inr p) (inr e) =
          let g : lt s v ≡ false = p.1 s (rw e.none zero-not-below) in
          inr (rw g (record { none = e.none; still = λ j h. to-k e p.0 j h (dec_lt j k) }))

  pub zero_row : (p : ℕ) → ((j : ℕ) → j < p → T (fits binary64 (get_or xs j nan))) → lt plus_zero (largest p xs) ≡ false → (j : ℕ) → j < p → Still (get_or xs j nan)
  unfolding largest
  zero_row p f h = go (fold-steps (λ k s. (lt plus_zero s ≡ true) ⊎ Empty xs k s) 0 p (λ j s. cond (lt s (magnitude (get_or xs j nan))) (magnitude (get_or xs j nan)) s) plus_zero (omega arith)
      (inr (record { none = refl; still = λ j l. absurd (omega arith) })) (λ k l m s q. one_more k s (f k m) q))
    where
      go : (lt plus_zero (largest p xs) ≡ true) ⊎ Empty xs p (largest p xs) → (j : ℕ) → j < p → Still (get_or xs j nan)
      go (inl a) = absurd (true≢false (sym a ∙ h))
      go (inr e) = e.still

-- ---- the divided cells do not move
module _ {t : ℕ} (p i : ℕ) (u : ℤ) (l l' : Rows) (e : (j : ℕ) → j < p → Tied u (at floats l i j) (at floats l' i j)) where
  divided_cell-moves : (j : ℕ) → j < p → Moves t (pos 0) (divided_cell marks p l i j) (divided_cell marks p l' i j)
  unfolding divided_cell
  divided_cell-moves j h = rw (less-agrees u plus_zero s plus_zero s' (tied-nil u) es) (go (lt plus_zero s) refl)
    where
      s : Float
      s = largest p (get_or l i [])

      s' : Float
      s' = largest p (get_or l' i [])

      es : Tied u s s'
      es = largest-tied p u (get_or l i []) (get_or l' i []) e

      x : Float
      x = at floats l i j

      x' : Float
      x' = at floats l' i j

      go : (b : Bool) → lt plus_zero s ≡ b → Moves t (pos 0) (cond b (marked_div (given x) (given s)) (given x)) (cond b (marked_div (given x') (given s')) (given x'))
      go true q = alike-over u (given x) (given s) (given x') (given s') (given-moves u x x' (e j h)) (given-moves u s s' es)
      go false q =
          let k : scale u x ≡ x = zero_row (get_or l i []) p (λ j o. (e j o).fine) q j h u in
          given-moves (pos 0) x x' (record { fine = (e j h).fine; moved = (e j h).moved ∙ k ∙ sym (scale-zero x) })

-- what was divided can be scaled, and is an f64 number again
pub divided-fits : {t : ℕ} (p i : ℕ) (u : ℤ) → nat_abs u ≤ t → (l : Rows) → ((j : ℕ) → j < p → T (fits binary64 (at floats l i j))) → (j : ℕ) → j < p → Bears t (divided_cell marks p l i j)
    → T (fits binary64 (scale u (at floats l i j)))
unfolding divided_cell
divided-fits {t} p i u n l f j h b = go (lt plus_zero s) refl b
  where
    s : Float
    s = largest p (get_or l i [])

    x : Float
    x = at floats l i j

    go : (e : Bool) → lt plus_zero s ≡ e → Bears t (cond e (marked_div (given x) (given s)) (given x)) → T (fits binary64 (scale u x))
    go true e k =
        (div-operands u n (given x) (given s) k (f j h) (largest-tied p (pos 0) (get_or l i []) (get_or l i []) (λ j o. tied-still (at floats l i j) (f j o))).fine).0
    go false e k = rw (zero_row (get_or l i []) p f e j h u) (f j h)

-- ---- the basis, from the divided rows
unfoldable from_rows : ℕ → ℕ → Rows → Marked → Basis Marked
from_rows rows p v seen =
    let m : Rows = sweeps_to 30 rows p v in
    let ns : List Float = norms rows p m in
    let rank : ℕ = rank_of rows p ns in
    cond (eqb rows 1) (record { rows = v; rank = 1; seen = seen }) (record { rows = basis_rows rows p rank m ns; rank = rank; seen = seen })

module _ (rows p : ℕ) where
  from-rows : (l : Rows) → contrast_basis marks rows p l ≡ from_rows rows p (values marks 6 6 rows p (divided marks rows p l)) (all_marks marks rows p (divided marks rows p l) (given plus_zero))
  unfolding contrast_basis from_rows
  from-rows l = refl

  seen-is : (v : Rows) (seen : Marked) → (from_rows rows p v seen).seen ≡ seen
  unfolding from_rows
  seen-is v seen = cond_both (λ (b : Basis Marked). b.seen ≡ seen) (eqb rows 1) _ _ refl refl

  same_rows : (v : Rows) (seen seen' : Marked) → (from_rows rows p v seen').rows ≡ (from_rows rows p v seen).rows
  unfolding from_rows
  same_rows v seen seen' = cond-two (λ (b b' : Basis Marked). b'.rows ≡ b.rows) (eqb rows 1) _ _ _ _ refl refl

  same_rank : (v : Rows) (seen seen' : Marked) → (from_rows rows p v seen').rank ≡ (from_rows rows p v seen).rank
  unfolding from_rows
  same_rank v seen seen' = cond-two (λ (b b' : Basis Marked). b'.rank ≡ b.rank) (eqb rows 1) _ _ _ _ refl refl

-- the divisions of the contrast's rows count in the basis
pub basis-seen : (rows p : ℕ) (l : Rows) → (contrast_basis marks rows p l).seen ≡ all_marks marks rows p (divided marks rows p l) (given plus_zero)
basis-seen rows p l = ap (λ (b : Basis Marked). b.seen) (from-rows rows p l) ∙ seen-is rows p (values marks 6 6 rows p (divided marks rows p l)) (all_marks marks rows p (divided marks rows p l) (given plus_zero))

-- what stays: the rows of the basis and its rank
pub record SameBasis (b b' : Basis Marked) : Type 0 where
  pub rows : b'.rows ≡ b.rows
  pub rank : b'.rank ≡ b.rank

module _ {t : ℕ} (rows p : ℕ) (hr : rows ≤ 6) (hp : p ≤ 6) (m : ℕ → ℤ) (l l' : Rows) (e : (i j : ℕ) → i < rows → j < p → Tied (m i) (at floats l i j) (at floats l' i j)) where
  divided-moves : MovesCells t (pos 0) rows p (divided marks rows p l) (divided marks rows p l')
  unfolding divided
  divided-moves = table-moves (pos 0) 6 6 rows p (divided_cell marks p l) (divided_cell marks p l') hr hp (λ i j h k. divided_cell-moves p i (m i) l l' (λ j o. e i j h o) j k)

  pub basis-agrees : Bears t (contrast_basis marks rows p l).seen → SameBasis (contrast_basis marks rows p l) (contrast_basis marks rows p l')
  basis-agrees b =
      let d : List (List Marked) = divided marks rows p l in
      let d' : List (List Marked) = divided marks rows p l' in
      let seen : Marked = all_marks marks rows p d (given plus_zero) in
      let seen' : Marked = all_marks marks rows p d' (given plus_zero) in
      let v : values marks 6 6 rows p d' ≡ values marks 6 6 rows p d = values_agree 6 6 rows p d d' divided-moves (all_marks-cells rows p d (given plus_zero) (rw (basis-seen rows p l) at b)) in
      let f : contrast_basis marks rows p l' ≡ from_rows rows p (values marks 6 6 rows p d) seen' = from-rows rows p l' ∙ ap (λ (x : Rows). from_rows rows p x seen') v in
      record {
        rows = ap (λ (b : Basis Marked). b.rows) f ∙ same_rows rows p (values marks 6 6 rows p d) seen seen' ∙ ap (λ (b : Basis Marked). b.rows) (sym (from-rows rows p l));
        rank = ap (λ (b : Basis Marked). b.rank) f ∙ same_rank rows p (values marks 6 6 rows p d) seen seen' ∙ ap (λ (b : Basis Marked). b.rank) (sym (from-rows rows p l));
      }

-- ---- the cells of a basis are f64 numbers
module _ (rows p : ℕ) (hr : rows ≤ 6) (hp : p ≤ 6) (l : Rows) (w : WrittenCells rows p l) where
  divided-written : (i j : ℕ) → i < rows → j < p → T (fits binary64 (divided_cell marks p l i j).value)
  unfolding divided_cell marked_div
  divided-written i j h k =
      cond_both (λ (x : Marked). T (fits binary64 x.value)) (lt plus_zero (largest p (get_or l i []))) _ _ (div-fits binary64 (at floats l i j) (largest p (get_or l i []))) (w i j h k)

  values-written : WrittenCells rows p (values marks 6 6 rows p (divided marks rows p l))
  unfolding values divided
  values-written i j h k =
      rw (table_at plus_zero 6 6 rows p (λ i j. (at marks (divided marks rows p l) i j).value) i j nan h k hr hp, table_at (given plus_zero) 6 6 rows p (divided_cell marks p l) i j marks.void h k hr hp)
      (divided-written i j h k)

  quotients-written : (rank : ℕ) → rank ≤ 6 → (m : Rows) (ns : List Float) → WrittenCells rank p (basis_rows rows p rank m ns)
  unfolding basis_rows
  quotients-written rank q m ns i j h k =
      rw (table_at plus_zero 6 6 rank p (λ k j. div binary64 (at floats m (index_at rows ns k) j) (singular rows ns k)) i j nan h k q hp)
      (div-fits binary64 (at floats m (index_at rows ns i) j) (singular rows ns i))

  pub basis-written : 1 ≤ rows → 1 ≤ p → WrittenCells (contrast_basis marks rows p l).rank p (contrast_basis marks rows p l).rows
  unfolding contrast_basis
  basis-written r1 p1 = go (eqb rows 1) refl (le_trans (rank_most rows p l r1 p1) (le_trans (min-le_left rows p) hr))
    where
      v : Rows
      v = values marks 6 6 rows p (divided marks rows p l)

      seen : Marked
      seen = all_marks marks rows p (divided marks rows p l) (given plus_zero)

      turned : Rows
      turned = sweeps_to 30 rows p v

      ns : List Float
      ns = norms rows p turned

      rank : ℕ
      rank = rank_of rows p ns

      basis : Bool → Basis Marked
      basis b = cond b (record { rows = v; rank = 1; seen = seen }) (record { rows = basis_rows rows p rank turned ns; rank = rank; seen = seen })

      go : (b : Bool) → eqb rows 1 ≡ b → (basis b).rank ≤ 6 → WrittenCells (basis b).rank p (basis b).rows
      go true e q i j h k = values-written i j (omega (arith, eqb-true rows 1 e)) k
      go false e q i j h k = quotients-written rank q turned ns i j h k
