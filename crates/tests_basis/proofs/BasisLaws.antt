-- The steps of the contrast basis, from what each call gave.
use Prim.Native.Nat.{ℕ, ◌+◌, ◌≤◌, min, max}
use mathlib.Core.Path.{◌≡◌}
use mathlib.Core.Bool.{Bool, true, false, cond}
use mathlib.Core.List.{List, []}
use lib.ListN.{get_or, set}
use lib.IntN.{negsuc}
use lib.Ieee.{Float, fin, binary64, mul, lt}
use borrow.Author.Tests.{eq-eqb, ne_eqb}
use Rattle.arithmetic.specs.declared.Marked.{Marked}
use Rattle.arithmetic.specs.Numbers.{plus_zero, is_zero, of_count}
use Rattle.arithmetic.specs.Marks.{given, marked_div}
use Rattle.algebra.specs.Fold.{fold}
use Rattle.algebra.specs.Table.{row}
use Rattle.algebra.specs.Kind.{floats, marks}
use Rattle.algebra.specs.Product.{at}
use Rattle.algebra.specs.Jacobi.{ratio, tangent, cosine, sine, turned_first, turned_second}
use Rattle.algebra.specs.Small.{Rows, values, all_marks}
use Rattle.tests.specs.declared.Basis.{Basis}
use Rattle.tests.specs.Basis.{largest, divided_cell, divided, row_dot, turn_rows, turn_pair, sweeps_to, norms, singular, tolerance, rank_of, basis_rows, contrast_basis}

-- a cell of a row that is not zero, and of one that is
module _ (p i j : ℕ) (l : Rows) (scale : Float) (x : Marked) (es : scale ≡ largest p (get_or l i [])) (ex : x ≡ given (at floats l i j)) where
  pub divided-over : (y r : Marked) → lt plus_zero scale ≡ true → y ≡ given scale → r ≡ marked_div x y → r ≡ divided_cell marks p l i j
  unfolding divided_cell
  divided-over y r t ey er =
      let f : lt plus_zero (largest p (get_or l i [])) ≡ true = rw es at t in
      rw (er, ey, ex, es, f)

  pub divided-stays : lt plus_zero scale ≡ false → x ≡ divided_cell marks p l i j
  unfolding divided_cell
  divided-stays t =
      let f : lt plus_zero (largest p (get_or l i [])) ≡ false = rw es at t in
      rw (ex, f)

-- two rows turned
pub turn-rows-is : (p i j : ℕ) (c s : Float) (m : Rows) (x y : List Float) → x ≡ row plus_zero 6 p (λ k. turned_first floats c s (at floats m i k) (at floats m j k))
    → y ≡ row plus_zero 6 p (λ k. turned_second floats c s (at floats m i k) (at floats m j k)) → set (set m i x) j y ≡ turn_rows p i j c s m
unfolding turn_rows
turn-rows-is p i j c s m x y ex ey = rw (ex, ey)

-- a pair whose dot product is zero, and one that is turned
module _ (p i j : ℕ) (m : Rows) (g : Float) (eg : g ≡ row_dot p m i j) where
  pub pair-stays : is_zero g ≡ true → m ≡ turn_pair p i j m
  unfolding turn_pair
  pair-stays z =
      let f : is_zero (row_dot p m i j) ≡ true = rw eg at z in
      rw f

  pub pair-turned : (t c s : Float) (r : Rows) → is_zero g ≡ false → t ≡ tangent floats (ratio floats (row_dot p m i i) (row_dot p m j j) g)
      → c ≡ cosine floats t → s ≡ sine floats t c → r ≡ turn_rows p i j c s m → r ≡ turn_pair p i j m
  unfolding turn_pair
  pair-turned t c s r z et ec es er =
      let f : is_zero (row_dot p m i j) ≡ false = rw eg at z in
      rw (f, er, es, ec, et, eg)

-- the tolerance, the rank and the rows of the basis
module _ (rows p : ℕ) (ns : List Float) where
  pub tolerance-is : (n : ℕ) (x y : Float) → n ≡ max rows p → x ≡ of_count n → y ≡ singular rows ns 0
      → mul binary64 (mul binary64 (fin false 1 (negsuc 51)) x) y ≡ tolerance rows p ns
  unfolding tolerance
  tolerance-is n x y en ex ey = rw (ey, ex, en)

  pub rank_is : (limit : Float) (n r : ℕ) → limit ≡ tolerance rows p ns → n ≡ min rows p
      → r ≡ fold 0 n (λ k s. cond (lt limit (singular rows ns k)) (s + 1) s) 0 → r ≡ rank_of rows p ns
  unfolding rank_of
  rank_is limit n r el en er = rw (el, en) at er

-- the basis of one row, and of several
module _ (rows p : ℕ) (l : Rows) (d : List (List Marked)) (zero seen : Marked) (m : Rows) (ed : d ≡ divided marks rows p l) (ez : zero ≡ given plus_zero)
    (es : seen ≡ all_marks marks rows p d zero) (em : m ≡ values marks 6 6 rows p d) where
  pub basis-of-one : rows ≡ 1 → ◌≡◌ {A = Basis Marked} (record { rows = m; rank = 1; seen = seen }) (contrast_basis marks rows p l)
  unfolding contrast_basis
  basis-of-one h = rw (eq-eqb rows 1 h, es, em, ez, ed)

  pub basis-of-several : (t r : Rows) (ns : List Float) (rank : ℕ) → (rows ≡ 1 → ⊥) → t ≡ sweeps_to 30 rows p m → ns ≡ norms rows p t → rank ≡ rank_of rows p ns
      → r ≡ basis_rows rows p rank t ns → ◌≡◌ {A = Basis Marked} (record { rows = r; rank = rank; seen = seen }) (contrast_basis marks rows p l)
  unfolding contrast_basis
  basis-of-several t r ns rank h et en ek er = rw (ne_eqb rows 1 h, es, er, ek, en, et, em, ez, ed)
