-- Sums and products of matrices of marked numbers: what they take in bears as much as they do, and they move as their operands do.
use Prim.Native.Nat.{ℕ, ◌≤◌, ◌<◌}
use native.Mathlib.Omega.{arith}
use mathlib.Core.Bool.{Bool, true, false, cond}
use mathlib.Core.List.{List}
use lib.Dec.{eqb}
use lib.IntN.{ℤ, pos, nat_abs, ◌+ℤ◌, ◌-ℤ◌}
use lib.Ieee.{fits}
use Rattle.arithmetic.specs.declared.Marked.{Marked}
use Rattle.arithmetic.specs.Numbers.{plus_zero, one}
use Rattle.arithmetic.specs.Marks.{given, marked_add, marked_sub, marked_mul, marked_div}
use Rattle.arithmetic.proofs.MarkLaws.{Bears, Moves, add-bears, sub-bears, mul-bears, add-moves, sub-moves, mul-moves, div-moves}
use Rattle.algebra.specs.Fold.{fold}
use Rattle.algebra.specs.Kind.{marks, zero_of}
use Rattle.algebra.specs.Product.{at, sum, cell, product, transpose, minus_cells, times_number, over_number, identity}
use Rattle.algebra.proofs.FoldLaws.{fold-both}
use Rattle.algebra.proofs.MovingCells.{MovesCells, step-bears, nil-moves, constant-moves, table-moves, table-bears}

abbrev Matrix : Type 0
Matrix = List (List Marked)

module _ {t : ℕ} where
  -- ---- sums
  pub sum-bears : (n : ℕ) (f : ℕ → Marked) → Bears t (sum marks n f) → (k : ℕ) → k < n → Bears t (f k)
  unfolding sum
  sum-bears n f h k l =
      let s : ℕ → Marked → Marked = λ k s. marked_add s (f k) in
      (add-bears (fold 0 k s (zero_of marks)) (f k) (step-bears 0 n s (zero_of marks) (λ k b h. (add-bears b (f k) h).0) h k (omega arith) l)).1

  pub sum-moves : (u : ℤ) → nat_abs u ≤ t → (n : ℕ) (f f' : ℕ → Marked) → ((k : ℕ) → k < n → Moves t u (f k) (f' k))
      → Moves t u (sum marks n f) (sum marks n f')
  unfolding sum
  sum-moves u m n f f' p =
      fold-both (λ x y. Moves t u x y) 0 n (λ k s. marked_add s (f k)) (λ k s. marked_add s (f' k)) (zero_of marks) (zero_of marks) (nil-moves u)
      (λ k h l x y q. add-moves u m x (f k) y (f' k) q (p k l))

  -- ---- products
  pub cell-bears : (n : ℕ) (a b : Matrix) (i j : ℕ) → Bears t (cell marks n a b i j) → (k : ℕ) → k < n → Bears t (at marks a i k) × Bears t (at marks b k j)
  unfolding cell
  cell-bears n a b i j h k l = mul-bears (at marks a i k) (at marks b k j) (sum-bears n (λ k. marked_mul (at marks a i k) (at marks b k j)) h k l)

  pub cell-moves : (u v : ℤ) → nat_abs (u +ℤ v) ≤ t → (r n c : ℕ) (a b a' b' : Matrix) → MovesCells t u r n a a' → MovesCells t v n c b b' → (i j : ℕ) → i < r → j < c
      → Moves t (u +ℤ v) (cell marks n a b i j) (cell marks n a' b' i j)
  unfolding cell
  cell-moves u v m r n c a b a' b' p q i j h l =
      sum-moves (u +ℤ v) m n (λ k. marked_mul (at marks a i k) (at marks b k j)) (λ k. marked_mul (at marks a' i k) (at marks b' k j))
      (λ k o. mul-moves u v m (at marks a i k) (at marks b k j) (at marks a' i k) (at marks b' k j) (p.cell i k h o) (q.cell k j o l))

  -- the matrix operations are tables in R rows of C; r and c are the rows and columns of the result
  module _ (R C r c : ℕ) (hr : r ≤ R) (hc : c ≤ C) where
    -- the row and the column that a cell was made from
    pub product-bears : (n : ℕ) (a b : Matrix) (i j : ℕ) → i < r → j < c → Bears t (at marks (product marks R C r n c a b) i j)
        → (k : ℕ) → k < n → Bears t (at marks a i k) × Bears t (at marks b k j)
    unfolding product
    product-bears n a b i j h l x = cell-bears n a b i j (table-bears R C r c (cell marks n a b) hr hc i j h l x)

    pub product-moves : (u v : ℤ) → nat_abs (u +ℤ v) ≤ t → (n : ℕ) (a b a' b' : Matrix) → MovesCells t u r n a a' → MovesCells t v n c b b'
        → MovesCells t (u +ℤ v) r c (product marks R C r n c a b) (product marks R C r n c a' b')
    unfolding product
    product-moves u v m n a b a' b' p q =
        table-moves (u +ℤ v) R C r c (cell marks n a b) (cell marks n a' b') hr hc (cell-moves u v m r n c a b a' b' p q)

    pub transpose-moves : (u : ℤ) (a a' : Matrix) → MovesCells t u c r a a' → MovesCells t u r c (transpose marks R C c r a) (transpose marks R C c r a')
    unfolding transpose
    transpose-moves u a a' p = table-moves u R C r c (λ i j. at marks a j i) (λ i j. at marks a' j i) hr hc (λ i j h l. p.cell j i l h)

    -- cell by cell
    pub minus_cells-bears : (a b : Matrix) (i j : ℕ) → i < r → j < c → Bears t (at marks (minus_cells marks R C r c a b) i j)
        → Bears t (at marks a i j) × Bears t (at marks b i j)
    unfolding minus_cells
    minus_cells-bears a b i j h l x =
        sub-bears (at marks a i j) (at marks b i j) (table-bears R C r c (λ i j. marked_sub (at marks a i j) (at marks b i j)) hr hc i j h l x)

    pub minus_cells-moves : (u : ℤ) → nat_abs u ≤ t → (a b a' b' : Matrix) → MovesCells t u r c a a' → MovesCells t u r c b b'
        → MovesCells t u r c (minus_cells marks R C r c a b) (minus_cells marks R C r c a' b')
    unfolding minus_cells
    minus_cells-moves u m a b a' b' p q =
        table-moves u R C r c (λ i j. marked_sub (at marks a i j) (at marks b i j)) (λ i j. marked_sub (at marks a' i j) (at marks b' i j)) hr hc
        (λ i j h l. sub-moves u m (at marks a i j) (at marks b i j) (at marks a' i j) (at marks b' i j) (p.cell i j h l) (q.cell i j h l))

    -- by a number
    pub times_number-moves : (u v : ℤ) → nat_abs (u +ℤ v) ≤ t → (a a' : Matrix) (x x' : Marked) → MovesCells t u r c a a' → Moves t v x x'
        → MovesCells t (u +ℤ v) r c (times_number marks R C r c a x) (times_number marks R C r c a' x')
    unfolding times_number
    times_number-moves u v m a a' x x' p q =
        table-moves (u +ℤ v) R C r c (λ i j. marked_mul (at marks a i j) x) (λ i j. marked_mul (at marks a' i j) x') hr hc
        (λ i j h l. mul-moves u v m (at marks a i j) x (at marks a' i j) x' (p.cell i j h l) q)

    pub over_number-moves : (u v : ℤ) → nat_abs (u -ℤ v) ≤ t → (a a' : Matrix) (x x' : Marked) → MovesCells t u r c a a' → Moves t v x x'
        → MovesCells t (u -ℤ v) r c (over_number marks R C r c a x) (over_number marks R C r c a' x')
    unfolding over_number
    over_number-moves u v m a a' x x' p q =
        table-moves (u -ℤ v) R C r c (λ i j. marked_div (at marks a i j) x) (λ i j. marked_div (at marks a' i j) x') hr hc
        (λ i j h l. div-moves u v m (at marks a i j) x (at marks a' i j) x' (p.cell i j h l) q)

  -- the identity does not move
  pub identity-moves : (R C n : ℕ) → n ≤ R → n ≤ C → MovesCells t (pos 0) n n (identity marks R C n) (identity marks R C n)
  unfolding identity fits
  identity-moves R C n hr hc = table-moves (pos 0) R C n n one-or-nil one-or-nil hr hc (λ i j h l. go (eqb i j))
    where
      one-or-nil : ℕ → ℕ → Marked
      one-or-nil i j = cond (eqb i j) (given one) (given plus_zero)

      go : (b : Bool) → Moves t (pos 0) (cond b (given one) (given plus_zero)) (cond b (given one) (given plus_zero))
      go true = constant-moves one tt
      go false = constant-moves plus_zero tt
