-- Sums and products. Document 01: "Dot products and sums: from +0, left to right, row after row. Chained products associate left."
-- R and C are the rows and columns that a matrix is stored with; zeros stand past the sizes in use.
use Rattle.std.specs.Prelude.{ℕ, cond, List, [], eqb, get_or}
use Rattle.arithmetic.specs.Numbers.{one}
use Rattle.algebra.specs.Fold.{fold}
use Rattle.algebra.specs.Table.{table}
use Rattle.algebra.specs.Kind.{Arith, zero_of}

module _ {A : Type 0} (N : Arith A) where
  -- cell (i, j)
  abbrev pub at : List (List A) → ℕ → ℕ → A
  at m i j = get_or (get_or m i []) j N.void

  -- f 0 + .. + f (n - 1), from +0, left to right
  unfoldable pub sum : ℕ → (ℕ → A) → A
  sum n f = fold 0 n (λ k s. N.plus s (f k)) (zero_of N)

  -- row i of a times column j of b, over n inner indices
  unfoldable pub cell : ℕ → List (List A) → List (List A) → ℕ → ℕ → A
  cell n a b i j = sum n (λ k. N.times (at a i k) (at b k j))

  -- a, r by n, times b, n by c
  unfoldable pub product : ℕ → ℕ → ℕ → ℕ → ℕ → List (List A) → List (List A) → List (List A)
  product R C r n c a b = table (zero_of N) R C r c (cell n a b)

  -- aᵀ, for a of r rows and c columns
  unfoldable pub transpose : ℕ → ℕ → ℕ → ℕ → List (List A) → List (List A)
  transpose R C r c a = table (zero_of N) R C c r (λ i j. at a j i)

  -- the sum of f i j over r rows and c columns, row after row, with one running sum
  unfoldable pub sum_cells : ℕ → ℕ → (ℕ → ℕ → A) → A
  sum_cells r c f = fold 0 r (λ i s. fold 0 c (λ j s. N.plus s (f i j)) s) (zero_of N)

  -- document 01: "cells(A, B) sums the products of like cells"
  unfoldable pub like_cells : ℕ → ℕ → List (List A) → List (List A) → A
  like_cells r c a b = sum_cells r c (λ i j. N.times (at a i j) (at b i j))

  -- tr a
  unfoldable pub trace : ℕ → List (List A) → A
  trace n a = sum n (λ i. at a i i)

  -- a + b, a - b, and a times the number x, cell by cell
  unfoldable pub plus_cells : ℕ → ℕ → ℕ → ℕ → List (List A) → List (List A) → List (List A)
  plus_cells R C r c a b = table (zero_of N) R C r c (λ i j. N.plus (at a i j) (at b i j))

  unfoldable pub minus_cells : ℕ → ℕ → ℕ → ℕ → List (List A) → List (List A) → List (List A)
  minus_cells R C r c a b = table (zero_of N) R C r c (λ i j. N.minus (at a i j) (at b i j))

  unfoldable pub times_number : ℕ → ℕ → ℕ → ℕ → List (List A) → A → List (List A)
  times_number R C r c a x = table (zero_of N) R C r c (λ i j. N.times (at a i j) x)

  unfoldable pub over_number : ℕ → ℕ → ℕ → ℕ → List (List A) → A → List (List A)
  over_number R C r c a x = table (zero_of N) R C r c (λ i j. N.over (at a i j) x)

  -- the identity of n rows
  unfoldable pub identity : ℕ → ℕ → ℕ → List (List A)
  identity R C n = table (zero_of N) R C n n (λ i j. cond (eqb i j) (N.of one) (zero_of N))
