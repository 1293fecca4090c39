-- Document 01: "Cholesky, lower, column by column: from the entry subtract products by rising index; the diagonal must be > 0."
use Rattle.std.specs.Prelude.{ℕ, ◌+◌, Bool, true, false, not, cond, ◌||◌, List, [], ltb, get_or, set}
use Rattle.std.specs.Float.Ieee.{lt}
use Rattle.arithmetic.specs.Numbers.{plus_zero}
use Rattle.algebra.specs.Fold.{fold}
use Rattle.algebra.specs.Table.{table}
use Rattle.algebra.specs.Kind.{Arith, zero_of}
use Rattle.algebra.specs.Product.{at}

module _ {A : Type 0} (N : Arith A) where
  -- m with v in cell (i, j)
  unfoldable pub put : ℕ → ℕ → A → List (List A) → List (List A)
  put i j v m = set m i (set (get_or m i []) j v)

  -- cell (i, j) less the products of rows i and j in the columns below hi, by rising index
  unfoldable pub less_dot : ℕ → List (List A) → ℕ → ℕ → A
  less_dot hi m i j = fold 0 hi (λ k s. N.minus s (N.times (at N m i k) (at N m j k))) (at N m i j)

  -- the cells of column j below the diagonal cell, which is d
  unfoldable pub below_diagonal : ℕ → ℕ → A → List (List A) → List (List A)
  below_diagonal n j d m = fold (j + 1) n (λ i m. put i j (N.over (less_dot j m i j) d) m) m

  unfoldable pub cholesky_column : ℕ → ℕ → List (List A) → List (List A)
  cholesky_column n j m = let d : A = N.root (less_dot j m j j) in below_diagonal n j d (put j j d m)

  -- the first k columns, in the place of the matrix that is factored
  unfoldable pub cholesky_to : ℕ → ℕ → List (List A) → List (List A)
  cholesky_to k n m = fold 0 k (λ j m. cholesky_column n j m) m

  -- the diagonal entry of column j, before its root is taken, is not > 0 (a NaN is not)
  unfoldable pub not_positive : ℕ → List (List A) → Bool
  not_positive j m = not (lt plus_zero (N.value (less_dot j m j j)))

  -- refused: in some column the diagonal is not > 0
  unfoldable pub cholesky_refused : ℕ → ℕ → List (List A) → Bool
  cholesky_refused k n m = fold 0 k (λ j z. z || not_positive j (cholesky_to j n m)) false

  -- the lower half, with zeros above the diagonal
  unfoldable pub lower : ℕ → ℕ → ℕ → List (List A) → List (List A)
  lower R C n m = table (zero_of N) R C n n (λ i j. cond (ltb i j) (zero_of N) (at N m i j))
