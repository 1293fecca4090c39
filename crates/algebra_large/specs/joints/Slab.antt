-- Not needed to check document 01: names that join the code to its definitions.
-- Large matrices of f64 in one list: cell (i, j) of the matrix at a with row stride s is element a + i * s + j.
-- Document 01: "Dot products and sums: from +0, left to right, row after row." The algorithms are those of crates/algebra/specs.
use Rattle.std.specs.Prelude.{ℕ, ◌+◌, ◌*◌, ◌≤◌, Bool, false, ◌||◌, List, ◌⊎◌, get_or, set, Float}
use Rattle.std.specs.Float.{nan}
use Rattle.arithmetic.specs.Numbers.{is_zero}
use Rattle.algebra.specs.Fold.{fold}
use Rattle.algebra.specs.Table.{table}
use Rattle.algebra.specs.Kind.{floats}
use Rattle.algebra.specs.Product.{at, product, transpose}

-- the r rows of c columns of the matrix at a, as a list of rows
unfoldable pub rows_at : ℕ → ℕ → ℕ → ℕ → List Float → List (List Float)
rows_at s a r c xs = table nan r c r c (λ i j. get_or xs (a + i * s + j) nan)

-- the c cells from d on replaced by f
unfoldable pub put_row : ℕ → ℕ → (ℕ → Float) → List Float → List Float
put_row d c f xs = fold 0 c (λ j ys. set ys (d + j) (f j)) xs

-- the cells (i, j) of the matrix at a, i < r and j < c, replaced by those of m, row after row
unfoldable pub put_rows : ℕ → ℕ → ℕ → ℕ → List (List Float) → List Float → List Float
put_rows s a r c m xs = fold 0 r (λ i ys. put_row (a + i * s) c (λ j. at floats m i j) ys) xs

-- the matrix at a lies in a list of len: a row's cells fit the stride, and the last row's lie in the list
pub record Holds (s a r c len : ℕ) : Type 0 where
  pub wide : c ≤ s
  pub fits : a + r * s + c ≤ len + s

-- n elements from a on and m elements from b on have none in common: one part ends before the other starts.
-- The r rows of the matrix at a with stride s are the r * s elements from a on.
pub record Apart (a n b m : ℕ) : Type 0 where
  pub apart : (a + n ≤ b) ⊎ (b + m ≤ a)

-- document 01: "Σ = sum of factor × G", one term of it: d gains f × p, cell by cell
unfoldable pub gained : ℕ → ℕ → List (List Float) → Float → List (List Float) → List (List Float)
gained r c d f p = table nan r c r c (λ i j. floats.plus (at floats d i j) (floats.times f (at floats p i j)))

-- xᵀ x, for x of n rows and c columns
unfoldable pub gram_of : ℕ → ℕ → List (List Float) → List (List Float)
gram_of n c x = product floats c c c n c (transpose floats c n n c x) x

-- document 01: "zero pivot refuses": after elimination the pivots stand on the diagonal; some one of the first n is +0 or -0
unfoldable pub zero_on_diagonal : ℕ → List (List Float) → Bool
zero_on_diagonal n m = fold 0 n (λ c z. z || is_zero (at floats m c c)) false
