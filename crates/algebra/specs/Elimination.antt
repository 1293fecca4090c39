-- Elimination of A X = B. Document 01: "in column c the pivot is the largest magnitude in rows c and below, replaced only by a strictly larger one; zero pivot
-- refuses. Lower rows subtract factor × pivot row, right of c and in B only. Back substitution subtracts known terms by rising index, then divides. Inverse: B = identity."
-- A and B stand side by side in one matrix m of n rows: the n columns of A, then those of B, w columns in all. "right of c and in B" is then one range of columns.
use Rattle.std.specs.Prelude.{ℕ, ◌+◌, ◌-◌, Bool, true, false, cond, ◌||◌, List, [], ltb, get_or, set}
use Rattle.arithmetic.specs.Numbers.{is_zero, is_larger}
use Rattle.algebra.specs.Fold.{fold, span}
use Rattle.algebra.specs.Table.{table, row, blank}
use Rattle.algebra.specs.Kind.{Arith, zero_of}
use Rattle.algebra.specs.Product.{at, identity}

-- a run that stops: the matrix so far, and whether a zero pivot was met
pub record Stopping (A : Type 0) : Type 0 where
  pub rows : List (List A)
  pub refused : Bool

module _ {A : Type 0} (N : Arith A) where
  -- of rows best and r, that with the larger magnitude in column c; best where neither is strictly larger
  unfoldable pub larger : List (List A) → ℕ → ℕ → ℕ → ℕ
  larger m c r best = cond (is_larger (N.value (at N m r c)) (N.value (at N m best c))) r best

  -- the row of the pivot of column c, among the rows c to n - 1
  unfoldable pub pivot_row : ℕ → ℕ → List (List A) → ℕ
  pivot_row n c m = fold (c + 1) n (λ r best. larger m c r best) c

  -- rows i and j change places
  unfoldable pub swap_rows : ℕ → ℕ → List (List A) → List (List A)
  swap_rows i j m = set (set m i (get_or m j [])) j (get_or m i [])

  -- what a lower row is multiplied with: its cell in column c over the pivot
  unfoldable pub factor : ℕ → List A → List A → A
  factor c pivots lower = N.over (get_or lower c N.void) (get_or pivots c N.void)

  -- the lower row less f times the pivot row, right of c
  unfoldable pub less_by : ℕ → ℕ → A → List A → List A → List A
  less_by w c f pivots lower = span (c + 1) w (λ j. N.minus (get_or lower j N.void) (N.times f (get_or pivots j N.void))) lower

  abbrev pub less_row : ℕ → ℕ → List A → List A → List A
  less_row w c pivots lower = less_by w c (factor c pivots lower) pivots lower

  -- the rows below c less their factors times row c
  unfoldable pub cleared : ℕ → ℕ → ℕ → List (List A) → List (List A)
  cleared n w c m = span (c + 1) n (λ r. less_row w c (get_or m c []) (get_or m r [])) m

  -- column c eliminated: the pivot's row is brought to row c, and the rows below are cleared
  unfoldable pub eliminate_column : ℕ → ℕ → ℕ → List (List A) → List (List A)
  eliminate_column n w c m = cleared n w c (swap_rows c (pivot_row n c m) m)

  -- the first k columns eliminated, whatever the pivots
  unfoldable pub eliminate_to : ℕ → ℕ → ℕ → List (List A) → List (List A)
  eliminate_to k n w m = fold 0 k (λ c m. eliminate_column n w c m) m

  -- the pivot of column c is zero: +0 or -0, and no NaN
  unfoldable pub zero_pivot : ℕ → ℕ → List (List A) → Bool
  zero_pivot n c m = is_zero (N.value (at N m (pivot_row n c m) c))

  -- column c, unless the run was refused before; a zero pivot refuses in the column in which it is met
  unfoldable pub column_or_stop : ℕ → ℕ → ℕ → Stopping A → Stopping A
  column_or_stop n w c s =
      cond s.refused s (cond (zero_pivot n c s.rows) (record { rows = s.rows; refused = true }) (record { rows = eliminate_column n w c s.rows; refused = false }))

  unfoldable pub stopping : ℕ → ℕ → ℕ → List (List A) → Stopping A
  stopping k n w m = fold 0 k (λ c s. column_or_stop n w c s) (record { rows = m; refused = false })

  -- cell (i, k) of B less the known terms of the columns below hi, by rising index
  unfoldable pub back_sum : ℕ → ℕ → List (List A) → List (List A) → ℕ → ℕ → A
  back_sum n hi m x i k = fold (i + 1) hi (λ j s. N.minus s (N.times (at N m i j) (at N x j k))) (at N m i (n + k))

  -- cell (i, k) of X, from the rows of X below i
  unfoldable pub back_cell : ℕ → List (List A) → List (List A) → ℕ → ℕ → A
  back_cell n m x i k = N.over (back_sum n n m x i k) (at N m i i)

  -- the last d rows of X, from the last; X is stored in R rows of C
  unfoldable pub back_to : ℕ → ℕ → ℕ → ℕ → ℕ → List (List A) → List (List A)
  back_to d R C n cols m = fold 0 d (λ d x. set x (n - 1 - d) (row (zero_of N) C cols (back_cell n m x (n - 1 - d)))) (blank (zero_of N) R C)

  -- A and B side by side, in R rows of C: n columns of a, then cols of b
  unfoldable pub joined : ℕ → ℕ → ℕ → ℕ → List (List A) → List (List A) → List (List A)
  joined R C n cols a b = table (zero_of N) R C n (n + cols) (λ i j. cond (ltb j n) (at N a i j) (at N b i (j - n)))

  -- whether A X = B is refused, and X where it is not. X is stored in R rows of C, and A beside B in R rows of W.
  unfoldable pub refused : ℕ → ℕ → ℕ → ℕ → List (List A) → List (List A) → Bool
  refused R W n cols a b = (stopping n n (n + cols) (joined R W n cols a b)).refused

  unfoldable pub solution : ℕ → ℕ → ℕ → ℕ → ℕ → List (List A) → List (List A) → List (List A)
  solution R W C n cols a b = back_to n R C n cols (eliminate_to n n (n + cols) (joined R W n cols a b))

  -- the inverse: B = identity
  abbrev pub inverse : ℕ → ℕ → ℕ → ℕ → List (List A) → List (List A)
  inverse R W C n a = solution R W C n n a (identity N R C n)

  abbrev pub inverse_refused : ℕ → ℕ → ℕ → ℕ → List (List A) → Bool
  inverse_refused R W C n a = refused R W n n a (identity N R C n)
