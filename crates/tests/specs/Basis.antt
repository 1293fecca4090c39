-- Document 01, `contrast_basis`: "M: each nonzero row divided by its largest magnitude. One row: done. Otherwise 30 sweeps over row pairs (x,y): g = x·y; if g ≠ 0,
-- z = (y·y − x·x)/(2g), t, c, s as above, x' = cx − sy, y' = sx + cy. Singular values are row norms, falling, ties by index, only the first min(rows, columns) of them; rank
-- counts those > 2^-52 × max(rows, columns) × largest; the basis is those rows divided by their norms."
use Rattle.std.specs.Prelude.{ℕ, ◌+◌, min, max, false, cond, List, [], eqb, get_or, set, negsuc, Float}
use Rattle.std.specs.Float.{nan, fin, binary64}
use Rattle.std.specs.Float.Ieee.{mul, div, lt}
use Rattle.arithmetic.specs.Numbers.{plus_zero, magnitude, is_zero, of_count}
use Rattle.arithmetic.specs.SquareRoot.{square_root}
use Rattle.algebra.specs.Fold.{fold}
use Rattle.algebra.specs.Table.{row, table}
use Rattle.algebra.specs.Kind.{Arith, zero_of, floats}
use Rattle.algebra.specs.Product.{at, sum}
use Rattle.algebra.specs.Jacobi.{ratio, tangent, cosine, sine, turned_first, turned_second}
use Rattle.algebra.specs.Small.{Rows, values, all_marks}
use Rattle.tests.specs.declared.Basis.{Basis}
use Rattle.tests.specs.Order.{index_at}

-- "its largest magnitude": that of a row of p cells, from +0
unfoldable pub largest : ℕ → List Float → Float
largest p xs = fold 0 p (λ j s. let v : Float = magnitude (get_or xs j nan) in cond (lt s v) v s) plus_zero

-- "each nonzero row divided by its largest magnitude": cell (i, j); a zero row stays. These divisions are the marked steps, the rest is on their values.
unfoldable pub divided_cell : {A : Type 0} → Arith A → ℕ → Rows → ℕ → ℕ → A
divided_cell {A} N p l i j =
    let scale : Float = largest p (get_or l i []) in
    let x : A = N.of (at floats l i j) in
    cond (lt plus_zero scale) (N.over x (N.of scale)) x

unfoldable pub divided : {A : Type 0} → Arith A → ℕ → ℕ → Rows → List (List A)
divided N rows p l = table (zero_of N) 6 6 rows p (divided_cell N p l)

-- "x·y", of rows i and j
unfoldable pub row_dot : ℕ → Rows → ℕ → ℕ → Float
row_dot p m i j = sum floats p (λ k. mul binary64 (at floats m i k) (at floats m j k))

-- "x' = cx − sy, y' = sx + cy": rows i and j turned; both come from the old two
unfoldable pub turn_rows : ℕ → ℕ → ℕ → Float → Float → Rows → Rows
turn_rows p i j c s m =
    set (set m i (row plus_zero 6 p (λ k. turned_first floats c s (at floats m i k) (at floats m j k)))) j (row plus_zero 6 p (λ k. turned_second floats c s (at floats m i k) (at floats m j k)))

-- "g = x·y; if g ≠ 0, z = (y·y − x·x)/(2g), t, c, s as above": the pair (i, j)
unfoldable pub turn_pair : ℕ → ℕ → ℕ → Rows → Rows
turn_pair p i j m =
    let g : Float = row_dot p m i j in
    let t : Float = tangent floats (ratio floats (row_dot p m i i) (row_dot p m j j) g) in
    let c : Float = cosine floats t in
    cond (is_zero g) m (turn_rows p i j c (sine floats t c) m)

-- the pairs of row i up to row k; the rows up to k of a sweep; k sweeps
unfoldable pub pairs_to : ℕ → ℕ → ℕ → Rows → Rows
pairs_to k p i m = fold (i + 1) k (λ j m. turn_pair p i j m) m

unfoldable pub sweep_to : ℕ → ℕ → ℕ → Rows → Rows
sweep_to k rows p m = fold 0 k (λ i m. pairs_to rows p i m) m

unfoldable pub sweeps_to : ℕ → ℕ → ℕ → Rows → Rows
sweeps_to k rows p m = fold 0 k (λ i m. sweep_to rows rows p m) m

-- "Singular values are row norms"
unfoldable pub norms : ℕ → ℕ → Rows → List Float
norms rows p m = row plus_zero 6 rows (λ i. square_root (row_dot p m i i))

-- "falling, ties by index": the one in place k, of all `rows`
unfoldable pub singular : ℕ → List Float → ℕ → Float
singular rows ns k = get_or ns (index_at rows ns k) nan

-- "2^-52 × max(rows, columns) × largest", associated left
unfoldable pub tolerance : ℕ → ℕ → List Float → Float
tolerance rows p ns = mul binary64 (mul binary64 (fin false 1 (negsuc 51)) (of_count (max rows p))) (singular rows ns 0)

-- "only the first min(rows, columns) of them; rank counts those >" the tolerance
unfoldable pub rank_of : ℕ → ℕ → List Float → ℕ
rank_of rows p ns = fold 0 (min rows p) (λ k s. cond (lt (tolerance rows p ns) (singular rows ns k)) (s + 1) s) 0

-- "the basis is those rows divided by their norms"
unfoldable pub basis_rows : ℕ → ℕ → ℕ → Rows → List Float → Rows
basis_rows rows p rank m ns = table plus_zero 6 6 rank p (λ k j. div binary64 (at floats m (index_at rows ns k) j) (singular rows ns k))

-- a basis: its rows, its rank, and a number whose mark counts every division of the contrast's rows. "One row: done. Otherwise 30 sweeps over row pairs (x,y)"
unfoldable pub contrast_basis : {A : Type 0} → Arith A → ℕ → ℕ → Rows → Basis A
contrast_basis {A} N rows p l =
    let d : List (List A) = divided N rows p l in
    let seen : A = all_marks N rows p d (zero_of N) in
    let m : Rows = sweeps_to 30 rows p (values N 6 6 rows p d) in
    let ns : List Float = norms rows p m in
    let rank : ℕ = rank_of rows p ns in
    cond (eqb rows 1) (record { rows = values N 6 6 rows p d; rank = 1; seen = seen }) (record { rows = basis_rows rows p rank m ns; rank = rank; seen = seen })
