-- Document 02, "Req 01": "The panel now writes records by kind, then by the count where it numbers a matrix, then row and column. .. input must rise strictly in that order, read from the bytes as
-- they stand and alike in every call." One order of the records of a file s for every call: no table of kinds is asked, the row and column bytes count also where a kind leaves them unused, byte 3
-- and the value bytes never do.
use Rattle.std.specs.Prelude.{ℕ, ◌+◌, ◌-◌, Bool, not, ◌&&◌, ◌||◌, cond, List, [], ◌∷◌, eqb, ltb}
use Rattle.records.specs.format.Scan.{any}
use Rattle.records.specs.format.File.{count, kind_of, row_of, column_of, count_of}
use Rattle.records.specs.format.KindNumbers.{kind_scaled_p, kind_archived_p, kind_jacobian}

-- "where it numbers a matrix": the count of a Jacobian; and "Req 02": "13 P (the count field is its index)", and 17, P in residual units. A block's count is its groups, and numbers nothing.
unfoldable pub numbers_matrix : ℕ → Bool
numbers_matrix kind = eqb kind kind_jacobian || eqb kind kind_scaled_p || eqb kind kind_archived_p

-- the number of record i's matrix, 0 where its count numbers none
unfoldable pub matrix_of : List ℕ → ℕ → ℕ
matrix_of s i = cond (numbers_matrix (kind_of s i)) (count_of s i) 0

-- one field decides, and the rest where it is the same: "by .., then by .."
abbrev pub then_by : ℕ → ℕ → Bool → Bool
then_by x y rest = ltb x y || (eqb x y && rest)

-- record i stands before record j: "by kind, then by the count where it numbers a matrix, then row and column"
unfoldable pub stands_before : List ℕ → ℕ → ℕ → Bool
stands_before s i j = then_by (kind_of s i) (kind_of s j) (then_by (matrix_of s i) (matrix_of s j) (then_by (row_of s i) (row_of s j) (ltb (column_of s i) (column_of s j))))

-- "a file whose neighbouring records don't rise": two that are equal in this order don't
unfoldable pub falls : List ℕ → Bool
falls s = any (count s - 1) (λ i. not (stands_before s i (i + 1)))

-- 12: "It refuses with 12 a file whose neighbouring records don't rise"
unfoldable pub order_reasons : List ℕ → List (ℕ × Bool)
order_reasons s = (12, falls s) ∷ []
