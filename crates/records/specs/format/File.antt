-- Document 01: "Input: 16-byte records, no header, in any order. Byte 0 kind; 1 row; 2 column; 3 zero; 4–7 count (little-endian); 8–15 f64 bits, little-endian." The order that document 02 asks of them is Order.antt's.
-- The records of a file s, a list of bytes: record i stands at bytes 16 i to 16 i + 15. t is a table of the kinds that a call reads.
use Rattle.std.specs.Prelude.{ℕ, ◌+◌, ◌*◌, ◌/◌, ◌%◌, Bool, not, ◌&&◌, ◌||◌, cond, List, [], ◌∷◌, eqb, length, Float}
use Rattle.std.specs.Float.{binary64}
use Rattle.std.specs.Float.Ieee.{of_bits}
use Rattle.arithmetic.specs.Numbers.{plus_zero, is_finite}
use Rattle.records.specs.declared.Kind.{Kind}
use Rattle.records.specs.format.Bytes.{byte, word, long}
use Rattle.records.specs.format.Scan.{any, most, last}
use Rattle.records.specs.format.Kinds.{Table, kind_at, kind_numbers, holds, width, index_of, value_holds}

abbrev pub count : List ℕ → ℕ
count s = length s / 16

abbrev pub kind_of : List ℕ → ℕ → ℕ
kind_of s i = byte s (16 * i)

abbrev pub row_of : List ℕ → ℕ → ℕ
row_of s i = byte s (16 * i + 1)

abbrev pub column_of : List ℕ → ℕ → ℕ
column_of s i = byte s (16 * i + 2)

abbrev pub padding_of : List ℕ → ℕ → ℕ
padding_of s i = byte s (16 * i + 3)

abbrev pub count_of : List ℕ → ℕ → ℕ
count_of s i = word s (16 * i + 4)

abbrev pub bits_of : List ℕ → ℕ → ℕ
bits_of s i = long s (16 * i + 8)

-- "The first of the eight value bytes"
abbrev pub first_value_of : List ℕ → ℕ → ℕ
first_value_of s i = byte s (16 * i + 8)

abbrev pub value_of : List ℕ → ℕ → Float
value_of s i = of_bits binary64 (bits_of s i)

-- record i lies outside what its kind has: a field that does not hold what the kind says
unfoldable pub out_of : Kind → List ℕ → ℕ → Bool
out_of k s i = not (holds k.row (row_of s i)) || not (holds k.column (column_of s i)) || not (holds k.count (count_of s i))

-- "bad kind, nonzero unused field, index past a limit": byte 3 is unused in every kind
unfoldable pub bad_record : Table → List ℕ → ℕ → Bool
bad_record t s i = let k : Kind = kind_at t (kind_of s i) in out_of k s i || not (eqb (padding_of s i) 0) || not (value_holds k.value (bits_of s i))

-- A cell is named by its kind and by the fields that are indices, any other being 0: the count, row and column that record i names.
abbrev pub cell_count : Table → List ℕ → ℕ → ℕ
cell_count t s i = index_of (kind_at t (kind_of s i)).count (count_of s i)

abbrev pub cell_row : Table → List ℕ → ℕ → ℕ
cell_row t s i = index_of (kind_at t (kind_of s i)).row (row_of s i)

abbrev pub cell_column : Table → List ℕ → ℕ → ℕ
cell_column t s i = index_of (kind_at t (kind_of s i)).column (column_of s i)

-- record i names the cell of kind k, count n, row r and column c
unfoldable pub is_cell : Table → List ℕ → ℕ → ℕ → ℕ → ℕ → ℕ → Bool
is_cell t s k n r c i = eqb (kind_of s i) k && eqb (cell_row t s i) r && eqb (cell_count t s i) n && eqb (cell_column t s i) c

-- "cell twice": an earlier record names record i's cell
unfoldable pub again : Table → List ℕ → ℕ → Bool
again t s i = any i (is_cell t s (kind_of s i) (cell_count t s i) (cell_row t s i) (cell_column t s i))

-- some record names the cell; the number in it, +0 where none does
unfoldable pub has : Table → List ℕ → ℕ → ℕ → ℕ → ℕ → Bool
has t s k n r c = any (count s) (is_cell t s k n r c)

unfoldable pub cell : Table → List ℕ → ℕ → ℕ → ℕ → ℕ → Float
cell t s k n r c = last (count s) (is_cell t s k n r c) (value_of s) plus_zero

-- one more than the largest row and column of a kind's records; 0 where it has none
unfoldable pub rows : List ℕ → ℕ → ℕ
rows s k = most (count s) (λ i. cond (eqb (kind_of s i) k) (row_of s i + 1) 0)

unfoldable pub columns : List ℕ → ℕ → ℕ
columns s k = most (count s) (λ i. cond (eqb (kind_of s i) k) (column_of s i + 1) 0)

-- some record is of the kind
abbrev pub present : List ℕ → ℕ → Bool
present s k = not (eqb (rows s k) 0)

-- "beyond the sizes": t is the table at the file's sizes
unfoldable pub beyond : Table → List ℕ → ℕ → Bool
beyond t s i = out_of (kind_at t (kind_of s i)) s i

-- "missing": a cell that the sizes leave kind k, and no record names; where "absent is 0" none is
unfoldable pub missing : Table → List ℕ → ℕ → Bool
missing t s k =
    let z : Kind = kind_at t k in not z.sparse && any (width z.count) (λ n. any (width z.row) (λ r. any (width z.column) (λ c. not (has t s k n r c))))

-- record i's value is not finite; a number in the first byte, read as f64 bits, is a finite one
unfoldable pub not_finite : List ℕ → ℕ → Bool
not_finite s i = not (is_finite (value_of s i))

-- ---- the refusals that any call makes of its file, by the table of what its kinds may name and the table at the file's sizes
-- 2, "length not a multiple of 16"
unfoldable pub length_reasons : List ℕ → List (ℕ × Bool)
length_reasons s = (2, not (eqb (length s % 16) 0)) ∷ []

-- 2, "bad kind, nonzero unused field, index past a limit, cell twice, missing or beyond the sizes"
unfoldable pub form_reasons : Table → Table → List ℕ → List (ℕ × Bool)
form_reasons limit sized s =
    (2, any (count s) (bad_record limit s))
    ∷ (2, any (count s) (again sized s))
    ∷ (2, any kind_numbers (missing sized s))
    ∷ (2, any (count s) (beyond sized s))
    ∷ []
