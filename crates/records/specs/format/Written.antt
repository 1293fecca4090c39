-- Document 01: "Input: 16-byte records, no header .. Byte 0 kind; 1 row; 2 column; 3 zero; 4–7 count (little-endian); 8–15 f64 bits, little-endian." A record and a file as values: the bytes that
-- say what is given.
use Rattle.std.specs.Prelude.{ℕ, zero, suc, ◌*◌, Bool, cond, List, [], ◌∷◌, ◌++◌, take, drop}
use Rattle.records.specs.declared.Field.{Field}
use Rattle.records.specs.declared.Field.TheVariants.{Index, Number, Unused}
use Rattle.records.specs.declared.Kind.{Kind}
use Rattle.records.specs.format.Bytes.{bytes_of}
use Rattle.records.specs.format.Kinds.{Table, kind_at, kind_numbers, width}
use Rattle.records.specs.format.File.{count, kind_of}

-- one record: kind, row, column, count and f64 bits
abbrev pub record_of : ℕ → ℕ → ℕ → ℕ → ℕ → List ℕ
record_of kind row column count bits = kind ∷ row ∷ column ∷ 0 ∷ (bytes_of 4 count ++ bytes_of 8 bits)

-- what a cell's record says besides its place: the numbers of the fields that are numbers, as a block's k and m, and the value bits
pub record Content : Type 0 where
  pub count : ℕ
  pub row : ℕ
  pub column : ℕ
  pub bits : ℕ

-- a field of the record of a cell with this index: the index, the number, or 0 where it is unused
unfoldable pub field_of : Field → ℕ → ℕ → ℕ
field_of (Index limit) x number = x
field_of Number x number = number
field_of Unused x number = 0

-- the record of cell (n, r, c) of kind k
unfoldable pub cell_record : Kind → ℕ → ℕ → ℕ → ℕ → Content → List ℕ
cell_record z k n r c v = record_of k (field_of z.row r v.row) (field_of z.column c v.column) (field_of z.count n v.count) v.bits

-- lists one after another
unfoldable pub sequence : ℕ → (ℕ → List ℕ) → List ℕ
sequence zero f = []
sequence (suc n) f = sequence n f ++ f n

-- the records of a file whose kind passes, in their order, and record i of a file
abbrev pub record_at : List ℕ → ℕ → List ℕ
record_at s i = take 16 (drop (16 * i) s)

unfoldable pub records_of : (ℕ → Bool) → List ℕ → List ℕ
records_of passes s = sequence (count s) (λ i. cond (passes (kind_of s i)) (record_at s i) [])

-- all cells of a kind in order, count before row before column; and a file: the table's cells, kind after kind. What each cell says is given by kind, count, row and column.
unfoldable pub kind_file : Table → (ℕ → ℕ → ℕ → ℕ → Content) → ℕ → List ℕ
kind_file t f k =
    let z : Kind = kind_at t k in
    sequence (width z.count) (λ n. sequence (width z.row) (λ r. sequence (width z.column) (λ c. cell_record z k n r c (f k n r c))))

unfoldable pub file_of : Table → (ℕ → ℕ → ℕ → ℕ → Content) → List ℕ
file_of t f = sequence kind_numbers (kind_file t f)
