-- Not needed to check document 01: names that join the code to its definitions.
-- The order of records as an order of whole numbers: a record's key holds its kind, its matrix's number, its row and its column, each in digits of its own.
use Rattle.std.specs.Prelude.{ℕ, zero, suc, ◌+◌, ◌*◌, Bool, List, ltb}
use Rattle.records.specs.format.File.{kind_of, row_of, column_of}
use Rattle.records.specs.format.Order.{matrix_of}

-- the key of record i
unfoldable pub key_of : List ℕ → ℕ → ℕ
key_of s i = kind_of s i * 281474976710656 + (matrix_of s i * 65536 + (row_of s i * 256 + column_of s i))

-- the least key that record i may have: one more than that of the record before it
unfoldable pub least_key : List ℕ → ℕ → ℕ
least_key s zero = 0
least_key s (suc i) = key_of s i + 1

-- record i does not rise above the record before it
unfoldable pub falls_at : List ℕ → ℕ → Bool
falls_at s i = ltb (key_of s i) (least_key s i)
