-- The cells of a table in order, kind after kind, count after count, row after row: how many there are, and which number each has. A file that names every cell in this order has cell after cell
-- as record after record (Written.antt), and the reader keeps a slot for each.
use Rattle.std.specs.Prelude.{ℕ, ◌+◌, ◌*◌}
use Rattle.records.specs.declared.Kind.{Kind}
use Rattle.records.specs.format.Scan.{total}
use Rattle.records.specs.format.Kinds.{Table, kind_at, kind_numbers, width}

-- how many cells a kind has
unfoldable pub slots : Kind → ℕ
slots z = width z.count * width z.row * width z.column

-- the cells of the kinds before kind k, and of all
unfoldable pub first_slot : Table → ℕ → ℕ
first_slot t k = total k (λ j. slots (kind_at t j))

abbrev pub slot_count : Table → ℕ
slot_count t = first_slot t kind_numbers

-- a cell's place among those of its kind, and among all
unfoldable pub offset : Kind → ℕ → ℕ → ℕ → ℕ
offset z n r c = (n * width z.row + r) * width z.column + c

unfoldable pub slot : Table → ℕ → ℕ → ℕ → ℕ → ℕ
slot t k n r c = first_slot t k + offset (kind_at t k) n r c
