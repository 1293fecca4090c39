-- Not needed to check document 01: names that join the code to its definitions.
-- Where the reader keeps what a file says: a slot for each cell that the file's sizes leave its kinds, in the order of Cells.antt of records. The lent flags and the lent sheet may have more than these.
use Rattle.std.specs.Prelude.{ℕ, ◌+◌, ◌≤◌, Bool, true, false, not, ◌&&◌, List, set, replicate, get_or, Float}
use Rattle.arithmetic.specs.Numbers.{plus_zero}
use Rattle.algebra.specs.Fold.{fold}
use Rattle.algebra.specs.Table.{row}
use Rattle.records.specs.declared.Sizes.{Sizes}
use Rattle.records.specs.format.Scan.{any}
use Rattle.records.specs.format.Kinds.{Table, kind_at}
use Rattle.records.specs.format.Cells.{slots, first_slot, slot}
use Rattle.records.specs.format.File.{kind_of, cell_row, cell_column, cell_count, value_of}

-- sizes that a byte can name
pub record Small (z : Sizes) : Type 0 where
  pub specimens : z.specimens ≤ 256
  pub coefficients : z.coefficients ≤ 256
  pub columns : z.columns ≤ 256
  pub blocks : z.blocks ≤ 256
  pub thetas : z.thetas ≤ 256
  pub contrasts : z.contrasts ≤ 256
  pub parameters : z.parameters ≤ 256

-- the first slot of each kind, and after them the number of all slots
unfoldable pub first_slots : Table → List ℕ
first_slots t = row 0 34 34 (first_slot t)

-- the slot of the cell that record i names
abbrev pub slot_of : Table → List ℕ → ℕ → ℕ
slot_of t s i = slot t (kind_of s i) (cell_count t s i) (cell_row t s i) (cell_column t s i)

-- N flags, and N numbers, after the first n records: a flag at each slot whose cell one of them names, and the value that the last of those has
unfoldable pub flags_after : ℕ → Table → List ℕ → ℕ → List Bool
flags_after N t s n = fold 0 n (λ i fs. set fs (slot_of t s i) true) (replicate N false)

unfoldable pub sheet_after : ℕ → Table → List ℕ → ℕ → List Float
sheet_after N t s n = fold 0 n (λ i xs. set xs (slot_of t s i) (value_of s i)) (replicate N plus_zero)

-- one of the m flags from a place on is not set; and kind k misses one of its cells
unfoldable pub gap : List Bool → ℕ → ℕ → Bool
gap flags at m = any m (λ j. not (get_or flags (at + j) false))

unfoldable pub missing_in : Table → List Bool → ℕ → Bool
missing_in t flags k = not (kind_at t k).sparse && gap flags (first_slot t k) (slots (kind_at t k))
