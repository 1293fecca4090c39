-- Demand 3 begins with the reading: a converted file is read as the file is, with the same sizes, the same cells but for the scaled ones, and the same refusals. One statement over any change and any
-- tables of kinds: `limit`, what a call's records may name at all, and `sized`, what sizes leave each kind.
use Rattle.std.specs.Prelude.{ℕ, ◌<◌, ◌≡◌, Bool, true, false, ◌||◌, cond, List, T, ℤ, neg_ℤ}
use Rattle.std.specs.Float.{binary64}
use Rattle.std.specs.Float.Ieee.{fits}
use Rattle.arithmetic.specs.Scale.{scale}
use Rattle.records.specs.declared.Field.{Field}
use Rattle.records.specs.declared.Field.TheVariants.{Index, Number, Unused}
use Rattle.records.specs.declared.Value.TheVariants.{Float}
use Rattle.records.specs.declared.Kind.{Kind}
use Rattle.records.specs.format.Scan.{any}
use Rattle.records.specs.format.Kinds.{Table, kind_at}
use Rattle.records.specs.format.File.{count, kind_of, row_of, column_of, count_of, value_of, cell, rows, columns, present, beyond, not_finite, length_reasons, form_reasons}
use Rattle.records.specs.format.Alike.{Alike}
use Rattle.records.specs.format.Order.{falls}
use Rattle.converter.specs.Converted.{Change, rewritten, converted}

-- ---- the powers of a change
-- the power of two by which it scales a value of kind k, count n, row r and column c where nothing is rounded: the shift, negated where it divides; and that of record i
abbrev pub moves : Change → ℕ → ℕ → ℕ → ℕ → ℤ
moves g k n r c = cond (g.divides k) (neg_ℤ (g.shift k n r c)) (g.shift k n r c)

abbrev pub moves_record : Change → List ℕ → ℕ → ℤ
moves_record g s i = moves g (kind_of s i) (count_of s i) (row_of s i) (column_of s i)

-- each value that it rewrites is, scaled, an f64 number again
pub record Exact (g : Change) (s : List ℕ) : Type 0 where
  pub again : (i : ℕ) → i < count s → g.rewrites (kind_of s i) ≡ true → T (fits binary64 (scale (moves_record g s i) (value_of s i)))

-- it rewrites f64 bits alone: no kind whose value is a number in the first byte
abbrev pub OnFloats : Change → Table → Type 0
OnFloats g limit = (k : ℕ) → g.rewrites k ≡ true → (kind_at limit k).value ≡ Float

-- ---- two files
-- a kind with a field that is a number, as a block's k and m, and so no part of a cell's name
unfoldable pub is_number : Field → Bool
is_number (Index limit) = false
is_number Number = true
is_number Unused = false

abbrev pub numbered : Kind → Bool
numbered z = is_number z.count || is_number z.row || is_number z.column

-- s' is read as s is, but for what the change scales
pub record ReadAlike (g : Change) (limit sized : Table) (s s' : List ℕ) : Type 0 where
  pub alike : Alike s s'
  -- the sizes
  pub same_count : count s' ≡ count s
  pub same_rows : (k : ℕ) → rows s' k ≡ rows s k
  pub same_columns : (k : ℕ) → columns s' k ≡ columns s k
  pub same_present : (k : ℕ) → present s' k ≡ present s k
  -- the refusals
  pub same_length : length_reasons s' ≡ length_reasons s
  -- it rises exactly where the file does
  pub same_order : falls s' ≡ falls s
  pub same_form : form_reasons limit sized s' ≡ form_reasons limit sized s
  pub same_finite : Exact g s → any (count s') (not_finite s') ≡ any (count s) (not_finite s)
  -- the cells of a kind that is not rewritten
  pub kept_cell : (k n r c : ℕ) → g.rewrites k ≡ false → cell sized s' k n r c ≡ cell sized s k n r c
  -- and of one that is, where no record lies beyond the sizes, so that a record's own fields are the indices of its cell: what the change makes of the number, and under `Exact` the number scaled
  pub new_cell : any (count s) (beyond sized s) ≡ false → (k n r c : ℕ) → g.rewrites k ≡ true → numbered (kind_at sized k) ≡ false
      → cell sized s' k n r c ≡ rewritten g k n r c (cell sized s k n r c)
  pub scaled_cell : Exact g s → any (count s) (beyond sized s) ≡ false → (k n r c : ℕ) → g.rewrites k ≡ true → numbered (kind_at sized k) ≡ false
      → cell sized s' k n r c ≡ scale (moves g k n r c) (cell sized s k n r c)

-- A CONVERTED FILE IS READ ALIKE, for every change, every table and every file
abbrev pub ConvertedReadsAlike : Type 0
ConvertedReadsAlike = (g : Change) (limit sized : Table) (s : List ℕ) → OnFloats g limit → ReadAlike g limit sized s (converted g s)
