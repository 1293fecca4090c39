-- Not needed to check document 01: names that join the code to its definitions.
-- What is lent for the reading of a series with the limit of specimens w, and what it holds once the series is read.
use Rattle.std.specs.Prelude.{ℕ, ◌≤◌, ◌≡◌, Bool, false, List, length, replicate, Float}
use Rattle.arithmetic.specs.Numbers.{plus_zero}
use Rattle.records.specs.declared.Sizes.{Sizes}
use Rattle.records.specs.format.Kinds.{kenward_roger}
use Rattle.records.specs.format.Cells.{slot_count}
use Rattle.records.specs.format.File.{count}
use Rattle.records.specs.readers.Series.{refusal, sizes, kinds}
use Rattle.records_sheet.specs.joints.Sheet.{first_slots, sheet_after}
use Rattle.records_torn.specs.joints.Packed.{short_sheet}

-- flags that are all clear and a sheet that is all +0, each with a slot for every cell that the limits allow; w is a number of specimens that a byte can name
pub record Room (w : ℕ) (flags : List Bool) (sheet : List Float) : Type 0 where
  pub some : 1 ≤ w
  pub most : w ≤ 256
  pub clear : flags ≡ replicate (length flags) false
  pub blank : sheet ≡ replicate (length sheet) plus_zero
  pub flagged : slot_count (kenward_roger w) ≤ length flags
  pub written : slot_count (kenward_roger w) ≤ length sheet

-- a series that the reader takes: its sizes, where each kind starts, and its numbers
pub record SeriesRead (w : ℕ) (s : List ℕ) (z : Sizes) (firsts : List ℕ) (sheet : List Float) : Type 0 where
  pub some : 1 ≤ w
  pub most : w ≤ 256
  pub taken : refusal w s ≡ 0
  pub sized : z ≡ sizes s
  pub starts : firsts ≡ first_slots (kinds s)
  pub numbers : sheet ≡ sheet_after (length sheet) (kinds s) s (count s)
  pub written : slot_count (kenward_roger w) ≤ length sheet

-- the same once its torn specimens are left out on the sheet
pub record SeriesShort (w : ℕ) (s : List ℕ) (z : Sizes) (firsts : List ℕ) (sheet : List Float) : Type 0 where
  pub some : 1 ≤ w
  pub most : w ≤ 256
  pub taken : refusal w s ≡ 0
  pub sized : z ≡ sizes s
  pub starts : firsts ≡ first_slots (kinds s)
  pub numbers : sheet ≡ short_sheet (sizes s) (sheet_after (length sheet) (kinds s) s (count s))
  pub written : slot_count (kenward_roger w) ≤ length sheet
