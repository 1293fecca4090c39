-- Not needed to check document 01: names that join the code to its definitions.
-- An archive and a second file that their readers take, with their numbers on the sheets of crates/records_sheet/specs/joints/Sheet.antt.
use Rattle.std.specs.Prelude.{ℕ, ◌≤◌, ◌≡◌, List, length, Float}
use Rattle.records.specs.format.Kinds.{archive_table, test_table}
use Rattle.records.specs.format.Cells.{slot_count}
use Rattle.records.specs.format.File.{count}
use Rattle.records.specs.readers.Archive as archive
use Rattle.records.specs.readers.SecondFile as second
use Rattle.records_sheet.specs.joints.Sheet.{sheet_after}

pub record ArchiveOnSheet (s : List ℕ) (sheet : List Float) : Type 0 where
  pub taken : archive.refusal s ≡ 0
  pub numbers : sheet ≡ sheet_after (length sheet) (archive.kinds s) s (count s)
  pub room : slot_count archive_table ≤ length sheet

-- p is the archive's coefficients
pub record SecondOnSheet (p : ℕ) (t : List ℕ) (sheet : List Float) : Type 0 where
  pub taken : second.refusal p t ≡ 0
  pub numbers : sheet ≡ sheet_after (length sheet) (second.kinds t) t (count t)
  pub room : slot_count test_table ≤ length sheet
