use mathlib.Core.Path.{◌≡◌}
use lib.ListN.{length}
use Rattle.records.specs.format.Kinds.{kind_at, kinds_of}
use Rattle.records_sheet.specs.joints.Sheet.{sheet_after}
use Rattle.records_sheet.proofs.fill_sheet.Given as goal

abbrev pub invariant-loop-i : goal.invariant-loop-i
invariant-loop-i l =
    (l.last.kind ≡ kind_at (kinds_of l.file l.z) l.last.number) × (l.sheet ≡ sheet_after (length l.initial.sheet) (kinds_of l.file l.z) l.s l.i)
