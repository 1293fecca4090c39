use mathlib.Core.Path.{◌≡◌}
use mathlib.Core.Bool.{false}
use lib.ListN.{length}
use Rattle.records.specs.format.Scan.{any}
use Rattle.records.specs.format.Kinds.{kind_at, kinds_of}
use Rattle.records.specs.format.File.{again}
use Rattle.records_sheet.specs.joints.Sheet.{flags_after}
use Rattle.records_sheet.proofs.mark_cells.Given as goal

abbrev pub invariant-loop-i : goal.invariant-loop-i
invariant-loop-i l =
    (l.last.kind ≡ kind_at (kinds_of l.file l.z) l.last.number) × (l.flags ≡ flags_after (length l.initial.flags) (kinds_of l.file l.z) l.s l.i) × (any l.i (again (kinds_of l.file l.z) l.s) ≡ false)
