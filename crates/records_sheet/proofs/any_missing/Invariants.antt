use mathlib.Core.Path.{◌≡◌}
use mathlib.Core.Bool.{false}
use Rattle.records.specs.format.Scan.{any}
use Rattle.records.specs.format.Kinds.{kinds_of}
use Rattle.records_sheet.specs.joints.Sheet.{missing_in}
use Rattle.records_sheet.proofs.any_missing.Given as goal

abbrev pub invariant-loop-k : goal.invariant-loop-k
invariant-loop-k l = any l.k (missing_in (kinds_of l.file l.z) l.flags) ≡ false
