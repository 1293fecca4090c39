-- `records_sheet::fill_sheet` meets its contract.
use Prim.Native.Nat.{◌<◌}
use native.Mathlib.Omega.{arith}
use lib.ListN.{length}
use Rattle.records.specs.format.Kinds.{kinds_of}
use Rattle.records.specs.format.File.{count}
use Rattle.records.proofs.format.ScanLaws.{any_none}
use Rattle.records_sheet.proofs.Sheets.{sheet-start, sheet-next}
use Rattle.records_sheet.proofs.fill_sheet.Goals as goal

pub loop-i-init : goal.loop-i-init
loop-i-init c = (c.kind_at.ensures, sheet-start (length c.args.sheet.now) (kinds_of c.args.file c.args.z) c.args.s.now _ c.requires.sheet_value.0)

pub slot_of-at-requires-clause-named : goal.slot_of-at-requires-clause-named
slot_of-at-requires-clause-named c =
    let l : c.loop-i.i < count c.args.s.now = omega arith in
    (l, any_none _ _ c.loop-i.i l c.requires.small.2)

pub loop-i-preserved : goal.loop-i-preserved
loop-i-preserved c =
    (c.slot_of-at.ensures.last, sheet-next (length c.args.sheet.now) (kinds_of c.args.file c.args.z) c.args.s.now c.loop-i.i c.slot_of-at.result _ _ c.loop-i.invariant.1 c.slot_of-at.ensures.value c.value_at.ensures)
