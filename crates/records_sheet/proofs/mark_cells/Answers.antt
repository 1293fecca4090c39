-- `records_sheet::mark_cells` meets its contract.
use mathlib.Core.Path.{refl, sym}
use mathlib.Core.Bool.{true, false}
use Prim.Native.Nat.{◌<◌}
use native.Mathlib.Omega.{arith}
use lib.ListN.{length}
use Rattle.records.specs.format.Scan.{any}
use Rattle.records.specs.format.Kinds.{kinds_of}
use Rattle.records.specs.format.File.{count}
use Rattle.records.proofs.format.ScanLaws.{any_none, any-miss, any-hit}
use Rattle.records_sheet.proofs.Sheets.{flags-start, flags-next, flag-read}
use Rattle.records_sheet.proofs.mark_cells.Goals as goal

pub loop-i-init : goal.loop-i-init
unfolding any
loop-i-init c = (c.kind_at.ensures, flags-start (length c.args.flags.now) (kinds_of c.args.file c.args.z) c.args.s.now _ c.requires.flags_value.0, refl)

pub slot_of-at-requires-clause-named : goal.slot_of-at-requires-clause-named
slot_of-at-requires-clause-named c =
    let l : c.loop-i.i < count c.args.s.now = omega arith in
    (l, any_none _ _ c.loop-i.i l c.requires.small.2)

pub returns-then-flags-at-clause-value : goal.returns-then-flags-at-clause-value
returns-then-flags-at-clause-value c =
    let a = c.args in
    let x = c.loop-i in
    let l : x.i < count a.s.now = omega arith in
    sym (any-hit _ _ x.i l (flag-read a.file a.z a.s.now c.requires.small.2 (length a.flags.now) c.requires.flags_value.1 x.i c.slot_of-at.result x.flags true l x.invariant.1 c.slot_of-at.ensures.value c.if-flags-at.true))

pub loop-i-preserved : goal.loop-i-preserved
loop-i-preserved c =
    let a = c.args in
    let x = c.loop-i in
    let l : x.i < count a.s.now = omega arith in
    let new = flag-read a.file a.z a.s.now c.requires.small.2 (length a.flags.now) c.requires.flags_value.1 x.i c.slot_of-at.result x.flags false l x.invariant.1 c.slot_of-at.ensures.value c.if-flags-at.false in
    (c.slot_of-at.ensures.last, flags-next (length a.flags.now) (kinds_of a.file a.z) a.s.now x.i c.slot_of-at.result _ x.invariant.1 c.slot_of-at.ensures.value, any-miss _ _ x.invariant.2 new)
