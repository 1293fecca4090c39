-- `records_sheet::first_slots` meets its contract.
use Prim.Native.Nat.{ℕ, ◌+◌}
use mathlib.Core.Path.{◌≡◌, refl, ap, ◌∙◌}
use native.Mathlib.Omega.{arith}
use Rattle.algebra.specs.Table.{row}
use Rattle.records.specs.format.Scan.{total}
use Rattle.records.specs.format.Kinds.{kinds_of}
use Rattle.records.specs.format.Cells.{slots, first_slot}
use Rattle.records_sheet.specs.joints.Sheet.{first_slots}
use Rattle.records_sheet.proofs.Bounds.{widths, all-bound, firsts-start, firsts_more, first_more}
use Rattle.records_sheet.proofs.first_slots.Goals as goal

-- src/lib.rt:43:5
pub loop-k-init : goal.loop-k-init
unfolding first_slot total
loop-k-init c = (refl, firsts-start (kinds_of c.args.file c.args.z))

-- src/lib.rt:44:34
pub kind_at-requires : goal.kind_at-requires
kind_at-requires c = tt

-- src/lib.rt:44:25
pub slots_of-total-requires : goal.slots_of-total-requires
slots_of-total-requires c =
    let w = widths c.args.z c.requires c.args.file c.loop-k.k in
    let e = c.kind_at.ensures in
    (rw e w.number, rw e w.row, rw e w.column)

-- src/lib.rt:44:17
pub overflow_add-total : goal.overflow_add-total
overflow_add-total c =
    let b = all-bound c.args.file c.args.z c.requires c.loop-k.k (omega arith) in
    let e = c.loop-k.invariant.0 in
    let l = c.slots_of-total.ensures.1 in
    omega arith

-- src/lib.rt:43:5
pub loop-k-preserved : goal.loop-k-preserved
loop-k-preserved c =
    let t = kinds_of c.args.file c.args.z in
    let k = c.loop-k.k in
    let e = first_more t k _ _ c.loop-k.invariant.0 (c.slots_of-total.ensures.0 ∙ ap slots c.kind_at.ensures) in
    (e, rw c.from.ensures (firsts_more t k _ _ c.loop-k.invariant.1 e))

-- src/lib.rt:36:1
pub returns : goal.returns
unfolding first_slots
returns c =
    let e : c.loop-k.k + 1 ≡ 34 = omega arith in
    c.loop-k.invariant.1 ∙ ap (λ (m : ℕ). row 0 34 m (first_slot (kinds_of c.args.file c.args.z))) e
