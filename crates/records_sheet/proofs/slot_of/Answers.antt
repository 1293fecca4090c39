-- `records_sheet::slot_of` meets its contract.
use mathlib.Core.Path.{◌∙◌}
use native.Mathlib.Omega.{arith}
use Rattle.records_sheet.proofs.KnownSlots.{AtRecord, kind-placed, first_small, known-holds, known-widths, slot-known, slot-within, slot_small}
use Rattle.records_sheet.proofs.slot_of.Goals as goal

pub bounds-firsts-from : goal.bounds-firsts-from
bounds-firsts-from c =
    let a = c.args in
    let h : AtRecord a.file a.z a.firsts.now a.s.now a.i c.from.result c.kind_at-kind.result = record { small = c.requires.small.0; firsts = c.requires.small.1; sized = c.requires.named.1; read = c.from.ensures ∙ c.kind_of-number.ensures; table = rw c.from.ensures c.kind_at-kind.ensures.value } in
    kind-placed h

pub slot_at-requires : goal.slot_at-requires
slot_at-requires c =
    let a = c.args in
    let h : AtRecord a.file a.z a.firsts.now a.s.now a.i c.from.result c.kind_at-kind.result = record { small = c.requires.small.0; firsts = c.requires.small.1; sized = c.requires.named.1; read = c.from.ensures ∙ c.kind_of-number.ensures; table = rw c.from.ensures c.kind_at-kind.ensures.value } in
    let w = known-widths h in
    (c.requires.named.0, known-holds h, w.number, w.row, w.column, first_small h)

pub returns : goal.returns
returns c =
    let a = c.args in
    let h : AtRecord a.file a.z a.firsts.now a.s.now a.i c.from.result c.kind_at-kind.result = record { small = c.requires.small.0; firsts = c.requires.small.1; sized = c.requires.named.1; read = c.from.ensures ∙ c.kind_of-number.ensures; table = rw c.from.ensures c.kind_at-kind.ensures.value } in
    let e = c.slot_at.ensures ∙ slot-known h in
    let low = slot-within h in
    let small = slot_small h in
    record { value = e; within = (omega arith, omega arith); asked = c.kind_at-kind.ensures.asked ∙ c.kind_of-number.ensures; last = c.kind_at-kind.ensures.last }
