-- `records_sheet::slot_at` meets its contract.
use Prim.Native.Nat.{◌+◌}
use mathlib.Core.Path.{ap, ◌∙◌}
use native.Mathlib.Omega.{arith}
use Rattle.records.specs.format.Kinds.{index_of}
use Rattle.records.proofs.format.Slots.{holds-index, within}
use Rattle.records_sheet.proofs.slot_at.Goals as goal

pub offset_in-requires : goal.offset_in-requires
offset_in-requires c =
    let k = c.args.k in
    let w = within k c.args.s.now c.args.i c.requires.1 in
    let en = c.index_of-n.ensures ∙ ap (index_of k.count) c.count_at.ensures.0 in
    let er = c.index_of-r.ensures ∙ ap (index_of k.row) c.row_at.ensures.0 in
    let ec = c.index_of-c.ensures ∙ ap (index_of k.column) c.column_at.ensures.0 in
    let ln = holds-index k.count _ w.number in
    let lr = holds-index k.row _ w.row in
    let lc = holds-index k.column _ w.column in
    (c.requires.2, c.requires.3, c.requires.4, omega arith, omega arith, omega arith)

pub returns : goal.returns
returns c =
    let k = c.args.k in
    let en = c.index_of-n.ensures ∙ ap (index_of k.count) c.count_at.ensures.0 in
    let er = c.index_of-r.ensures ∙ ap (index_of k.row) c.row_at.ensures.0 in
    let ec = c.index_of-c.ensures ∙ ap (index_of k.column) c.column_at.ensures.0 in
    ap (◌+◌ c.args.first) (c.offset_in.ensures.0 ∙ rw (en, er, ec))
