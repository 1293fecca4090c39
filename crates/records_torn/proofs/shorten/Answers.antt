-- `records_torn::shorten` meets its contract.
use mathlib.Core.Path.{ap, sym, ◌∙◌}
use lib.ListN.{length}
use native.Mathlib.Omega.{arith}
use borrow.Author.Tests.{not-true, not-false}
use Rattle.records_torn.proofs.ShortSheet.{kept-in-all, short-unweighted}
use Rattle.records_torn.proofs.ThreePackings.{packs-fit, sheet-order, three-packings}
use Rattle.records_torn.proofs.shorten.Goals as goal

pub returns-then-not-z : goal.returns-then-not-z
returns-then-not-z c =
    let z = c.args.z in
    let e = not-true _ c.if-not-z.true in
    record { value = (sym (kept-in-all z _ e), omega arith); sheet_after = sym (short-unweighted z _ e) }

pub pack_rows-requires : goal.pack_rows-requires
pack_rows-requires c =
    let o = sheet-order c.args.z (not-false _ c.if-not-z.false) c.args.firsts.now c.requires.1 in
    packs-fit (omega arith) (omega arith) (omega arith)

pub pack_rows-requires-2 : goal.pack_rows-requires-2
pack_rows-requires-2 c =
    let o = sheet-order c.args.z (not-false _ c.if-not-z.false) c.args.firsts.now c.requires.1 in
    packs-fit (omega arith) (omega arith) (omega arith)

pub pack_rows-requires-3 : goal.pack_rows-requires-3
pack_rows-requires-3 c =
    let o = sheet-order c.args.z (not-false _ c.if-not-z.false) c.args.firsts.now c.requires.1 in
    packs-fit (omega arith) (omega arith) (omega arith)

pub returns : goal.returns
returns c =
    let e = not-false _ c.if-not-z.false in
    let x = c.pack_rows.ensures.sheet_after in
    let r = c.pack_rows-2.ensures.sheet_after in
    let w = c.pack_rows-3.ensures in
    let m = three-packings c.args.z e c.args.firsts.now c.requires.1 _ _ _ _ x r w.sheet_after in
    record { value = (w.value.0 ∙ ap length m.0, w.value.1); sheet_after = m.1 }
