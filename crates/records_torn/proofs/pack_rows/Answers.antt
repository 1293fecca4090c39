-- `records_torn::pack_rows` meets its contract.
use mathlib.Core.Path.{◌≡◌, sym, ◌∙◌}
use native.Mathlib.Omega.{arith}
use Rattle.records_torn.proofs.PackingTurns.{packing-starts, packing-skips, packing-takes, row-places}
use Rattle.records_torn.proofs.pack_rows.Goals as goal
use Rattle.records_torn.proofs.pack_rows.Goals.{then-not-is_zero, else-not-is_zero}

pub loop-i-init : goal.loop-i-init
loop-i-init c = (omega arith, packing-starts _ _ _ _)

pub overflow_mul-i : goal.overflow_mul-i
overflow_mul-i c =
    let p = row-places c.loop-i.invariant.1 c.requires (omega arith) in
    omega arith

pub overflow_add-at : goal.overflow_add-at
overflow_add-at c =
    let p = row-places c.loop-i.invariant.1 c.requires (omega arith) in
    omega arith

pub overflow_mul-kept : goal.overflow_mul-kept
overflow_mul-kept c =
    let p = row-places c.loop-i.invariant.1 c.requires (omega arith) in
    omega arith

pub overflow_add-at-then-not-is_zero : goal.overflow_add-at-then-not-is_zero
overflow_add-at-then-not-is_zero c =
    let p = row-places c.loop-i.invariant.1 c.requires (omega arith) in
    omega arith

pub move_row-requires : goal.move_row-requires
move_row-requires c =
    let p = row-places c.loop-i.invariant.1 c.requires (omega arith) in
    (omega arith, omega arith)

pub loop-i-preserved : goal.loop-i-preserved
loop-i-preserved c =
    let h = c.loop-i.invariant.1 in
    let l = c.requires.ahead c.loop-i.i (omega arith) in
    let t = sym c.is_zero.ensures in (
      omega arith,
      elim c.if-not-is_zero.branch [
        | then-not-is_zero w ↦ packing-takes h l (t ∙ w.if-not-is_zero.true) w.kept-is (w.sheet-is ∙ w.move_row.ensures)
        | else-not-is_zero w ↦ packing-skips h l (t ∙ w.if-not-is_zero.false) w.kept-is w.sheet-is
      ],
    )

pub shape_of-sheet : goal.shape_of-sheet
shape_of-sheet c = c.loop-i.invariant.1.long

pub returns : goal.returns
returns c =
    let h = c.loop-i.invariant.1 in
    let e : c.loop-i.i ≡ c.args.n = omega arith in
    record { value = rw (← e) (h.number, h.few); sheet_after = rw (← e) h.rows }
