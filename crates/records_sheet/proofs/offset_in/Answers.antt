-- `records_sheet::offset_in` meets its contract.
use Prim.Native.Nat.{ℕ, ◌+◌, ◌*◌, ◌<◌}
use mathlib.Core.Path.{◌≡◌}
use native.Mathlib.Omega.{arith}
use Rattle.records.specs.declared.Kind.{Kind}
use Rattle.records.specs.format.Kinds.{width}
use Rattle.records.specs.format.Cells.{offset}
use Rattle.records.proofs.format.Slots.{Inside, offset-below}
use Rattle.records_sheet.proofs.Bounds.{Widths, two-widths, slots-bound}
use Rattle.records_sheet.proofs.offset_in.Goals as goal

pub overflow_mul-result : goal.overflow_mul-result
overflow_mul-result c = omega (arith, two-widths c.args.n c.width.result (omega arith) (omega arith))

pub overflow_add-result : goal.overflow_add-result
overflow_add-result c = omega (arith, two-widths c.args.n c.width.result (omega arith) (omega arith))

-- the place by the widths as they are found
few-before : (k : Kind) (n r c a b : ℕ) → a ≡ width k.row → b ≡ width k.column → Widths k → Inside k n r c → ((n * a + r) * b + c ≡ offset k n r c) × (offset k n r c < 16777216)
unfolding offset
few-before k n r c a b e f w h =
    let l = slots-bound k w in
    let m = offset-below k n r c h in
    (cc, omega arith)

pub overflow_mul-result-2 : goal.overflow_mul-result-2
overflow_mul-result-2 c =
    let p = c.requires in
    omega (arith, few-before c.args.k c.args.n c.args.r c.args.c _ _ c.width.ensures c.width-2.ensures (record { number = p.0; row = p.1; column = p.2 }) (record { number = p.3; row = p.4; column = p.5 }))

pub overflow_add-result-2 : goal.overflow_add-result-2
overflow_add-result-2 c =
    let p = c.requires in
    omega (arith, few-before c.args.k c.args.n c.args.r c.args.c _ _ c.width.ensures c.width-2.ensures (record { number = p.0; row = p.1; column = p.2 }) (record { number = p.3; row = p.4; column = p.5 }))

pub returns : goal.returns
returns c =
    let p = c.requires in
    let h = few-before c.args.k c.args.n c.args.r c.args.c _ _ c.width.ensures c.width-2.ensures (record { number = p.0; row = p.1; column = p.2 }) (record { number = p.3; row = p.4; column = p.5 }) in
    (h.0, omega (arith, h))
