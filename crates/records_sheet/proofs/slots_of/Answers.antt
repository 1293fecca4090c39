-- `records_sheet::slots_of` meets its contract.
use Prim.Native.Nat.{ℕ, ◌*◌, ◌≤◌}
use mathlib.Core.Path.{◌≡◌}
use native.Mathlib.Omega.{arith}
use Rattle.records.specs.declared.Kind.{Kind}
use Rattle.records.specs.format.Kinds.{width}
use Rattle.records.specs.format.Cells.{slots}
use Rattle.records_sheet.proofs.Bounds.{Widths, two-widths, slots-bound}
use Rattle.records_sheet.proofs.slots_of.Goals as goal

pub overflow_mul-result : goal.overflow_mul-result
overflow_mul-result c = omega (arith, two-widths c.width.result c.width-2.result (omega arith) (omega arith))

-- the product by the widths as they are found
few-slots : (k : Kind) (a b d : ℕ) → a ≡ width k.count → b ≡ width k.row → d ≡ width k.column → Widths k → (a * b * d ≡ slots k) × (slots k ≤ 16777216)
unfolding slots
few-slots k a b d e f g w = (cc, slots-bound k w)

pub overflow_mul-result-2 : goal.overflow_mul-result-2
overflow_mul-result-2 c =
    let p = c.requires in
    omega (arith, few-slots c.args.k _ _ _ c.width.ensures c.width-2.ensures c.width-3.ensures (record { number = p.0; row = p.1; column = p.2 }))

pub returns : goal.returns
returns c =
    let p = c.requires in
    let h = few-slots c.args.k _ _ _ c.width.ensures c.width-2.ensures c.width-3.ensures (record { number = p.0; row = p.1; column = p.2 }) in
    (h.0, omega (arith, h))
