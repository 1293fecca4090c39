-- `records_sheet::missing_in` meets its contract.
use Prim.Native.Nat.{ℕ}
use mathlib.Core.Path.{◌≡◌, sym, ap, ap₂, ◌∙◌}
use mathlib.Core.Bool.{Bool, true, false, not, ◌&&◌, false≢true}
use mathlib.Core.List.{List}
use native.Mathlib.Omega.{arith}
use lib.ListN.{get_or}
use Rattle.records.specs.declared.Kind.{Kind}
use Rattle.records.specs.format.Kinds.{Table, kind_at, kinds_of}
use Rattle.records.specs.format.Cells.{slots, first_slot}
use Rattle.records_sheet.specs.joints.Sheet.{gap, missing_in}
use Rattle.records_sheet.proofs.Sheets.{firsts_at, ends-within}
use Rattle.records_sheet.proofs.Bounds.{widths}
use Rattle.records_sheet.proofs.missing_in.Goals as goal

-- src/lib.rt:130:1
-- a kind whose cells may not be absent
missing-is : (t : Table) (flags : List Bool) (k : ℕ) (r : Bool) → (kind_at t k).sparse ≡ false → r ≡ gap flags (first_slot t k) (slots (kind_at t k)) → r ≡ missing_in t flags k
unfolding missing_in
missing-is t flags k r e q = go (kind_at t k).sparse e
  where
    go : (b : Bool) → b ≡ false → r ≡ not b && gap flags (first_slot t k) (slots (kind_at t k))
    go true e = absurd (false≢true (sym e))
    go false e = q

-- src/lib.rt:136:9
pub returns-then-kind : goal.returns-then-kind
unfolding missing_in
returns-then-kind c =
    let a = c.args in
    let e = ap (λ (y : Kind). y.sparse) c.kind_at-kind.ensures in
    rw (← e, c.if-kind.true)

-- src/lib.rt:138:39
pub slots_of-requires : goal.slots_of-requires
slots_of-requires c =
    let a = c.args in
    let w = widths a.z c.requires.0 a.file a.k in
    let e = c.kind_at-kind.ensures in
    (rw e w.number, rw e w.row, rw e w.column)

-- src/lib.rt:138:5
pub gap_in-requires : goal.gap_in-requires
gap_in-requires c =
    let a = c.args in
    let p = c.requires in
    let t = kinds_of a.file a.z in
    let e = ap₂ (λ (l : List ℕ) (k : ℕ). get_or l k 0) p.1 c.from.ensures ∙ firsts_at t a.k (omega arith) in
    let q = c.slots_of.ensures.0 ∙ ap slots c.kind_at-kind.ensures in
    let m = ends-within t a.k p.3 in
    omega arith

pub returns : goal.returns
returns c =
    let a = c.args in
    let p = c.requires in
    let t = kinds_of a.file a.z in
    let e = ap₂ (λ (l : List ℕ) (k : ℕ). get_or l k 0) p.1 c.from.ensures ∙ firsts_at t a.k (omega arith) in
    let q = c.slots_of.ensures.0 ∙ ap slots c.kind_at-kind.ensures in
    let f = ap (λ (y : Kind). y.sparse) c.kind_at-kind.ensures in
    missing-is t a.flags.now a.k c.gap_in.result (sym f ∙ c.if-kind.false) (c.gap_in.ensures ∙ ap₂ (λ (x y : ℕ). gap a.flags.now x y) e q)
