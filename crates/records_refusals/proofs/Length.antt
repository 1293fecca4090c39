-- A file that rises and is longer than every cell's record together is refused with 2, so that of longer files a program need keep no more than whether they fall.
use Prim.Native.Nat.{ℕ, ◌*◌, ◌<◌, ◌≤◌}
use native.Mathlib.Omega.{arith}
use mathlib.Core.Path.{◌≡◌, refl, sym, ◌∙◌}
use mathlib.Core.Bool.{Bool, true, false, cond, false≢true}
use mathlib.Core.List.{List, ◌++◌}
use lib.Dec.{eqb}
use lib.ListN.{length}
use borrow.Author.Tests.{eq-eqb, eqb-true, eqb-false}
use Rattle.algebra.specs.Reasons.{first}
use Rattle.algebra.proofs.ReasonLaws.{Line, first-only}
use Rattle.records.specs.declared.Sizes.{Sizes}
use Rattle.records.specs.format.Scan.{any}
use Rattle.records.specs.format.Kinds.{Table, kinds_of, kenward_roger}
use Rattle.records.specs.format.Cells.{slot_count}
use Rattle.records.specs.format.File.{count, kind_of, cell_row, cell_column, cell_count, is_cell, again, beyond, length_reasons, form_reasons}
use Rattle.records.specs.format.Order.{falls, order_reasons}
use Rattle.records.specs.readers.Reader.{limit_kinds, file_kinds, formed_number}
use Rattle.records.specs.readers.Series.{reader, sizes, refusal}
use Rattle.records.proofs.readers.ReaderLaws.{well-formed}
use Rattle.records.proofs.format.ScanLaws.{any_none}
use Rattle.records.proofs.format.Slots.{sized_inside, slot-cell}
use Rattle.records_sheet.specs.joints.Sheet.{slot_of}
use Rattle.records_sheet.proofs.Sheets.{slot-of-fits}
use Rattle.records_form.proofs.FormLaws.{sizes-fit}
use Rattle.records_series.proofs.Pigeons.{pigeons}
use Rattle.records_refusals.proofs.RefusalLaws.{refusal-cases}
use Rattle.records.specs.declared.Shape.{Shape}
use Rattle.records.specs.declared.Shape.TheVariants.{Series}

-- no record beyond the sizes z of a call and no cell twice: as many records as cells at most
pub few-records : (file : Shape) (z : Sizes) (s : List ℕ) → any (count s) (beyond (kinds_of file z) s) ≡ false → any (count s) (again (kinds_of file z) s) ≡ false → count s ≤ slot_count (kinds_of file z)
unfolding again
few-records file z s within once = pigeons (slot_count t) (count s) (slot_of t s) below apart
  where
    t : Table
    t = kinds_of file z

    below : (i : ℕ) → i < count s → slot_of t s i < slot_count t
    below i l = slot-of-fits file z s within (slot_count t) (omega arith) i l

    sized : (i : ℕ) → i < count s → beyond t s i ≡ false
    sized i l = any_none (count s) (beyond t s) i l within

    names : ℕ → ℕ → Bool
    names j i = is_cell t s (kind_of s j) (cell_count t s j) (cell_row t s j) (cell_column t s j) i

    none : (i j : ℕ) → i < j → j < count s → names j i ≡ false
    none i j l h = any_none j (names j) i l (any_none (count s) (again t s) j h once)

    apart : (i j : ℕ) → i < j → j < count s → slot_of t s i ≡ slot_of t s j → ⊥
    apart i j l h e =
        let c = slot-cell t s (kind_of s j) (cell_count t s j) (cell_row t s j) (cell_column t s j) i (sized i (omega arith)) (sized_inside t s j (sized j h)) in
        false≢true (sym (none i j l h) ∙ sym c ∙ eq-eqb (slot_of t s i) (slot_of t s j) e)

-- what refuses a rising file by its length or its form refuses it with 2
formed-two : (w : ℕ) (s : List ℕ) → falls s ≡ false → (formed_number (reader w) s ≡ 0 → ⊥) → formed_number (reader w) s ≡ 2
unfolding length_reasons order_reasons form_reasons first
formed-two w s r h = without ∙ first-only 2 asked refl (λ e. h (without ∙ e))
  where
    -- its list but for the order
    asked : List Line
    asked = length_reasons s ++ form_reasons (limit_kinds (reader w)) (file_kinds (reader w) s) s

    without : formed_number (reader w) s ≡ first asked
    without = rw r

pub too_long : (w : ℕ) → 1 ≤ w → (s : List ℕ) → 16 * slot_count (kenward_roger w) < length s → falls s ≡ false → refusal w s ≡ 2
too_long w some s l rises = refusal-cases w s ∙ go (eqb (formed_number (reader w) s) 0) refl _
  where
    go : (b : Bool) → eqb (formed_number (reader w) s) 0 ≡ b → (n : ℕ) → cond b n (formed_number (reader w) s) ≡ 2
    go true e n =
        let f = well-formed (reader w) s (eqb-true (formed_number (reader w) s) 0 e) in
        let a = few-records Series (sizes s) s f.within f.once in
        let b = sizes-fit Series w some s f.good in
        let m = f.whole in
        absurd (omega arith)
    go false e n = formed-two w s rises (eqb-false (formed_number (reader w) s) 0 e)
