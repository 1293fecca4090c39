-- What the number of a second file says, of its length, order and form, its β and its values; and what holds of one that is not refused.
use Prim.Native.Nat.{ℕ, ◌+◌, ◌*◌, ◌≤◌}
use native.Mathlib.Omega.{arith}
use mathlib.Core.Path.{◌≡◌, refl, ap, sym, ◌∙◌}
use mathlib.Core.Bool.{true, false, not}
use mathlib.Core.List.{List, ◌++◌}
use lib.Dec.{eqb, lit≤}
use lib.ListN.{get_or}
use lib.Ieee.{Float}
use borrow.Author.Tests.{eq-eqb, eqb-true, ne_eqb, not-false}
use Rattle.algebra.specs.Reasons.{first}
use Rattle.algebra.proofs.ReasonLaws.{passed}
use Rattle.records.specs.declared.Sizes.{Sizes}
use Rattle.records.specs.format.Scan.{any}
use Rattle.records.specs.format.Kinds.{width, kind_at, kinds_of, test_kinds}
use Rattle.records.specs.format.Cells.{first_slot, slot_count}
use Rattle.records.specs.format.File.{count, beyond, not_finite}
use Rattle.records.specs.readers.Reader.{formed_number}
use Rattle.records.specs.readers.SecondFile.{reader, coefficients, sizes, zero_contrast, formed_for, value_reasons, reasons, refusal}
use Rattle.records.proofs.readers.ReaderLaws.{own-decides, accepted-formed, accepted-own}
use Rattle.records_sheet.specs.joints.Sheet.{first_slots, sheet_after}
use Rattle.records_sheet_parts.proofs.Read.{Flat, kind-starts, kind_fits}
use Rattle.records_contrast.specs.joints.Contrast.{zero_contrast_in}
use Rattle.records_contrast.proofs.ContrastLaws.{contrast-read}
use Rattle.records_form.proofs.FormLaws.{FormedSizes, formed-sizes}
use Rattle.records.specs.declared.Shape.TheVariants.{Second}

-- ---- of a file of good form: its β and its values, p being the archive's coefficients
module _ (p : ℕ) (t : List ℕ) (formed : formed_number (reader p) t ≡ 0) where
  own-reasons : refusal p t ≡ first (formed_for p t ++ value_reasons t)
  unfolding refusal reasons
  own-reasons = own-decides (reader p) t formed

  pub other-coefficients : (coefficients t ≡ p → ⊥) → 2 ≡ refusal p t
  unfolding formed_for value_reasons first
  other-coefficients h = sym (own-reasons ∙ rw (ne_eqb (coefficients t) p h))

  module _ (q : coefficients t ≡ p) where
    pub value-refused : any (count t) (not_finite t) ≡ true → 4 ≡ refusal p t
    unfolding formed_for value_reasons first
    value-refused h = sym (own-reasons ∙ rw (eq-eqb (coefficients t) p q, h))

    pub contrast-refused : any (count t) (not_finite t) ≡ false → zero_contrast t ≡ true → 8 ≡ refusal p t
    unfolding formed_for value_reasons first
    contrast-refused h k = sym (own-reasons ∙ rw (eq-eqb (coefficients t) p q, h, k))

    pub reader-accepts : any (count t) (not_finite t) ≡ false → zero_contrast t ≡ false → 0 ≡ refusal p t
    unfolding formed_for value_reasons first
    reader-accepts h k = sym (own-reasons ∙ rw (eq-eqb (coefficients t) p q, h, k))

-- ---- a file that is not refused: its sizes, its form and, p being the archive's coefficients, its β, which has p numbers
pub same-coefficients : (t : List ℕ) (z : Sizes) → z ≡ sizes t → coefficients t ≡ z.coefficients
unfolding sizes
same-coefficients t z e = sym (ap (λ (y : Sizes). y.coefficients) e)

module _ (p : ℕ) (t : List ℕ) (h : refusal p t ≡ 0) where
  pub second-sizes : (z : Sizes) → z ≡ sizes t → FormedSizes Second 1 t z
  unfolding refusal reasons
  second-sizes z e = formed-sizes Second 1 (omega arith) (omega arith) t z (accepted-formed (reader p) t h) e

  pub as_many : coefficients t ≡ p
  unfolding refusal reasons formed_for value_reasons
  as_many =
      let b = eqb (coefficients t) p in
      eqb-true (coefficients t) p (not-false b (passed 2 (not b) (value_reasons t) refl (accepted-own (reader p) t h)).0)

-- ---- its contrast, off the sheet
pub contrast-flat : (z : Sizes) → Flat (kind_at (kinds_of Second z) 9) z.contrasts z.coefficients
unfolding kind_at test_kinds width
contrast-flat z = record { number = refl; row = refl; column = refl }

pub contrast-fits : (z : Sizes) (fs : List ℕ) (l : ℕ) → fs ≡ first_slots (kinds_of Second z) → slot_count (kinds_of Second z) ≤ l → get_or fs 9 0 + z.contrasts * z.coefficients ≤ l
contrast-fits z fs l e h = kind_fits (kinds_of Second z) fs e l h 9 (lit≤ tt) z.contrasts z.coefficients (contrast-flat z)

-- z and the sheet as the code has them
pub zero-read : (t : List ℕ) (z : Sizes) (fs : List ℕ) (xs : List Float) (N : ℕ) → z ≡ sizes t → fs ≡ first_slots (kinds_of Second z) → any (count t) (beyond (test_kinds z) t) ≡ false → slot_count (test_kinds z) ≤ N
    → xs ≡ sheet_after N (kinds_of Second z) t (count t) → zero_contrast_in z xs (get_or fs 9 0) ≡ zero_contrast t
unfolding zero_contrast sizes
zero-read t z fs xs N ez ef w room ex =
    let f : get_or fs 9 0 ≡ first_slot (test_kinds z) 9 = kind-starts (test_kinds z) fs ef 9 (lit≤ tt) in
    rw (f, ex, contrast-read Second z t w N room (contrast-flat z), ez)
