-- The number of a file's form and of the file, by which of their conditions holds; and the sizes of a file with no bad record, for any of the calls' files.
use Prim.Native.Nat.{ℕ, ◌%◌, ◌<◌, ◌≤◌}
use native.Mathlib.Omega.{arith}
use mathlib.Core.Path.{◌≡◌, refl, sym, ap, ◌∙◌, subst}
use mathlib.Core.Bool.{true, false, true≢false}
use mathlib.Core.List.{List}
use lib.Dec.{lit<}
use lib.ListN.{length}
use lib.Ieee.{Float}
use borrow.Author.Tests.{eq-eqb, ne_eqb}
use Rattle.algebra.specs.Reasons.{first}
use Rattle.algebra.proofs.ReasonLaws.{line, first-none, first-only}
use Rattle.records.specs.format.Scan.{any}
use Rattle.records.specs.declared.Sizes.{Sizes}
use Rattle.records.specs.format.Kinds.{kinds_of, kind_numbers, kenward_roger_kinds, satterthwaite_kinds, archive_kinds, test_kinds, limits}
use Rattle.records.specs.format.Cells.{slot_count}
use Rattle.records.specs.format.File.{count, bad_record, again, missing, beyond, length_reasons, form_reasons}
use Rattle.records.specs.format.Order.{falls, order_reasons}
use Rattle.records.specs.readers.Reader.{Reader, limit_kinds, file_kinds, formed_number}
use Rattle.records.specs.readers.Series.{sizes as seriesSizes}
use Rattle.records.specs.readers.Parameters.{sizes as parameterSizes}
use Rattle.records.specs.readers.Archive.{sizes_at, sizes as archiveSizes}
use Rattle.records.specs.readers.SecondFile.{sizes as secondSizes}
use Rattle.records.proofs.readers.Limits.{Below, series-below, parameters-below, archive-below, second_below, fewer-slots}
use Rattle.records.proofs.readers.ReaderLaws.{WellFormed, well-formed}
use Rattle.records_sizes.specs.joints.Gathered.{sizes_of, reader_of}
use Rattle.records_sheet.specs.joints.Sheet.{Small, sheet_after}
use Rattle.records_sheet.proofs.Sheets.{below-small}
use Rattle.records.specs.declared.Shape.{Shape}
use Rattle.records.specs.declared.Shape.TheVariants.{Series, Test, Archived, Second}

-- ---- four conditions with one number
module _ (r : Reader) (s : List ℕ) where
  abbrev form_number : ℕ
  form_number = first (form_reasons (limit_kinds r) (file_kinds r s) s)

  -- whichever of them holds
  form-refuses : (i : ℕ) → i < 4 → (line (form_reasons (limit_kinds r) (file_kinds r s) s) i).1 ≡ true → 2 ≡ form_number
  unfolding form_reasons
  form-refuses i l h =
      let q = form_reasons (limit_kinds r) (file_kinds r s) s in
      sym (first-only 2 q refl (λ e. true≢false (sym h ∙ first-none q refl e i l)))

  pub bad-record : any (count s) (bad_record (limit_kinds r) s) ≡ true → 2 ≡ form_number
  unfolding form_reasons
  bad-record h = form-refuses 0 (lit< tt) h

  pub cell-again : any (count s) (again (file_kinds r s) s) ≡ true → 2 ≡ form_number
  unfolding form_reasons
  cell-again h = form-refuses 1 (lit< tt) h

  pub cell-missing : any kind_numbers (missing (file_kinds r s) s) ≡ true → 2 ≡ form_number
  unfolding form_reasons
  cell-missing h = form-refuses 2 (lit< tt) h

  pub cell-beyond : any (count s) (beyond (file_kinds r s) s) ≡ true → 2 ≡ form_number
  unfolding form_reasons
  cell-beyond h = form-refuses 3 (lit< tt) h

  pub none-holds : any (count s) (bad_record (limit_kinds r) s) ≡ false → any (count s) (again (file_kinds r s) s) ≡ false → any kind_numbers (missing (file_kinds r s) s) ≡ false → any (count s) (beyond (file_kinds r s) s) ≡ false → 0 ≡ form_number
  unfolding form_reasons first
  none-holds a b c d = rw (a, b, c, d)

  -- ---- with the length and the order before it
  pub odd-length : (length s % 16 ≡ 0 → ⊥) → 2 ≡ formed_number r s
  unfolding length_reasons first
  odd-length h = rw (ne_eqb (length s % 16) 0 h)

  module _ (whole : length s % 16 ≡ 0) where
    pub file-falls : falls s ≡ true → 12 ≡ formed_number r s
    unfolding length_reasons order_reasons first
    file-falls h = rw (eq-eqb (length s % 16) 0 whole, h)

    pub file-rises : falls s ≡ false → form_number ≡ formed_number r s
    unfolding length_reasons order_reasons first
    file-rises h = rw (eq-eqb (length s % 16) 0 whole, h)

-- ---- the sizes of a file with no bad record are below the limits
module _ (file : Shape) (w : ℕ) (some : 1 ≤ w) (s : List ℕ) (good : any (count s) (bad_record (kinds_of file (limits w)) s) ≡ false) where
  pub sizes-below : Below (sizes_of file s) (limits w)
  unfolding satterthwaite_kinds archive_kinds test_kinds limits parameterSizes archiveSizes secondSizes sizes_at
  sizes-below = go file good
    where
      -- specimens are of no account in a file other than a series, so that it has none
      wider : (z : Sizes) → z.specimens ≡ 0 → z.columns ≡ 0 → Below z (limits 1) → Below z (limits w)
      wider z n m b = record {
        specimens = omega arith;
        coefficients = b.coefficients;
        columns = omega arith;
        blocks = b.blocks;
        thetas = b.thetas;
        contrasts = b.contrasts;
        parameters = b.parameters;
        weighted = λ _. refl;
        hypothesis = λ _. refl;
      }

      go : (file : Shape) → any (count s) (bad_record (kinds_of file (limits w)) s) ≡ false → Below (sizes_of file s) (limits w)
      go Series g = series-below w some s g
      go Test g = wider (parameterSizes s) refl refl (parameters-below s g)
      go Archived g = wider (archiveSizes s) refl refl (archive-below s g)
      go Second g = wider (secondSizes s) refl refl (second_below s g)

  pub sizes-small : w ≤ 256 → Small (sizes_of file s)
  sizes-small h = below-small (sizes_of file s) w h sizes-below

  pub sizes-fit : slot_count (kinds_of file (sizes_of file s)) ≤ slot_count (kinds_of file (limits w))
  sizes-fit = fewer-slots (sizes_of file s) (limits w) sizes-below file kind_numbers

-- ---- so the sizes of a file of good form, z being the sizes at hand: document 01's limits, small numbers, room for its cells, and no record beyond them
pub record FormedSizes (file : Shape) (w : ℕ) (s : List ℕ) (z : Sizes) : Type 0 where
  pub coefficients : z.coefficients ≤ 6
  pub contrasts : z.contrasts ≤ 6
  pub parameters : z.parameters ≤ 4
  pub blocks : z.blocks ≤ 3
  pub small : Small z
  pub fit : slot_count (kinds_of file z) ≤ slot_count (kinds_of file (limits w))
  pub within : any (count s) (beyond (kinds_of file z) s) ≡ false

file-formed : (file : Shape) (w : ℕ) → 1 ≤ w → w ≤ 256 → (s : List ℕ) → WellFormed (reader_of file w) s → FormedSizes file w s (sizes_of file s)
unfolding limits
file-formed file w some most s f =
    let b = sizes-below file w some s f.good in
    record {
      coefficients = b.coefficients;
      contrasts = b.contrasts;
      parameters = b.parameters;
      blocks = b.blocks;
      small = sizes-small file w some s f.good most;
      fit = sizes-fit file w some s f.good;
      within = f.within;
    }

pub formed-sizes : (file : Shape) (w : ℕ) → 1 ≤ w → w ≤ 256 → (s : List ℕ) (z : Sizes) → formed_number (reader_of file w) s ≡ 0 → z ≡ sizes_of file s → FormedSizes file w s z
formed-sizes file w some most s z e ez = subst (FormedSizes file w s) (sym ez) (file-formed file w some most s (well-formed (reader_of file w) s e))

-- the sheet by the sizes at hand is the file's
pub sheet-from : (file : Shape) (N : ℕ) (s : List ℕ) (z : Sizes) (xs : List Float) → z ≡ sizes_of file s → xs ≡ sheet_after N (kinds_of file z) s (count s) → xs ≡ sheet_after N (kinds_of file (sizes_of file s)) s (count s)
sheet-from file N s z xs e f = f ∙ ap (λ (y : Sizes). sheet_after N (kinds_of file y) s (count s)) e
