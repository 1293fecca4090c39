-- An accepted archive is written back to the same bytes: its records stand in the table's order, each with the bits of what its file archives.
use Prim.Native.Nat.{ℕ, ◌+◌, ◌*◌, ◌^◌, ◌<◌, ◌≤◌}
use mathlib.Core.Path.{◌≡◌, refl, ap, sym, ◌∙◌}
use mathlib.Core.Bool.{Bool, true, false, not, ◌||◌, false≢true}
use mathlib.Core.List.{List}
use native.Mathlib.Omega.{arith}
use lib.Dec.{T, eqb}
use lib.Ieee.{Float, nan, inf, fin, binary64, is_nan, to_bits}
use lib.Ieee.Bits.{to_bits-of_bits}
use borrow.Author.Tests.{eqb-true, not-false}
use Rattle.arithmetic.specs.Numbers.{plus_zero, is_finite}
use Rattle.algebra.specs.Kind.{floats}
use Rattle.algebra.specs.Product.{at}
use Rattle.algebra.specs.Table.{table}
use Rattle.algebra.specs.Small.{Rows}
use Rattle.algebra.proofs.TableLaws.{table_at}
use Rattle.adjustment.proofs.WrittenLaws.{stack_at}
use Rattle.records.specs.format.Bytes.{byte, word, long}
use Rattle.records.specs.format.Scan.{any}
use Rattle.records.specs.format.Kinds.{width, value_holds, kind_at, archive_kinds, archive_table}
use Rattle.records.specs.format.File.{count, kind_of, padding_of, bits_of, value_of, out_of, bad_record, cell_count, cell_row, cell_column, beyond, not_finite}
use Rattle.records.specs.readers.Archive.{sizes_at, archived, archive_content, archive_bytes, coefficients, parameters, sizes, kinds, cell_value, archive_of, misscaled, refusal}
use Rattle.records.proofs.format.ScanLaws.{or-false, any_none, any-none-cells}
use Rattle.records.proofs.format.Slots.{Inside, sized_inside}
use Rattle.records.proofs.format.CellLaws.{own-cell}
use Rattle.records.proofs.format.Canonical.{Canon, canonical}
use Rattle.records.proofs.readers.AcceptedArchive.{AcceptedArchive, accepted-archive, archive-sized}
use Rattle.records.proofs.promises.ArchiveBack.{each-cell, archive-kind-below, archive-orderly}

-- ---- the bits of a record
-- eight bytes are a number below 2 ^ 64
pub long-below : (s : List ℕ) (a : ℕ) → ((i : ℕ) → byte s i < 256) → long s a < 2 ^ 64
unfolding long word
long-below s a h =
    let b0 = h a in
    let b1 = h (a + 1) in
    let b2 = h (a + 2) in
    let b3 = h (a + 3) in
    let b4 = h (a + 4) in
    let b5 = h (a + 4 + 1) in
    let b6 = h (a + 4 + 2) in
    let b7 = h (a + 4 + 3) in
    omega arith

-- a finite number is no NaN
pub finite_number : (x : Float) → is_finite x ≡ true → T (not (is_nan x))
unfolding is_finite is_nan
finite_number nan e = absurd (false≢true e)
finite_number (inf s) e = tt
finite_number (fin s m e) q = tt

-- what is read from a record's bits, and is finite, is written as these bits
bits_back : (s : List ℕ) (i : ℕ) → ((j : ℕ) → byte s j < 256) → i < count s → any (count s) (not_finite s) ≡ false → to_bits binary64 (value_of s i) ≡ bits_of s i
unfolding not_finite
bits_back s i h l f =
    to_bits-of_bits binary64 (bits_of s i) (long-below s (16 * i + 8) h) (finite_number (value_of s i) (not-false (is_finite (value_of s i)) (any_none (count s) (not_finite s) i l f)))

-- ---- an accepted archive
module _ (s : List ℕ) (h : AcceptedArchive s) where
  -- a scaled number has the bits of what is archived
  scaled-bits : (k n r c : ℕ) → misscaled s k ≡ false → Inside (kind_at (kinds s) k) n r c → to_bits binary64 (archived (archive_of s) k n r c) ≡ to_bits binary64 (cell_value s k n r c)
  unfolding misscaled
  scaled-bits k n r c e v =
      let z = kind_at (kinds s) k in
      let differs : ℕ → ℕ → ℕ → Bool = λ n r c. not (eqb (to_bits binary64 (cell_value s k n r c)) (to_bits binary64 (archived (archive_of s) k n r c))) in
      let none = any-none-cells (width z.count) (width z.row) (width z.column) differs e n r c v.number v.row v.column in
      sym (eqb-true (to_bits binary64 (cell_value s k n r c)) (to_bits binary64 (archived (archive_of s) k n r c)) (not-false (eqb (to_bits binary64 (cell_value s k n r c)) (to_bits binary64 (archived (archive_of s) k n r c))) none))

  -- every other is what is archived
  phi_number : (r c : ℕ) → r < coefficients s → c < coefficients s → archived (archive_of s) 15 0 r c ≡ cell_value s 15 0 r c
  unfolding archived archive_of
  phi_number r c l m = let b = (archive-sized s h).coefficients_below in table_at plus_zero 6 6 (coefficients s) (coefficients s) (cell_value s 15 0) r c nan l m b b

  phi_a-number : (r c : ℕ) → r < coefficients s → c < coefficients s → archived (archive_of s) 16 0 r c ≡ cell_value s 16 0 r c
  unfolding archived archive_of
  phi_a-number r c l m = let b = (archive-sized s h).coefficients_below in table_at plus_zero 6 6 (coefficients s) (coefficients s) (cell_value s 16 0) r c nan l m b b

  ps-number : (n r c : ℕ) → n < parameters s → r < coefficients s → c < coefficients s → archived (archive_of s) 17 n r c ≡ cell_value s 17 n r c
  unfolding archived archive_of
  ps-number n r c k l m =
      let b = (archive-sized s h).coefficients_below in
      ap (λ (x : Rows). at floats x r c) (stack_at 4 (parameters s) (λ i. table plus_zero 6 6 (coefficients s) (coefficients s) (cell_value s 17 i)) n k (archive-sized s h).parameters_below)
      ∙ table_at plus_zero 6 6 (coefficients s) (coefficients s) (cell_value s 17 n) r c nan l m b b

  w-number : (r c : ℕ) → r < parameters s → c < parameters s → archived (archive_of s) 14 0 r c ≡ cell_value s 14 0 r c
  unfolding archived archive_of
  w-number r c l m =
      let b = (archive-sized s h).parameters_below in
      let N : parameters s ≤ 6 = omega arith in
      table_at plus_zero 6 6 (parameters s) (parameters s) (cell_value s 14 0) r c nan l m N N

  sigma2-number : archived (archive_of s) 18 0 0 0 ≡ cell_value s 18 0 0 0
  unfolding archived archive_of
  sigma2-number = refl

  -- an unused field has one index
  none : (n : ℕ) → n < 1 → n ≡ 0
  none n l = omega arith

  -- so each cell has the bits of what is archived
  archived-bits : (k n r c : ℕ) → Inside (kind_at (kinds s) k) n r c → to_bits binary64 (archived (archive_of s) k n r c) ≡ to_bits binary64 (cell_value s k n r c)
  unfolding sizes kind_at archive_kinds sizes_at width
  archived-bits =
      each-cell (kinds s) (λ k n r c. to_bits binary64 (archived (archive_of s) k n r c) ≡ to_bits binary64 (cell_value s k n r c)) (
        λ n r c v. scaled-bits 11 n r c h.phi_scaled v,
        (
          λ n r c v. scaled-bits 12 n r c h.phi_a_scaled v,
          (
            λ n r c v. scaled-bits 13 n r c h.ps_scaled v,
            (
              λ n r c v. rw (none n v.number) (ap (to_bits binary64) (w-number r c v.row v.column)),
              (
                λ n r c v. rw (none n v.number) (ap (to_bits binary64) (phi_number r c v.row v.column)),
                (
                  λ n r c v. rw (none n v.number) (ap (to_bits binary64) (phi_a-number r c v.row v.column)),
                  (
                    λ n r c v. ap (to_bits binary64) (ps-number n r c v.number v.row v.column),
                    (λ n r c v. rw (none n v.number, none r v.row, none c v.column) (ap (to_bits binary64) sigma2-number), tt),
                  ),
                ),
              ),
            ),
          ),
        ),
      )

  -- what a record within the limits has: byte 3 is 0
  record-padding : (i : ℕ) → i < count s → padding_of s i ≡ 0
  unfolding bad_record
  record-padding i l =
      let k = kind_at archive_table (kind_of s i) in
      let b = any_none (count s) (bad_record archive_table s) i l h.formed.good in
      let d = or-false (out_of k s i || not (eqb (padding_of s i) 0)) (not (value_holds k.value (bits_of s i))) b in
      eqb-true (padding_of s i) 0 (not-false (eqb (padding_of s i) 0) (or-false (out_of k s i) (not (eqb (padding_of s i) 0)) d.0).1)

  -- its cell is one that the sizes leave
  record-inside : (i : ℕ) → i < count s → Inside (kind_at (kinds s) (kind_of s i)) (cell_count (kinds s) s i) (cell_row (kinds s) s i) (cell_column (kinds s) s i)
  record-inside i l = sized_inside (kinds s) s i (any_none (count s) (beyond (kinds s) s) i l h.formed.within)

  -- so the file is the table's cells in order, and its records say what is archived
  archive-canon : ((i : ℕ) → byte s i < 256) → Canon (kinds s) s (archive_content (archive_of s))
  unfolding archive_content
  archive-canon bytes =
      record {
        table = archive-orderly (sizes s);
        size = h.formed.whole;
        bytes = bytes;
        order = h.formed.rises;
        sized = h.formed.within;
        padding = record-padding;
        kinds = λ i l. archive-kind-below (sizes s) (kind_of s i) (cell_count (kinds s) s i) (cell_row (kinds s) s i) (cell_column (kinds s) s i) (record-inside i l);
        complete = h.formed.complete;
        says = λ i l. archived-bits (kind_of s i) (cell_count (kinds s) s i) (cell_row (kinds s) s i) (cell_column (kinds s) s i) (record-inside i l) ∙ ap (to_bits binary64) (own-cell (kinds s) s i l h.formed.once) ∙ bits_back s i bytes l h.finite;
      }

-- ANY ACCEPTED FILE WRITES BACK TO THE SAME BYTES
pub archive-again : (s : List ℕ) → ((i : ℕ) → byte s i < 256) → refusal s ≡ 0 → archive_bytes (archive_of s) ≡ s
unfolding archive_bytes archive_of sizes
archive-again s bytes e = sym (canonical (kinds s) s (archive_content (archive_of s)) (archive-canon s (accepted-archive s e) bytes))
