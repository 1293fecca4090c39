-- The kinds of an archive, put one after another: what is put of each, where it starts, and that it has room.
use Prim.Native.Nat.{ℕ, ◌+◌, ◌*◌, ◌<◌, ◌≤◌}
use native.Mathlib.Omega.{arith}
use native.Mathlib.Numerals.{add-one}
use mathlib.Core.Path.{◌≡◌, refl, ap, sym, ◌∙◌}
use mathlib.Core.List.{List}
use lib.Ieee.{Float}
use lib.ListN.{length}
use lib.Seq.{sets}
use Rattle.algebra.specs.Small.{Rows}
use Rattle.adjustment.specs.Adjusted.{Stack}
use Rattle.records.specs.declared.Kind.{Kind}
use Rattle.records.specs.format.Scan.{total}
use Rattle.records.specs.format.Kinds.{width, Table, kind_at, kind_numbers, by_row_and_column, by_count, archive_kinds}
use Rattle.records.specs.format.Cells.{slots, first_slot}
use Rattle.records.specs.format.Written.{sequence, kind_file, file_of}
use Rattle.records.specs.readers.Archive.{Archive, sizes_at, archived, archive_content, archive_bytes}
use Rattle.records.proofs.format.ScanLaws.{total-more, total-le}
use Rattle.records.proofs.format.WrittenLaws.{length_front, length-file}
use Rattle.records.proofs.readers.Limits.{each-numbered}
use Rattle.records.proofs.calls.ArchiveLengths.{archive-slots}
use Rattle.records_archive_bytes.specs.joints.Parts.{archive_from, cell_bytes, line_bytes, sheet_bytes, matrices_bytes}
use Rattle.records_archive_bytes.proofs.StoredLaws.{pieces-next}

-- ---- an archive within document 01's limits: p coefficients, N variance parameters
module _ (p N : ℕ) (few : p ≤ 6) (fewer : N ≤ 4) where
  abbrev archive_sized : Table
  archive_sized = archive_kinds (sizes_at p N)

  -- each kind has at most four matrices of six rows of six
  pub record Narrow (z : Kind) : Type 0 where
    pub number : width z.count ≤ 4
    pub row : width z.row ≤ 6
    pub column : width z.column ≤ 6

  pub narrow : (k : ℕ) → Narrow (kind_at (archive_kinds (sizes_at p N)) k)
  unfolding archive_kinds sizes_at width
  narrow k =
      let square : Narrow (by_row_and_column p p) = record { number = omega arith; row = few; column = few } in
      let squares : Narrow (by_count N p p) = record { number = fewer; row = few; column = few } in
      each-numbered archive_sized (λ k z. Narrow z)
      (square, (square, (squares, (record { number = omega arith; row = omega arith; column = omega arith }, (square, (square, (squares, (record { number = omega arith; row = omega arith; column = omega arith }, tt)))))))) k
      (record { number = omega arith; row = omega arith; column = omega arith })

  -- kind k ends within the 7184 bytes
  pub kind-room : (k : ℕ) → k < kind_numbers → 16 * first_slot (archive_kinds (sizes_at p N)) k + 16 * slots (kind_at (archive_kinds (sizes_at p N)) k) ≤ 7184
  unfolding first_slot
  kind-room k l =
      let a = total-more k (λ j. slots (kind_at archive_sized j)) in
      let b = total-le (k + 1) kind_numbers (λ j. slots (kind_at archive_sized j)) (omega arith) in
      let d = archive-slots p N few fewer in
      omega arith

-- ---- the kinds one after another
module _ (p N : ℕ) (phi phi_a : Rows) (ps : Stack) (w : Rows) (sigma2 : Float) where
  abbrev parts : Archive
  parts = archive_from p N phi phi_a ps w sigma2

  abbrev front : ℕ → List ℕ
  front k = sequence k (kind_file (archive_kinds (sizes_at p N)) (archive_content parts))

  -- what is put of a kind is what the file has of it: a number does not look at the sizes
  kind-bytes : (k : ℕ) → matrices_bytes (archive_from 0 0 phi phi_a ps w sigma2) (kind_at (archive_kinds (sizes_at p N)) k) k ≡ kind_file (archive_kinds (sizes_at p N)) (archive_content parts) k
  unfolding matrices_bytes sheet_bytes line_bytes cell_bytes kind_file archive_content archived
  kind-bytes k = refl

  -- the kinds below k stand; and those below k + 1 after kind k is put
  pub record Front (out₀ out : List ℕ) (k at : ℕ) : Type 0 where
    pub place : at ≡ 16 * first_slot (archive_kinds (sizes_at p N)) k
    pub stands : out ≡ sets out₀ 0 (front k)

  pub front-none : (out₀ : List ℕ) → Front out₀ out₀ 0 0
  unfolding sequence first_slot total
  front-none out₀ = record { place = refl; stands = refl }

  pub front-more : (out₀ out end : List ℕ) (k at next : ℕ) (z : Kind) → Front out₀ out k at → z ≡ kind_at (archive_kinds (sizes_at p N)) k → next ≡ at + 16 * slots z
      → end ≡ sets out at (matrices_bytes (archive_from 0 0 phi phi_a ps w sigma2) z k) → Front out₀ end (k + 1) next
  unfolding first_slot
  front-more out₀ out end k at next z b ez en ee =
      let t = archive_kinds (sizes_at p N) in
      let l : length (front k) ≡ 16 * first_slot t k = length_front t (archive_content parts) k in
      let a = total-more k (λ j. slots (kind_at t j)) in
      let e : slots z ≡ slots (kind_at t k) = ap slots ez in
      let q : at ≡ 0 + length (front k) = let h = b.place in omega arith in
      let x : end ≡ sets out at (kind_file t (archive_content parts) k) = ee ∙ ap (λ (y : Kind). sets out at (matrices_bytes (archive_from 0 0 phi phi_a ps w sigma2) y k)) ez ∙ ap (sets out at) (kind-bytes k) in
      record { place = let h = b.place in omega arith; stands = pieces-next out₀ out end 0 k at (kind_file t (archive_content parts)) b.stands q x ∙ ap (λ (j : ℕ). sets out₀ 0 (front j)) (sym (add-one k)) }

  -- and all of them are the archive
  pub front-all : (out₀ out : List ℕ) (k at : ℕ) → k ≡ kind_numbers → Front out₀ out k at → (at ≡ length (archive_bytes parts)) × (out ≡ sets out₀ 0 (archive_bytes parts))
  unfolding archive_bytes file_of
  front-all out₀ out k at e b =
      let t = archive_kinds (sizes_at p N) in
      (b.place ∙ ap (λ (j : ℕ). 16 * first_slot t j) e ∙ sym (length-file t (archive_content parts)), b.stands ∙ ap (λ (j : ℕ). sets out₀ 0 (front j)) e)
