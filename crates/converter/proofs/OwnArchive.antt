-- The file of an archive with the converted sigma2 is what the change makes of the archive's file: an accepted archive is written back to its bytes, and so is the converted one.
use Prim.Native.Nat.{ℕ, ◌+◌, ◌*◌, ◌/◌, ◌%◌, ◌≤◌, ◌<◌}
use native.Mathlib.Omega.{arith}
use native.Mathlib.Decide.{dec_lt}
use mathlib.Core.Path.{◌≡◌, sym, ap, ◌∙◌, subst}
use mathlib.Core.List.{List}
use lib.Dec.{lit<, lit≤}
use lib.IntN.{ℤ, ◌+ℤ◌}
use lib.ListN.{length, get_or-eq_default}
use lib.Ieee.{binary64, to_bits}
use Rattle.arithmetic.specs.Scale.{scale}
use Rattle.algebra.specs.Reasons.{first}
use Rattle.records.specs.declared.Kind.{Kind}
use Rattle.records.specs.format.Bytes.{byte}
use Rattle.records.specs.format.Kinds.{kind_at, kind_numbers, width, archive_kinds}
use Rattle.records.specs.format.Cells.{slot}
use Rattle.records.specs.format.Written.{field_of, cell_record, file_of}
use Rattle.records.specs.readers.Archive.{Archive, sizes_at, archived, archive_content, archive_bytes, archive_of, refusal}
use Rattle.records.specs.promises.ArchiveKeeps.{ReadsBack}
use Rattle.records.proofs.format.WrittenLaws.{length-file, byte-file}
use Rattle.records.proofs.format.ReadBack.{cell-of, field_below}
use Rattle.records.proofs.readers.Limits.{each-numbered}
use Rattle.records.proofs.readers.AcceptedArchive.{AcceptedArchive, accepted-archive}
use Rattle.records.proofs.promises.ArchiveAgain.{archive-again}
use Rattle.records.proofs.promises.ArchiveBack.{archive_kinds_of}
use Rattle.converter.specs.Converted.{archive_change, converted}
use Rattle.converter.proofs.Archive.{with_sigma2, ArchiveMoves, archive-after, reasons-same}
use Rattle.converter.proofs.Parts.{record-below, below-converted}

-- ---- an archive's file is made of bytes
module _ (a : Archive) (few : a.coefficients ≤ 6) (fewer : a.parameters ≤ 4) where
  -- no index that its kinds use is above a byte
  widths : (k : ℕ) → (width (kind_at (archive_kinds_of a) k).row ≤ 256) × (width (kind_at (archive_kinds_of a) k).column ≤ 256)
  unfolding archive_kinds sizes_at width
  widths k =
      let p : a.coefficients ≤ 256 = omega arith in
      let N : a.parameters ≤ 256 = omega arith in
      let one : 1 ≤ 256 = lit≤ tt in
      let none : 0 ≤ 256 = lit≤ tt in
      each-numbered (archive_kinds_of a) (λ k z. (width z.row ≤ 256) × (width z.column ≤ 256)) ((p, p), ((p, p), ((p, p), ((N, N), ((p, p), ((p, p), ((p, p), ((one, one), tt)))))))) k (none, one)

  record-byte : (k n r c o : ℕ) → k < kind_numbers → r < width (kind_at (archive_kinds_of a) k).row → c < width (kind_at (archive_kinds_of a) k).column
      → byte (cell_record (kind_at (archive_kinds_of a) k) k n r c (archive_content a k n r c)) o < 256
  unfolding cell_record archive_content
  record-byte k n r c o l i j =
      let z : Kind = kind_at (archive_kinds_of a) k in
      record-below k (field_of z.row r 0) (field_of z.column c 0) (field_of z.count n 0) (to_bits binary64 (archived a k n r c)) (omega arith)
      (field_below z.row r 0 256 i (widths k).0 (lit< tt)) (field_below z.column c 0 256 j (widths k).1 (lit< tt)) o

  file-bytes : (i : ℕ) → byte (archive_bytes a) i < 256
  unfolding archive_bytes
  file-bytes i = go (dec_lt i (length F))
    where
      F : List ℕ
      F = file_of (archive_kinds_of a) (archive_content a)

      go : Dec (i < length F) → byte F i < 256
      go (no l) = let past : length F ≤ i = omega arith in rw (get_or-eq_default F 0 past) (lit< tt)
      go (yes l) =
          let n = length-file (archive_kinds_of a) (archive_content a) in
          let x = cell-of (archive_kinds_of a) (i / 16) (omega arith) in
          let place = x.place in
          let e : i ≡ 16 * slot (archive_kinds_of a) x.kind x.number x.row x.column + i % 16 = omega arith in
          subst (λ (b : ℕ). b < 256)
          (sym (ap (byte F) e ∙ byte-file (archive_kinds_of a) (archive_content a) x.kind x.number x.row x.column (i % 16) x.below x.inside (omega arith)))
          (record-byte x.kind x.number x.row x.column (i % 16) x.below x.inside.row x.inside.column)

-- ---- THE FILE OF THE CONVERTED ARCHIVE
pub archive-converted : (k : ℤ) (a : Archive) → a.coefficients ≤ 6 → a.parameters ≤ 4 → ReadsBack a → ArchiveMoves k a
    → archive_bytes (with_sigma2 a (scale (k +ℤ k) a.sigma2)) ≡ converted (archive_change k) (archive_bytes a)
unfolding refusal
archive-converted k a few fewer back moves =
    let f : List ℕ = archive_bytes a in
    let taken : AcceptedArchive f = accepted-archive f back.accepted in
    let moved : ArchiveMoves k (archive_of f) = subst (ArchiveMoves k) (sym back.same) moves in
    ap (λ (b : Archive). archive_bytes (with_sigma2 b (scale (k +ℤ k) b.sigma2))) (sym back.same)
    ∙ ap archive_bytes (sym (archive-after f taken k moved))
    ∙ archive-again (converted (archive_change k) f) (below-converted (archive_change k) f (file-bytes a few fewer)) (ap first (reasons-same f taken k moved) ∙ back.accepted)
