-- Document 02, "Req 02": what is promised of an archive, on the bytes of files, for every limit of specimens, table and lent bytes.
use Rattle.std.specs.Prelude.{ℕ, ◌%◌, ◌<◌, ◌≤◌, ◌≡◌, List}
use Rattle.arithmetic_cutoffs.specs.declared.Cutoffs.{Cutoffs}
use Rattle.records.specs.format.Bytes.{byte}
use Rattle.records.specs.format.Kinds.{kind_at, width, archive_kinds}
use Rattle.records.specs.readers.CutoffTable.{cutoffs_in}
use Rattle.records.specs.calls.KenwardRogerCall.{returned, written}
use Rattle.records.specs.readers.Archive.{Archive, sizes_at, archived, archive_bytes, archive_of, refusal, cell_value, archive_length}
use Rattle.records.specs.readers.SecondFile.{own_tests}
use Rattle.records.specs.calls.ArchiveCall.{series_archive, series_refusal, archiving_refusal, archiving_returned, archiving_written, left_archive, testing_returned, testing_written}

-- the cells of an archive: index n, row r and column d of kind k are below what its sizes leave the kind
pub record ArchiveCell (a : Archive) (k n r d : ℕ) : Type 0 where
  pub index : n < width (kind_at (archive_kinds (sizes_at a.coefficients a.parameters)) k).count
  pub row : r < width (kind_at (archive_kinds (sizes_at a.coefficients a.parameters)) k).row
  pub column : d < width (kind_at (archive_kinds (sizes_at a.coefficients a.parameters)) k).column

-- an archive a whose file is accepted and read back: what the file archives is a, and each cell's number, scaled or not, the one that was written
pub record ReadsBack (a : Archive) : Type 0 where
  pub accepted : refusal (archive_bytes a) ≡ 0
  pub same : archive_of (archive_bytes a) ≡ a
  pub cells : (k n r d : ℕ) → ArchiveCell a k n r d → cell_value (archive_bytes a) k n r d ≡ archived a k n r d

pub record ArchiveKeeps : Type 0 where
  -- "Written records of any accepted adjustment read back to the same bits"
  pub read_back : (w : ℕ) (c : Cutoffs) (s : List ℕ) → series_refusal w c s ≡ 0 → ReadsBack (series_archive c s)
  -- "any accepted file writes back to the same bytes"
  pub written_back : (s : List ℕ) → ((i : ℕ) → byte s i < 256) → refusal s ≡ 0 → archive_bytes (archive_of s) ≡ s
  -- "A test from the archive, with the series' kinds 8 to 10 lent as a second file .., gives the direct run's answer, mark included": the number that is returned, and the lent bytes; "Req 06": with one table on both sides.
  -- From end to end: the archive is the bytes that the writer left in what it was lent
  pub same_number : (w : ℕ) (lab s lent answer : List ℕ) → archiving_refusal w lab s lent ≡ 0 → testing_returned lab (left_archive w lab s lent) (own_tests s) answer ≡ returned w lab s answer
  pub same_bytes : (w : ℕ) (lab s lent answer : List ℕ) → archiving_refusal w lab s lent ≡ 0 → testing_written lab (left_archive w lab s lent) (own_tests s) answer ≡ written w lab s answer
  -- these are the series' archive
  pub left : (w : ℕ) (lab s lent : List ℕ) → archiving_refusal w lab s lent ≡ 0 → left_archive w lab s lent ≡ archive_bytes (series_archive (cutoffs_in lab) s)
  -- and with the archive's bytes, however they came, it is so under every list of bytes as the table, also where both calls refuse it
  pub archived_number : (w : ℕ) (lab s answer : List ℕ) → series_refusal w (cutoffs_in lab) s ≡ 0 → testing_returned lab (archive_bytes (series_archive (cutoffs_in lab) s)) (own_tests s) answer ≡ returned w lab s answer
  pub archived_bytes : (w : ℕ) (lab s answer : List ℕ) → series_refusal w (cutoffs_in lab) s ≡ 0 → testing_written lab (archive_bytes (series_archive (cutoffs_in lab) s)) (own_tests s) answer ≡ written w lab s answer
  -- the writer "fills them from the front, keeps the rest": the file's bytes below the length that it returns, and from there on what was lent
  pub front : (w : ℕ) (lab s lent : List ℕ) → archiving_refusal w lab s lent ≡ 0 → (i : ℕ) → i < archiving_returned w lab s lent → byte (archiving_written w lab s lent) i ≡ byte (archive_bytes (series_archive (cutoffs_in lab) s)) i
  pub rest : (w : ℕ) (lab s lent : List ℕ) → archiving_refusal w lab s lent ≡ 0 → (i : ℕ) → archiving_returned w lab s lent ≤ i → byte (archiving_written w lab s lent) i ≡ byte lent i
  -- what it "returns": a length is at least 128 and a multiple of 16, within the lent bytes; no refusal's number is so large
  pub lengths : (w : ℕ) (lab s lent : List ℕ) → archiving_refusal w lab s lent ≡ 0
      → (128 ≤ archiving_returned w lab s lent) × (archiving_returned w lab s lent % 16 ≡ 0) × (archiving_returned w lab s lent ≤ archive_length)
  pub numbers : (w : ℕ) (lab s lent : List ℕ) → (archiving_refusal w lab s lent ≡ 0 → ⊥) → archiving_returned w lab s lent < 128
