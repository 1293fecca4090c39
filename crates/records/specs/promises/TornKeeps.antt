-- Document 02, "Req 03": what is promised of series with torn specimens, on the bytes of files, for every limit of specimens, table and lent bytes.
use Rattle.std.specs.Prelude.{ℕ, ◌≡◌, Bool, true, false, not, ◌&&◌, ◌||◌, cond, List, [], ◌∷◌, ◌++◌, eqb, length, set}
use Rattle.arithmetic_cutoffs.specs.declared.Cutoffs.{Cutoffs}
use Rattle.algebra.specs.Kind.{marks}
use Rattle.algebra.specs.Reasons.{first}
use Rattle.adjustment.specs.Covariance.{Design, matrices}
use Rattle.adjustment.specs.Adjusted.{adjustment, adjustment_reasons}
use Rattle.tests.specs.declared.Run.{Run}
use Rattle.tests.specs.KenwardRoger.{scaled_by, run_of}
use Rattle.records.specs.format.Scan.{any}
use Rattle.records.specs.format.File.{count, kind_of, row_of, column_of}
use Rattle.records.specs.format.KindNumbers.{kind_x, kind_z, kind_weight}
use Rattle.records.specs.format.Written.{sequence, record_at}
use Rattle.records.specs.format.Layout.{answer_bytes, answer_length}
use Rattle.records.specs.calls.Call.{Call, call_returned, call_written}
use Rattle.records.specs.text.Text.{text_of}
use Rattle.records.specs.readers.Shortened.{torn, kept_below, shortened}
use Rattle.records.specs.readers.Series.{specimens, z_columns, contrast_rows, as_sent, reasons, refusal, design, phi, sigma2, beta, beta_h, contrast}
use Rattle.records.specs.calls.KenwardRogerCall.{number, entries, returned, written}
use Rattle.records.specs.calls.ArchiveCall.{archiving_returned, archiving_written}

-- ---- "The answer equals the definition's on the shortened series"
-- document 01's definition on a series in memory: d its design, and Φ, sigma2, β, the contrast and β_H from the file. The run, and what refuses it from 9 on.
module _ (c : Cutoffs) (d : Design) (s : List ℕ) where
  unfoldable pub design_run : Run
  design_run = run_of marks c (scaled_by marks d.p (matrices d) (phi s) (sigma2 s) (adjustment c d (phi s))) (beta s) (beta_h s) (contrast_rows s) (contrast s)

  unfoldable pub design_reasons : List (ℕ × Bool)
  design_reasons = adjustment_reasons c d (phi s) (sigma2 s) ++ ((10, design_run.refused) ∷ [])

-- what the call returns for the lent bytes and what they hold then, if the design is d: the table's reason is its own, and the reader's are the file's
abbrev pub design_call : ℕ → Design → List ℕ → Call
design_call w d s = record { stated = answer_length; besides = true; reasons = λ c. reasons w s ++ design_reasons c d s; full = λ c answer. answer_bytes (design_run c d s).entries }

module _ (w : ℕ) (lab : List ℕ) (d : Design) (s answer : List ℕ) where
  abbrev pub design_returned : ℕ
  design_returned = call_returned (design_call w d s) lab answer

  abbrev pub design_written : List ℕ
  design_written = call_written (design_call w d s) lab answer

-- ---- the file with the torn rows' records taken out and the others numbered anew
-- "1 X; 2 Z (absent is 0); .. 5 weight": the kinds of which a row is a specimen
unfoldable pub of_specimen : ℕ → Bool
of_specimen kind = eqb kind kind_x || eqb kind kind_z || eqb kind kind_weight

-- record i is a torn specimen's
unfoldable pub of_torn : List ℕ → ℕ → Bool
of_torn s i = of_specimen (kind_of s i) && torn (as_sent s) (row_of s i)

-- a specimen's new number: how many before it are kept
unfoldable pub new_row : List ℕ → ℕ → ℕ
new_row s r = length (kept_below r (torn (as_sent s)))

-- record i with its specimen's new number in byte 1
unfoldable pub renumbered : List ℕ → ℕ → List ℕ
renumbered s i = cond (of_specimen (kind_of s i)) (set (record_at s i) 1 (new_row s (row_of s i))) (record_at s i)

unfoldable pub without_torn : List ℕ → List ℕ
without_torn s = sequence (count s) (λ i. cond (of_torn s i) [] (renumbered s i))

-- record i is of a column of Z that loses its last record: it has none in a row that is kept. "sizes but n stay as sent", so that such a column stays in the series, as zeros; a file has its columns by the largest index,
-- and the file without the record may have fewer. It has as many where the last column keeps a record, whatever the others lose.
unfoldable pub column_lost : List ℕ → ℕ → Bool
column_lost s i = eqb (kind_of s i) kind_z && not (any (count s) (λ j. eqb (kind_of s j) kind_z && eqb (column_of s j) (column_of s i) && not (torn (as_sent s) (row_of s j))))

pub record TornKeeps : Type 0 where
  -- a series without a zero weight has the design that it had
  pub none_torn : (s : List ℕ) → any (specimens s) (torn (as_sent s)) ≡ false → design s ≡ as_sent s
  -- "The answer equals the definition's on the shortened series": the number that is returned, and the lent bytes
  pub short_number : (w : ℕ) (lab s answer : List ℕ) → returned w lab s answer ≡ design_returned w lab (shortened (as_sent s)) s answer
  pub short_bytes : (w : ℕ) (lab s answer : List ℕ) → written w lab s answer ≡ design_written w lab (shortened (as_sent s)) s answer
  -- and it is the answer of the file without the torn specimens, for every file that the reader accepts and that without them has as many columns of Z: number, lent bytes, the program's text, and the archive
  pub taken_number : (w : ℕ) (lab s answer : List ℕ) → refusal w s ≡ 0 → z_columns (without_torn s) ≡ z_columns s → returned w lab (without_torn s) answer ≡ returned w lab s answer
  pub taken_bytes : (w : ℕ) (lab s answer : List ℕ) → refusal w s ≡ 0 → z_columns (without_torn s) ≡ z_columns s → written w lab (without_torn s) answer ≡ written w lab s answer
  pub taken_text : (w : ℕ) (c : Cutoffs) (s : List ℕ) → refusal w s ≡ 0 → z_columns (without_torn s) ≡ z_columns s
      → text_of (number w c (without_torn s)) (entries w c (without_torn s)) ≡ text_of (number w c s) (entries w c s)
  pub taken_archive : (w : ℕ) (lab s lent : List ℕ) → refusal w s ≡ 0 → z_columns (without_torn s) ≡ z_columns s
      → (archiving_returned w lab (without_torn s) lent ≡ archiving_returned w lab s lent) × (archiving_written w lab (without_torn s) lent ≡ archiving_written w lab s lent)
  -- it has as many where no column loses its last record
  pub as_many : (w : ℕ) (s : List ℕ) → refusal w s ≡ 0 → any (count s) (column_lost s) ≡ false → z_columns (without_torn s) ≡ z_columns s
  -- where no specimen is torn it is the file itself
  pub taken_none : (w : ℕ) (s : List ℕ) → refusal w s ≡ 0 → any (specimens s) (torn (as_sent s)) ≡ false → without_torn s ≡ s
