-- Document 01, demand 3, the verdict survives a change of converter: what it says of the Kenward–Roger call on the bytes of a record file, over the definitions that the C function
-- promises (the number that it returns, the seven entries, the bytes that it writes). Under another converter sigma2 is 4 ^ k times what it was, β and β_H 2 ^ k times, and row r of the contrast
-- 2 ^ (m r) times, each value as f64 multiplication gives it. w is the limit of specimens, 24 at the panel.
use Rattle.std.specs.Prelude.{ℕ, ◌*◌, ◌<◌, ◌≤◌, ◌≡◌, true, false, List, map, ℤ, nat_abs, length, get_or}
use Rattle.arithmetic.specs.Marks.{MarkBears}
use Rattle.arithmetic_cutoffs.specs.declared.Cutoffs.{Cutoffs}
use Rattle.arithmetic_cutoffs.specs.Cutoffs.{document_cutoffs}
use Rattle.tests.specs.Answer.{no_entry}
use Rattle.records.specs.readers.Series.{coefficients, contrast_rows}
use Rattle.records.specs.readers.CutoffTable.{bad_table, cutoffs_in, built_in_table}
use Rattle.records.specs.calls.KenwardRogerCall.{number, entries, returned, written}
use Rattle.records.specs.readers.Archive.{archive_length}
use Rattle.records.specs.readers.SecondFile.{own_tests}
use Rattle.records.specs.calls.ArchiveCall.{left_archive, testing_returned, testing_written}
use Rattle.records.specs.format.Layout.{answer_length}
use Rattle.tests.specs.Verdict.{verdict}
use Rattle.converter.specs.Converted.{kenward_roger_change, converted}
use Rattle.converter.specs.AnswerBytes.{SameAnswer}

-- "a run is inside when all its entries are": those in use, which are the coefficients' and, where the file has a contrast, entry 6
pub record AllInside (w : ℕ) (c : Cutoffs) (s : List ℕ) : Type 0 where
  pub coefficient : (i : ℕ) → i < coefficients s → (get_or (entries w c s) i no_entry).inside ≡ true
  pub contrast : 0 < contrast_rows s → (get_or (entries w c s) 6 no_entry).inside ≡ true

-- the same entries bear shifts up to 2 ^ t
pub record AllBear (t w : ℕ) (c : Cutoffs) (s : List ℕ) : Type 0 where
  pub coefficient : (i : ℕ) → i < coefficients s → MarkBears t (get_or (entries w c s) i no_entry).inside
  pub contrast : 0 < contrast_rows s → MarkBears t (get_or (entries w c s) 6 no_entry).inside

-- "F, df and rank are its verdict, and a run's verdict is the verdicts of all its entries": s' is accepted, and each of its entries has the rank, F and df of the entry of s, none
-- where that has none; the marks may differ
pub record SameVerdicts (w : ℕ) (c : Cutoffs) (s s' : List ℕ) : Type 0 where
  pub accepted : number w c s' ≡ 0
  pub verdicts : map verdict (entries w c s') ≡ map verdict (entries w c s)

-- P of a file and of what another converter makes of it, with the cutoffs c: every file that is accepted with entries that bear t, and every k and m that t covers, 2|k| ≤ t and |m r| ≤ t for each
-- contrast row r: sigma2 moves by 2k, row r by m r, and no number of a marked step by more than the larger of the two
abbrev pub SeriesBorne : (List ℕ → List ℕ → Type 0) → ℕ → Cutoffs → Type 0
SeriesBorne P w c =
    (t : ℕ) (s : List ℕ) (k : ℤ) (m : ℕ → ℤ) → 2 * nat_abs k ≤ t → ((r : ℕ) → r < contrast_rows s → nat_abs (m r) ≤ t) → number w c s ≡ 0 → AllBear t w c s
    → P s (converted (kenward_roger_change k m) s)

-- the same for every file that is accepted with all entries inside, k from -32 to 32 and for each contrast row an m of its own from -32 to 32
abbrev pub SeriesWith : (List ℕ → List ℕ → Type 0) → ℕ → Cutoffs → Type 0
SeriesWith P w c =
    (s : List ℕ) (k : ℤ) (m : ℕ → ℤ) → nat_abs k ≤ 32 → ((r : ℕ) → r < contrast_rows s → nat_abs (m r) ≤ 32) → number w c s ≡ 0 → AllInside w c s
    → P s (converted (kenward_roger_change k m) s)

-- "All statements, the converter's too, now read for each accepted table" (document 02, "Req 06"): P of a table's call, at the limit of specimens w
abbrev pub EachTable : (List ℕ → List ℕ → List ℕ → Type 0) → ℕ → Type 0
EachTable P w = (lab : List ℕ) → bad_table lab ≡ false → SeriesWith (P lab) w (cutoffs_in lab)

-- the same answer bytes of the call with a table, 168 of them, but for the marks
abbrev pub SameAnswers : ℕ → List ℕ → List ℕ → List ℕ → Type 0
SameAnswers w lab s s' = SameAnswer answer_length (written w lab s) (returned w lab s') (written w lab s')

-- FROM ONE PREMISE, what the marks bear: in entries, whatever the cutoffs are, and in answer bytes, for each accepted table
abbrev pub KenwardRogerBorne : Type 0
KenwardRogerBorne = (w : ℕ) (c : Cutoffs) → SeriesBorne (SameVerdicts w c) w c

abbrev pub KenwardRogerBorneAnswer : Type 0
KenwardRogerBorneAnswer = (w : ℕ) (lab : List ℕ) → bad_table lab ≡ false → SeriesBorne (SameAnswers w lab) w (cutoffs_in lab)

-- THE THIRD DEMAND, for the Kenward–Roger call: in entries, and in its answer bytes; with each accepted table and every limit of specimens: each that a byte can name, and any other, since nothing here turns on it
abbrev pub KenwardRogerDemand : Type 0
KenwardRogerDemand = (w : ℕ) → EachTable (λ lab. SameVerdicts w (cutoffs_in lab)) w

abbrev pub KenwardRogerAnswer : Type 0
KenwardRogerAnswer = (w : ℕ) → EachTable (SameAnswers w) w

-- and for a test from the series' archive with the series' own records of kinds 8 to 10 (document 02, "Req 02"), with one table on both sides: the archive and the second file of the converted series answer as those
-- of the series, each archive being the bytes that the writer left in the 7,184 that it was lent
abbrev pub SameArchiveAnswers : ℕ → List ℕ → List ℕ → List ℕ → Type 0
SameArchiveAnswers w lab s s' =
    (lent lent' : List ℕ) → length lent ≡ archive_length → length lent' ≡ archive_length
    → SameAnswer answer_length (testing_written lab (left_archive w lab s lent) (own_tests s)) (testing_returned lab (left_archive w lab s' lent') (own_tests s')) (testing_written lab (left_archive w lab s' lent') (own_tests s'))

abbrev pub ArchiveAnswer : Type 0
ArchiveAnswer = (w : ℕ) → EachTable (SameArchiveAnswers w) w

-- and at the panel, "specimens n 1–24"
abbrev pub PanelDemand : Type 0
PanelDemand = EachTable (λ lab. SameVerdicts 24 (cutoffs_in lab)) 24

abbrev pub PanelAnswer : Type 0
PanelAnswer = EachTable (SameAnswers 24) 24

-- and of its calls without a table, with document 01's cutoffs: the instance at the built-in table
abbrev pub BuiltInAnswer : Type 0
BuiltInAnswer = SeriesWith (SameAnswers 24 built_in_table) 24 document_cutoffs

abbrev pub BuiltInArchiveAnswer : Type 0
BuiltInArchiveAnswer = SeriesWith (SameArchiveAnswers 24 built_in_table) 24 document_cutoffs
