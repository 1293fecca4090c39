-- Document 01, demand 3, the verdict survives a change of converter, for the test from an archive of document 02's "Req 02": "A test from the archive, with the series' kinds 8 to 10 lent
-- as a second file". It is said of every archive s and every second file u that the test accepts together, whether the questions of u are the series' own or others. Under another converter
-- the archive holds sigma2, Φ and Φ_A in response units 4 ^ k times what they were, each P in response units divided by 4 ^ k, and the second file β and β_H 2 ^ k times and row r of the
-- contrast 2 ^ (m r) times what it was, each value as f64 multiplication or division gives it.
use Rattle.std.specs.Prelude.{ℕ, ◌*◌, ◌<◌, ◌≤◌, ◌≡◌, true, false, List, map, ℤ, nat_abs, get_or}
use Rattle.arithmetic.specs.Marks.{MarkBears}
use Rattle.arithmetic_cutoffs.specs.declared.Cutoffs.{Cutoffs}
use Rattle.arithmetic_cutoffs.specs.Cutoffs.{document_cutoffs}
use Rattle.tests.specs.Answer.{no_entry}
use Rattle.tests.specs.Verdict.{verdict}
use Rattle.records.specs.format.Layout.{answer_length}
use Rattle.records.specs.readers.CutoffTable.{bad_table, cutoffs_in, built_in_table}
use Rattle.records.specs.readers.Archive.{archive_bytes, coefficients}
use Rattle.records.specs.readers.SecondFile.{contrast_rows, own_tests}
use Rattle.records.specs.calls.ArchiveCall.{series_archive, from_archive_number, from_archive_entries, testing_returned, testing_written}
use Rattle.records.specs.readers.Series as series
use Rattle.records.specs.calls.KenwardRogerCall.{number}
use Rattle.converter.specs.Converted.{kenward_roger_change, archive_change, converted}
use Rattle.converter.specs.AnswerBytes.{SameAnswer}
use Rattle.converter.specs.SeriesDemand.{AllBear}

-- "a run is inside when all its entries are": those in use, which are the archive's coefficients' and, where the second file has a contrast, entry 6
pub record PairInside (c : Cutoffs) (s u : List ℕ) : Type 0 where
  pub coefficient : (i : ℕ) → i < coefficients s → (get_or (from_archive_entries c s u) i no_entry).inside ≡ true
  pub contrast : 0 < contrast_rows u → (get_or (from_archive_entries c s u) 6 no_entry).inside ≡ true

-- the same entries bear shifts up to 2 ^ t
pub record PairBears (t : ℕ) (c : Cutoffs) (s u : List ℕ) : Type 0 where
  pub coefficient : (i : ℕ) → i < coefficients s → MarkBears t (get_or (from_archive_entries c s u) i no_entry).inside
  pub contrast : 0 < contrast_rows u → MarkBears t (get_or (from_archive_entries c s u) 6 no_entry).inside

-- "F, df and rank are its verdict, and a run's verdict is the verdicts of all its entries": s' and u' are accepted together, and each of their entries has the rank, F and df of the entry
-- of s and u, none where that has none; the marks may differ
pub record SamePairVerdicts (c : Cutoffs) (s u s' u' : List ℕ) : Type 0 where
  pub accepted : from_archive_number c s' u' ≡ 0
  pub verdicts : map verdict (from_archive_entries c s' u') ≡ map verdict (from_archive_entries c s u)

-- the same answer bytes of the call with a table, 168 of them, but for the marks
abbrev pub SamePairAnswers : List ℕ → List ℕ → List ℕ → List ℕ → List ℕ → Type 0
SamePairAnswers lab s u s' u' = SameAnswer answer_length (testing_written lab s u) (testing_returned lab s' u') (testing_written lab s' u')

-- P of two files and of what another converter makes of both, with the cutoffs c: every archive and second file that are accepted with entries that bear t, and every k and m that t covers,
-- 2|k| ≤ t and |m r| ≤ t for each contrast row r
abbrev pub PairBorne : (List ℕ → List ℕ → List ℕ → List ℕ → Type 0) → Cutoffs → Type 0
PairBorne P c =
    (t : ℕ) (s u : List ℕ) (k : ℤ) (m : ℕ → ℤ) → 2 * nat_abs k ≤ t → ((r : ℕ) → r < contrast_rows u → nat_abs (m r) ≤ t) → from_archive_number c s u ≡ 0 → PairBears t c s u
    → P s u (converted (archive_change k) s) (converted (kenward_roger_change k m) u)

-- the same for every archive and second file that are accepted with all entries inside, k from -32 to 32 and for each contrast row an m of its own from -32 to 32
abbrev pub PairWith : (List ℕ → List ℕ → List ℕ → List ℕ → Type 0) → Cutoffs → Type 0
PairWith P c =
    (s u : List ℕ) (k : ℤ) (m : ℕ → ℤ) → nat_abs k ≤ 32 → ((r : ℕ) → r < contrast_rows u → nat_abs (m r) ≤ 32) → from_archive_number c s u ≡ 0 → PairInside c s u
    → P s u (converted (archive_change k) s) (converted (kenward_roger_change k m) u)

-- FROM ONE PREMISE, what the marks bear: in entries, whatever the cutoffs are, and in answer bytes, for each accepted table
abbrev pub FromArchiveBorne : Type 0
FromArchiveBorne = (c : Cutoffs) → PairBorne (SamePairVerdicts c) c

abbrev pub FromArchiveBorneAnswer : Type 0
FromArchiveBorneAnswer = (lab : List ℕ) → bad_table lab ≡ false → PairBorne (SamePairAnswers lab) (cutoffs_in lab)

-- THE THIRD DEMAND, for the test from an archive: in entries, and in its answer bytes; "for each accepted table" (document 02, "Req 06")
abbrev pub FromArchiveDemand : Type 0
FromArchiveDemand = (lab : List ℕ) → bad_table lab ≡ false → PairWith (SamePairVerdicts (cutoffs_in lab)) (cutoffs_in lab)

abbrev pub FromArchiveAnswer : Type 0
FromArchiveAnswer = (lab : List ℕ) → bad_table lab ≡ false → PairWith (SamePairAnswers lab) (cutoffs_in lab)

-- and of the call without a table, with document 01's cutoffs: the instance at the built-in table
abbrev pub BuiltInFromArchiveAnswer : Type 0
BuiltInFromArchiveAnswer = PairWith (SamePairAnswers built_in_table) document_cutoffs

-- ---- the series' own archive and tests: under another converter they are what the two changes make of them, so that the answer from a converted series' archive (SeriesDemand,
-- `ArchiveAnswer`) is one of these
pub record OwnConverted (c : Cutoffs) (k : ℤ) (m : ℕ → ℤ) (s s' : List ℕ) : Type 0 where
  pub archive : archive_bytes (series_archive c s') ≡ converted (archive_change k) (archive_bytes (series_archive c s))
  pub tests : own_tests s' ≡ converted (kenward_roger_change k m) (own_tests s)

abbrev pub OwnArchiveConverted : Type 0
OwnArchiveConverted =
    (w : ℕ) (c : Cutoffs) (t : ℕ) (s : List ℕ) (k : ℤ) (m : ℕ → ℤ) → 2 * nat_abs k ≤ t → ((r : ℕ) → r < series.contrast_rows s → nat_abs (m r) ≤ t)
    → number w c s ≡ 0 → AllBear t w c s → OwnConverted c k m s (converted (kenward_roger_change k m) s)
