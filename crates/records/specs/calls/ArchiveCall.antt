-- Document 02, "Req 02": the archive's two calls whole, the writer and the test from an archive, from the bytes of their files and the lab's table to their numbers and the lent bytes.
use Rattle.std.specs.Prelude.{ℕ, Bool, true, cond, List, [], ◌∷◌, ◌++◌, eqb, length, replicate, take}
use Rattle.std.proofs.lemmas.List.Edits.{sets}
use Rattle.arithmetic.specs.declared.Marked.{Marked}
use Rattle.arithmetic_cutoffs.specs.declared.Cutoffs.{Cutoffs}
use Rattle.algebra.specs.Kind.{marks}
use Rattle.algebra.specs.Reasons.{first}
use Rattle.adjustment.specs.Covariance.{matrices}
use Rattle.adjustment.specs.Adjusted.{scaled_up, adjustment_reasons}
use Rattle.tests.specs.declared.Entry.{Entry}
use Rattle.tests.specs.Answer.{no_entry}
use Rattle.tests.specs.declared.Run.{Run}
use Rattle.tests.specs.KenwardRoger.{Scaled, scaled_ps, run_of}
use Rattle.records.specs.format.Layout.{answer_bytes, answer_length}
use Rattle.records.specs.readers.CutoffTable.{cutoffs_in}
use Rattle.records.specs.calls.Call.{Call, call_returned, call_written}
use Rattle.records.specs.readers.Series as series
use Rattle.records.specs.calls.KenwardRogerCall.{adjusted}
use Rattle.records.specs.readers.Archive as archive
use Rattle.records.specs.readers.Archive.{Archive, archive_bytes, archive_of, archive_length}
use Rattle.records.specs.readers.SecondFile as second

-- ---- the writer, with the limit of specimens w
module _ (c : Cutoffs) (s : List ℕ) where
  -- "after the adjustment": what is archived of a file's series
  unfoldable pub series_archive : Archive
  series_archive = record {
    coefficients = series.coefficients s;
    parameters = matrices (series.design s);
    phi = series.phi s;
    phi_a = (adjusted c s).phi_a;
    ps = (adjusted c s).ps;
    w = (adjusted c s).w;
    sigma2 = series.sigma2 s;
  }

module _ (w : ℕ) (c : Cutoffs) (s : List ℕ) where
  -- what refuses a series: the reader's reasons, then the adjustment's. "any accepted adjustment": no test is made
  unfoldable pub series_reasons : List (ℕ × Bool)
  series_reasons = series.reasons w s ++ adjustment_reasons c (series.design s) (series.phi s) (series.sigma2 s)

  unfoldable pub series_refusal : ℕ
  series_refusal = first series_reasons

-- "The writer is lent 7,184 bytes", "fills them from the front, keeps the rest and returns the file's length"; a refusal returns its number and keeps them all
abbrev pub archiving_call : ℕ → List ℕ → Call
archiving_call w s = record { stated = archive_length; besides = true; reasons = λ c. series_reasons w c s; full = λ c lent. sets lent 0 (archive_bytes (series_archive c s)) }

-- what it returns: the length where nothing refuses
unfoldable pub told : Cutoffs → List ℕ → ℕ → ℕ
told c s n = cond (eqb n 0) (length (archive_bytes (series_archive c s))) n

module _ (w : ℕ) (lab s : List ℕ) where
  abbrev pub archiving_refusal : List ℕ → ℕ
  archiving_refusal lent = call_returned (archiving_call w s) lab lent

  abbrev pub archiving_returned : List ℕ → ℕ
  archiving_returned lent = told (cutoffs_in lab) s (archiving_refusal lent)

  abbrev pub archiving_written : List ℕ → List ℕ
  archiving_written lent = call_written (archiving_call w s) lab lent

  -- the archive as the writer left it: as many of the lent bytes, from the front, as it returned
  abbrev pub left_archive : List ℕ → List ℕ
  left_archive lent = take (archiving_returned lent) (archiving_written lent)

-- ---- the test from an archive
-- "the reader's test marks the scaling steps from them": Φ and Φ_A times sigma2, each P divided by it, from the records in residual units
unfoldable pub in_response_units : Archive → Scaled Marked
in_response_units a = record {
  p = a.coefficients;
  matrices = a.parameters;
  phi = scaled_up marks a.coefficients a.phi a.sigma2;
  phi_a = scaled_up marks a.coefficients a.phi_a a.sigma2;
  ps = scaled_ps marks a.coefficients a.parameters a.ps a.sigma2;
  w = a.w;
}

module _ (c : Cutoffs) (s t : List ℕ) where
  -- the direct run's tests, of each coefficient and of the contrast, from archive s and second file t
  unfoldable pub archive_run : Run
  archive_run = run_of marks c (in_response_units (archive_of s)) (second.beta t) (second.beta_h t) (second.contrast_rows t) (second.contrast t)

  -- a zero pivot in any one test
  unfoldable pub archive_test_reasons : List (ℕ × Bool)
  archive_test_reasons = (10, archive_run.refused) ∷ []

  -- what refuses, in order: the archive's reasons, the second file's, "judged after it", the tests'
  unfoldable pub from_archive_reasons : List (ℕ × Bool)
  from_archive_reasons = archive.reasons s ++ (second.reasons (archive.coefficients s) t ++ archive_test_reasons)

  unfoldable pub from_archive_number : ℕ
  from_archive_number = first from_archive_reasons

  unfoldable pub from_archive_entries : List Entry
  from_archive_entries = cond (eqb from_archive_number 0) archive_run.entries (replicate 7 no_entry)

-- the call: 168 bytes as in the direct call
abbrev pub testing_call : List ℕ → List ℕ → Call
testing_call s t = record { stated = answer_length; besides = true; reasons = λ c. from_archive_reasons c s t; full = λ c answer. answer_bytes (from_archive_entries c s t) }

module _ (lab s t : List ℕ) where
  abbrev pub testing_returned : List ℕ → ℕ
  testing_returned answer = call_returned (testing_call s t) lab answer

  abbrev pub testing_written : List ℕ → List ℕ
  testing_written answer = call_written (testing_call s t) lab answer
