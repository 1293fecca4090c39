-- Document 02, "Req 02": what is promised of an archive (specs/promises/ArchiveKeeps.antt) holds. The test from an archive gives the direct run's answer: the archive's file and the series' own tests are accepted,
-- what they say is what the series says and its adjustment gives, and so the run is the same.
use Prim.Native.Nat.{ℕ}
use mathlib.Core.Path.{◌≡◌, refl, ap, sym, ◌∙◌}
use mathlib.Core.Bool.{cond}
use mathlib.Core.List.{List, ◌++◌}
use lib.Dec.{eqb}
use lib.ListN.{length}
use Rattle.arithmetic_cutoffs.specs.declared.Cutoffs.{Cutoffs}
use Rattle.algebra.specs.Reasons.{first}
use Rattle.algebra.proofs.ReasonLaws.{first-front}
use Rattle.adjustment.specs.Adjusted.{adjustment_reasons}
use Rattle.tests.specs.declared.Run.{Run}
use Rattle.tests.specs.KenwardRoger.{scaled_by}
use Rattle.records.specs.format.File.{length_reasons, form_reasons}
use Rattle.records.specs.format.Order.{order_reasons}
use Rattle.records.specs.readers.Series as series
use Rattle.records.specs.readers.Archive as archive
use Rattle.records.specs.readers.Archive.{archive_bytes}
use Rattle.records.specs.readers.SecondFile as second
use Rattle.records.specs.readers.SecondFile.{own_tests}
use Rattle.records.specs.readers.CutoffTable.{cutoffs_in}
use Rattle.records.specs.calls.KenwardRogerCall.{scaled, run, test_reasons, all_reasons, number, entries, series_call, returned, written}
use Rattle.records.specs.calls.ArchiveCall.{series_archive, series_reasons, series_refusal, in_response_units, archive_run, archive_test_reasons, from_archive_reasons, from_archive_number, from_archive_entries, testing_call, testing_returned, testing_written}
use Rattle.records.specs.promises.ArchiveKeeps.{ArchiveKeeps}
use Rattle.records.proofs.calls.CallLaws.{first_next, number_is, AnswersAlike, alike-returned, alike-written}
use Rattle.records.proofs.promises.OwnTests.{tests-accepted, tests_same}
use Rattle.records.proofs.promises.ArchiveBack.{archive-coefficients, series-accepted, series-adjusted, series-archivable, series-reads-back}
use Rattle.records.proofs.calls.ArchiveFront.{archiving-front, archiving-rest, archive-left, archived-series}
use Rattle.records.proofs.calls.ArchiveLengths.{archiving-length, archiving-number}
use Rattle.records.proofs.promises.ArchiveAgain.{archive-again}

-- ---- an accepted series, its archive's file and its own tests
module _ (w : ℕ) (c : Cutoffs) (s : List ℕ) (e : series_refusal w c s ≡ 0) where
  -- "the reader's test marks the scaling steps": what it starts from is what the direct run starts from
  units-same : in_response_units (series_archive c s) ≡ scaled c s
  unfolding in_response_units series_archive scaled scaled_by
  units-same = refl

  run-same : archive_run c (archive_bytes (series_archive c s)) (own_tests s) ≡ run c s
  unfolding archive_run run
  run-same =
      let b = series-reads-back w c s e in
      let q = tests_same w s (series-accepted w c s e) in
      rw (b.same, units-same, q.beta, q.beta_h, q.contrast_rows, q.contrast)

  -- both files are accepted, and so the number is the tests'
  coefficients-same : archive.coefficients (archive_bytes (series_archive c s)) ≡ series.coefficients s
  unfolding series_archive
  coefficients-same = archive-coefficients (series_archive c s) (series-archivable w c s e)

  tests-taken : second.refusal (archive.coefficients (archive_bytes (series_archive c s))) (own_tests s) ≡ 0
  tests-taken = ap (λ (p : ℕ). second.refusal p (own_tests s)) coefficients-same ∙ tests-accepted w s (series-accepted w c s e)

  from-archive-is : from_archive_number c (archive_bytes (series_archive c s)) (own_tests s) ≡ cond (run c s).refused 10 0
  unfolding from_archive_number from_archive_reasons archive_test_reasons archive.refusal archive.reasons archive.value_reasons archive.scaled_reasons second.refusal second.reasons second.formed_for second.value_reasons length_reasons order_reasons form_reasons first
  from-archive-is =
      let f = archive_bytes (series_archive c s) in
      let t = own_tests s in
      first_next (archive.reasons f) (second.reasons (archive.coefficients f) t ++ archive_test_reasons c f t) refl (series-reads-back w c s e).accepted
      ∙ first_next (second.reasons (archive.coefficients f) t) (archive_test_reasons c f t) refl tests-taken
      ∙ ap (λ (r : Run). cond r.refused 10 0) run-same

  number_same : from_archive_number c (archive_bytes (series_archive c s)) (own_tests s) ≡ number w c s
  number_same = from-archive-is ∙ sym (number_is c s w ∙ rw (series-accepted w c s e, series-adjusted w c s e))

-- with one table on both sides
module _ (w : ℕ) (lab s : List ℕ) (e : series_refusal w (cutoffs_in lab) s ≡ 0) where
  abbrev archived_file : List ℕ
  archived_file = archive_bytes (series_archive (cutoffs_in lab) s)

  -- "gives the direct run's answer, mark included": the number that is returned, and the lent bytes
  answers-alike : (answer : List ℕ) → AnswersAlike (testing_call archived_file (own_tests s)) (series_call w s) (cutoffs_in lab) answer
  unfolding from_archive_number number from_archive_entries entries
  answers-alike answer = record { stated = refl; besides = refl; number = number_same w (cutoffs_in lab) s e; full = λ z. rw (number_same w (cutoffs_in lab) s e, run-same w (cutoffs_in lab) s e) }

archived-number : (w : ℕ) (lab s answer : List ℕ) → series_refusal w (cutoffs_in lab) s ≡ 0 → testing_returned lab (archive_bytes (series_archive (cutoffs_in lab) s)) (own_tests s) answer ≡ returned w lab s answer
archived-number w lab s answer e = alike-returned (testing_call (archived_file w lab s e) (own_tests s)) (series_call w s) lab answer (answers-alike w lab s e answer)

archived-bytes : (w : ℕ) (lab s answer : List ℕ) → series_refusal w (cutoffs_in lab) s ≡ 0 → testing_written lab (archive_bytes (series_archive (cutoffs_in lab) s)) (own_tests s) answer ≡ written w lab s answer
archived-bytes w lab s answer e = alike-written (testing_call (archived_file w lab s e) (own_tests s)) (series_call w s) lab answer (answers-alike w lab s e answer)

-- a series that the direct call accepts is archived
pub answered-archived : (w : ℕ) (c : Cutoffs) (s : List ℕ) → number w c s ≡ 0 → series_refusal w c s ≡ 0
unfolding number all_reasons series_refusal series_reasons series.reasons length_reasons order_reasons form_reasons series.block_reasons series.size_reasons series.value_reasons adjustment_reasons
answered-archived w c s e = first-front (series_reasons w c s) (test_reasons c s) e

-- WHAT IS PROMISED OF AN ARCHIVE
pub archive-keeps : ArchiveKeeps
archive-keeps =
    record {
      read_back = series-reads-back;
      written_back = archive-again;
      same_number = λ w lab s lent answer e. rw (archive-left w lab s lent e) (archived-number w lab s answer (archived-series w lab s lent e));
      same_bytes = λ w lab s lent answer e. rw (archive-left w lab s lent e) (archived-bytes w lab s answer (archived-series w lab s lent e));
      left = archive-left;
      archived_number = archived-number;
      archived_bytes = archived-bytes;
      front = archiving-front;
      rest = archiving-rest;
      lengths = archiving-length;
      numbers = archiving-number;
    }
