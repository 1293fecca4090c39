-- THE THIRD DEMAND, whole: the verdict survives a change of converter, for each accepted table and every record file of either call, in entries and in answer bytes.
use Prim.Native.Nat.{ℕ, ◌<◌, ◌≤◌}
use native.Mathlib.Nat.{le_trans}
use native.Mathlib.Omega.{arith}
use mathlib.Core.Path.{◌≡◌, refl, sym, ◌∙◌, subst}
use mathlib.Core.Bool.{false}
use mathlib.Core.List.{List}
use lib.Dec.{T, lit≤}
use lib.ListN.{length, replicate}
use lib.Ieee.{binary64, fits}
use Rattle.arithmetic.specs.Marks.{most_borne}
use Rattle.arithmetic.proofs.MarkLaws.{inside-bears}
use Rattle.records.specs.format.Layout.{entry_bytes, answer_bytes}
use Rattle.records.specs.readers.CutoffTable.{bad_table, cutoffs_in, built_in_table}
use Rattle.records.specs.calls.Call.{call_written}
use Rattle.records.specs.calls.KenwardRogerCall as kenward_roger
use Rattle.records.specs.calls.SatterthwaiteCall as satterthwaite
use Rattle.records.specs.readers.Archive.{archive_length, archive_bytes}
use Rattle.records.specs.readers.SecondFile.{own_tests}
use Rattle.records.specs.calls.ArchiveCall.{series_archive, series_refusal, archiving_call, archiving_refusal, from_archive_number, testing_call}
use Rattle.records.proofs.calls.CallLaws.{files-decide}
use Rattle.records.proofs.readers.CutoffLaws.{rotation-fits, built-in-accepted, built-in-numbers}
use Rattle.records.proofs.promises.ArchiveKeeps.{answered-archived, archive-keeps}
use Rattle.converter.specs.Converted.{kenward_roger_change, satterthwaite_change, converted}
use Rattle.converter.specs.SeriesDemand.{AllInside, AllBear, SeriesWith, KenwardRogerBorne, KenwardRogerBorneAnswer, KenwardRogerDemand, KenwardRogerAnswer, ArchiveAnswer, PanelDemand, PanelAnswer, BuiltInAnswer, BuiltInArchiveAnswer, SameVerdicts, SameAnswers, SameArchiveAnswers}
use Rattle.converter.specs.ParametersDemand.{ParametersWith, SameEntryBytes, SatterthwaiteBorne, SatterthwaiteBorneAnswer, SatterthwaiteDemand, SatterthwaiteAnswer, BuiltInEntryAnswer, SameVerdict}
use Rattle.converter.proofs.AnswerBytes.{entry-same, answer-same, same_answer}
use Rattle.converter_theorems.proofs.SeriesCall.{series-same}
use Rattle.converter_theorems.proofs.ArchiveTheorem.{answer-from-archive}
use Rattle.converter_theorems.proofs.SeriesArchive.{own-archive-converted, own-rows, own-inside}
use Rattle.converter_theorems.proofs.ParametersCall.{parameters-same}
use Rattle.arithmetic_cutoffs.specs.declared.Cutoffs.{Cutoffs}

-- ---- from one premise: every file that a call accepts with marks that bear t, and every change that t covers
pub borne-kenward-roger : KenwardRogerBorne
borne-kenward-roger w c t s k m near nears e bears = series-same w c s k m near nears e bears

pub borne-satterthwaite : SatterthwaiteBorne
borne-satterthwaite c rotation t s k near e bears = parameters-same c rotation s k near e bears

-- the entries of a run that is inside bear all that a mark bears
pub inside-bear : {t : ℕ} (w : ℕ) (c : Cutoffs) (s : List ℕ) → t ≤ most_borne → AllInside w c s → AllBear t w c s
inside-bear w c s h inside = record { coefficient = λ i l. inside-bears h (inside.coefficient i l); contrast = λ l. inside-bears h (inside.contrast l) }

-- ---- k and m from -32 to 32: an inside mark bears 64, which covers twice such a k and such an m, and 128, which covers four times such a k; with any cutoffs, of the second test with an f64 number for its rotation test
pub within-kenward-roger : (w : ℕ) (c : Cutoffs) → SeriesWith (SameVerdicts w c) w c
within-kenward-roger w c s k m near nears e inside = borne-kenward-roger w c 64 s k m (omega arith) (λ r h. le_trans (nears r h) (lit≤ tt)) e (inside-bear w c s (lit≤ tt) inside)

pub within-satterthwaite : (c : Cutoffs) → T (fits binary64 c.rotation) → ParametersWith (SameVerdict c) c
within-satterthwaite c rotation s k near e inside = borne-satterthwaite c rotation 128 s k (omega arith) e (inside-bears (lit≤ tt) inside)

-- Each accepted table, every limit of specimens, and every file that the Kenward–Roger call accepts with them and with all entries inside: with sigma2 times 4 ^ k, β and β_H times 2 ^ k and each contrast row times its own
-- 2 ^ (m r), the call accepts the file again, and rank, F and df of every entry are the same bits, or none where they were none.
pub converter-kenward-roger : KenwardRogerDemand
converter-kenward-roger w lab ok = within-kenward-roger w (cutoffs_in lab)

-- at the panel, with at most 24 specimens
pub converter-panel : PanelDemand
converter-panel = converter-kenward-roger 24

-- Each accepted table, and every file that the Satterthwaite call accepts with it and with its entry inside: with v and each Jacobian times 4 ^ k, β and β_H times 2 ^ k, the call accepts the file again, and rank, F and df
-- are the same bits, or none where they were none.
pub converter-satterthwaite : SatterthwaiteDemand
converter-satterthwaite lab ok = within-satterthwaite (cutoffs_in lab) (rotation-fits lab)

-- ---- in answer bytes: files with the same verdicts have the same bytes but for the marks
module _ (lab : List ℕ) (ok : bad_table lab ≡ false) where
  abbrev own : Cutoffs
  own = cutoffs_in lab

  -- an accepted table, an accepted file and bytes of the stated length: the call returns 0
  series-returns : (w : ℕ) (s : List ℕ) → kenward_roger.number w own s ≡ 0 → (answer : List ℕ) → length answer ≡ 168 → kenward_roger.returned w lab s answer ≡ 0
  unfolding kenward_roger.number
  series-returns w s e answer h = files-decide (kenward_roger.series_call w s) lab answer refl h ok ∙ e

  pub parameters-returns : (s : List ℕ) → satterthwaite.number own s ≡ 0 → (answer : List ℕ) → length answer ≡ 24 → satterthwaite.returned lab s answer ≡ 0
  unfolding satterthwaite.number
  parameters-returns s e answer h = files-decide (satterthwaite.test_call s) lab answer refl h ok ∙ e

  series-answer : (w : ℕ) (s s' : List ℕ) → kenward_roger.number w own s ≡ 0 → SameVerdicts w own s s' → SameAnswers w lab s s'
  unfolding call_written
  series-answer w s s' e v =
      same_answer 168 (kenward_roger.returned w lab s) (kenward_roger.returned w lab s') (answer_bytes (kenward_roger.entries w own s)) (answer_bytes (kenward_roger.entries w own s')) (series-returns w s e)
      (series-returns w s' v.accepted) (answer-same (kenward_roger.entries w own s) (kenward_roger.entries w own s') v.verdicts)

  parameters-answer : (s s' : List ℕ) → satterthwaite.number own s ≡ 0 → SameVerdict own s s' → SameEntryBytes lab s s'
  unfolding call_written
  parameters-answer s s' e v =
      same_answer 24 (satterthwaite.returned lab s) (satterthwaite.returned lab s') (entry_bytes (satterthwaite.entry own s)) (entry_bytes (satterthwaite.entry own s')) (parameters-returns s e)
      (parameters-returns s' v.accepted) (entry-same (satterthwaite.entry own s) (satterthwaite.entry own s') v.same)

pub borne-answer-kenward-roger : KenwardRogerBorneAnswer
borne-answer-kenward-roger w lab ok t s k m near nears e bears =
    series-answer lab ok w s (converted (kenward_roger_change k m) s) e (borne-kenward-roger w (cutoffs_in lab) t s k m near nears e bears)

pub borne-answer-satterthwaite : SatterthwaiteBorneAnswer
borne-answer-satterthwaite lab ok t s k near e bears =
    parameters-answer lab ok s (converted (satterthwaite_change k) s) e (borne-satterthwaite (cutoffs_in lab) (rotation-fits lab) t s k near e bears)

-- Each accepted table, and every file that the Kenward–Roger call accepts with it and with all entries inside: lent any 168 bytes, it returns 0 for the converted file too, and writes every byte that it writes for the
-- file itself, but byte 19 of each entry, the mark.
pub answer-kenward-roger : KenwardRogerAnswer
answer-kenward-roger w lab ok s k m near nears e inside =
    series-answer lab ok w s (converted (kenward_roger_change k m) s) e (converter-kenward-roger w lab ok s k m near nears e inside)

-- a series that the call accepts is archived, in lent bytes of the stated length
archived-left : (lab : List ℕ) → bad_table lab ≡ false → (w : ℕ) (s : List ℕ) → kenward_roger.number w (cutoffs_in lab) s ≡ 0 → (lent : List ℕ) → length lent ≡ archive_length → archiving_refusal w lab s lent ≡ 0
unfolding series_refusal
archived-left lab ok w s e lent h = files-decide (archiving_call w s) lab lent refl h ok ∙ answered-archived w (cutoffs_in lab) s e

-- the test from a series' archive with the series' own tests: both are accepted where the series is
own-accepted : (lab : List ℕ) → bad_table lab ≡ false → (w : ℕ) (s : List ℕ) → kenward_roger.number w (cutoffs_in lab) s ≡ 0
    → from_archive_number (cutoffs_in lab) (archive_bytes (series_archive (cutoffs_in lab) s)) (own_tests s) ≡ 0
unfolding from_archive_number
own-accepted lab ok w s e =
    let file = archive_bytes (series_archive (cutoffs_in lab) s) in
    let answer : List ℕ = replicate 168 0 in
    sym (files-decide (testing_call file (own_tests s)) lab answer refl refl ok)
    ∙ archive-keeps.archived_number w lab s answer (answered-archived w (cutoffs_in lab) s e)
    ∙ series-returns lab ok w s e answer refl

-- So does a test from its archive, as the writer left it, with its own records of kinds 8 to 10 and the same table: the converted series' archive and own tests are what the changes make of the series' own, and what holds of
-- every archive and second file holds of these.
pub answer-archive : ArchiveAnswer
answer-archive w lab ok s k m near nears e inside =
    let c = cutoffs_in lab in
    let s' = converted (kenward_roger_change k m) s in
    let n = own-accepted lab ok w s e in
    let own = own-archive-converted w c 64 s k m (omega arith) (λ r h. le_trans (nears r h) (lit≤ tt)) e (inside-bear w c s (lit≤ tt) inside) in
    let same = answer-from-archive lab ok (archive_bytes (series_archive c s)) (own_tests s) k m near (λ r h. nears r (subst (λ (j : ℕ). r < j) (own-rows w c s e) h)) n (own-inside w c s e n inside) in
    λ lent lent' stated stated'.
    let h = archived-left lab ok w s e lent stated in
    let h' = archived-left lab ok w s' (converter-kenward-roger w lab ok s k m near nears e inside).accepted lent' stated' in
    rw (archive-keeps.left w lab s lent h, archive-keeps.left w lab s' lent' h', own.archive, own.tests) same

pub answer-panel : PanelAnswer
answer-panel = answer-kenward-roger 24

-- Each accepted table, and every file that the Satterthwaite call accepts with it and with its entry inside, lent any 24 bytes, likewise.
pub answer-satterthwaite : SatterthwaiteAnswer
answer-satterthwaite lab ok s k near e inside =
    parameters-answer lab ok s (converted (satterthwaite_change k) s) e (converter-satterthwaite lab ok s k near e inside)

-- ---- THE CALLS WITHOUT A TABLE are the instances at the built-in one, whose numbers are document 01's
pub built-in-answer : BuiltInAnswer
built-in-answer = subst (λ (c : Cutoffs). SeriesWith (SameAnswers 24 built_in_table) 24 c) built-in-numbers (answer-panel built_in_table built-in-accepted)

pub built-in-archive-answer : BuiltInArchiveAnswer
built-in-archive-answer = subst (λ (c : Cutoffs). SeriesWith (SameArchiveAnswers 24 built_in_table) 24 c) built-in-numbers (answer-archive 24 built_in_table built-in-accepted)

pub built-in-entry-answer : BuiltInEntryAnswer
built-in-entry-answer = subst (λ (c : Cutoffs). ParametersWith (SameEntryBytes built_in_table) c) built-in-numbers (answer-satterthwaite built_in_table built-in-accepted)
