-- THE THIRD DEMAND, for the test from an archive: the verdict survives a change of converter, for each accepted table and every archive and second file that are accepted together, in
-- entries and in answer bytes.
use Prim.Native.Nat.{ℕ, ◌≤◌}
use native.Mathlib.Nat.{le_trans}
use native.Mathlib.Omega.{arith}
use mathlib.Core.Path.{◌≡◌, refl, ◌∙◌, subst}
use mathlib.Core.Bool.{false}
use mathlib.Core.List.{List}
use lib.Dec.{lit≤}
use lib.ListN.{length}
use Rattle.arithmetic.specs.Marks.{most_borne}
use Rattle.arithmetic.proofs.MarkLaws.{inside-bears}
use Rattle.arithmetic_cutoffs.specs.declared.Cutoffs.{Cutoffs}
use Rattle.records.specs.format.Layout.{answer_bytes}
use Rattle.records.specs.readers.CutoffTable.{bad_table, cutoffs_in, built_in_table}
use Rattle.records.specs.calls.Call.{call_written}
use Rattle.records.specs.calls.ArchiveCall.{from_archive_number, from_archive_entries, testing_call, testing_returned}
use Rattle.records.proofs.calls.CallLaws.{files-decide}
use Rattle.records.proofs.readers.CutoffLaws.{built-in-accepted, built-in-numbers}
use Rattle.converter.specs.Converted.{kenward_roger_change, archive_change, converted}
use Rattle.converter.specs.ArchiveDemand.{PairInside, PairBears, SamePairVerdicts, SamePairAnswers, PairWith, FromArchiveBorne, FromArchiveBorneAnswer, FromArchiveDemand, FromArchiveAnswer, BuiltInFromArchiveAnswer}
use Rattle.converter.proofs.AnswerBytes.{answer-same, same_answer}
use Rattle.converter_theorems.proofs.ArchiveCall.{pair_same}

-- ---- from one premise: every archive and second file that are accepted with marks that bear t, and every change that t covers
pub borne-from-archive : FromArchiveBorne
borne-from-archive c t s u k m near nears e bears = pair_same c s u k m near nears e bears

-- the entries of a run that is inside bear all that a mark bears
pub pair-bear : {t : ℕ} (c : Cutoffs) (s u : List ℕ) → t ≤ most_borne → PairInside c s u → PairBears t c s u
pair-bear c s u h inside = record { coefficient = λ i l. inside-bears h (inside.coefficient i l); contrast = λ l. inside-bears h (inside.contrast l) }

-- ---- k and m from -32 to 32: an inside mark bears 64, which covers twice such a k and such an m; with any cutoffs
pub within-from-archive : (c : Cutoffs) → PairWith (SamePairVerdicts c) c
within-from-archive c s u k m near nears e inside = borne-from-archive c 64 s u k m (omega arith) (λ r h. le_trans (nears r h) (lit≤ tt)) e (pair-bear c s u (lit≤ tt) inside)

-- Each accepted table, and every archive and second file that the test accepts with it and with all entries inside, whatever the second file asks: with sigma2, Φ and Φ_A in response units
-- times 4 ^ k, each P in response units divided by 4 ^ k, β and β_H times 2 ^ k and each contrast row times its own 2 ^ (m r), both are accepted again, and rank, F and df of every entry
-- are the same bits, or none where they were none.
pub converter-from-archive : FromArchiveDemand
converter-from-archive lab ok = within-from-archive (cutoffs_in lab)

-- ---- in answer bytes: files with the same verdicts have the same bytes but for the marks
module _ (lab : List ℕ) (ok : bad_table lab ≡ false) where
  -- an accepted table, two accepted files and bytes of the stated length: the call returns 0
  pair-returns : (s u : List ℕ) → from_archive_number (cutoffs_in lab) s u ≡ 0 → (answer : List ℕ) → length answer ≡ 168 → testing_returned lab s u answer ≡ 0
  unfolding from_archive_number
  pair-returns s u e answer h = files-decide (testing_call s u) lab answer refl h ok ∙ e

  pair-answer : (s u s' u' : List ℕ) → from_archive_number (cutoffs_in lab) s u ≡ 0 → SamePairVerdicts (cutoffs_in lab) s u s' u' → SamePairAnswers lab s u s' u'
  unfolding call_written
  pair-answer s u s' u' e v =
      same_answer 168 (testing_returned lab s u) (testing_returned lab s' u') (answer_bytes (from_archive_entries (cutoffs_in lab) s u)) (answer_bytes (from_archive_entries (cutoffs_in lab) s' u'))
      (pair-returns s u e) (pair-returns s' u' v.accepted) (answer-same (from_archive_entries (cutoffs_in lab) s u) (from_archive_entries (cutoffs_in lab) s' u') v.verdicts)

pub borne-answer-from-archive : FromArchiveBorneAnswer
borne-answer-from-archive lab ok t s u k m near nears e bears =
    pair-answer lab ok s u (converted (archive_change k) s) (converted (kenward_roger_change k m) u) e (borne-from-archive (cutoffs_in lab) t s u k m near nears e bears)

-- Each accepted table, and every archive and second file that the test accepts with it and with all entries inside: lent any 168 bytes, it returns 0 for the converted two as well, and
-- writes every byte that it writes for the two themselves, but byte 19 of each entry, the mark.
pub answer-from-archive : FromArchiveAnswer
answer-from-archive lab ok s u k m near nears e inside =
    pair-answer lab ok s u (converted (archive_change k) s) (converted (kenward_roger_change k m) u) e (converter-from-archive lab ok s u k m near nears e inside)

-- ---- THE CALL WITHOUT A TABLE is the instance at the built-in one, whose numbers are document 01's
pub built-in-from-archive-answer : BuiltInFromArchiveAnswer
built-in-from-archive-answer = subst (λ (c : Cutoffs). PairWith (SamePairAnswers built_in_table) c) built-in-numbers (answer-from-archive built_in_table built-in-accepted)
