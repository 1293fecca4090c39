-- "each number holds precisely under its condition", for the archive's two calls whole: for every limit of specimens, table, files and lent bytes, the call returns a refusal's number precisely where a line of the
-- call's list has this number, its condition holds and no earlier line's does; and where no condition holds the test returns 0 and the writer a length, from 128 on.
use Prim.Native.Nat.{ℕ, ◌%◌, ◌<◌, ◌≤◌}
use mathlib.Core.Path.{◌≡◌, refl, sym, ◌∙◌}
use mathlib.Core.Logic.{◌⊎◌, inl, inr}
use mathlib.Core.Bool.{Bool, true, false, cond}
use mathlib.Core.List.{List, ◌++◌}
use native.Mathlib.Omega.{arith}
use lib.Dec.{eqb}
use lib.ListN.{length}
use borrow.Author.Tests.{eq-eqb, eqb-true}
use Rattle.arithmetic_cutoffs.specs.declared.Cutoffs.{Cutoffs}
use Rattle.algebra.specs.Reasons.{first}
use Rattle.algebra.proofs.ReasonLaws.{Line, Gives, NoneHolds, Iff, Precisely, first-append}
use Rattle.adjustment.specs.Adjusted.{adjustment_reasons}
use Rattle.records.specs.format.Scan.{any}
use Rattle.records.specs.format.File.{count, length_reasons, form_reasons}
use Rattle.records.specs.format.Order.{falls, order_reasons}
use Rattle.records.specs.readers.Reader.{content_reasons}
use Rattle.records.specs.readers.CutoffTable.{bad_table, cutoffs_in}
use Rattle.records.specs.calls.Call.{call_reasons}
use Rattle.records.specs.readers.Series as series
use Rattle.records.specs.readers.Archive as archive
use Rattle.records.specs.readers.SecondFile as second
use Rattle.records.specs.calls.ArchiveCall.{series_reasons, archiving_call, archiving_returned, archive_test_reasons, from_archive_reasons, testing_call, testing_returned}
use Rattle.records.proofs.calls.Precisely.{file_refusal, past-both, file-twelve, file-thirteen}
use Rattle.records.proofs.calls.CallLaws.{call-precisely, call-fourteen, call-gives, by_length}
use Rattle.records.proofs.calls.ArchiveLengths.{archiving-refuses, archiving-accepts}

-- ---- one thing precisely where another is, and that precisely where a third
iff-then : {A B C : Type 0} → Iff A B → Iff B C → Iff A C
iff-then i j = record { to = λ a. j.to (i.to a); from = λ c. i.from (j.from c) }

-- ---- the writer: a number of its list, or a length
pub record WriterPrecisely (r : ℕ) (l : List Line) : Type 0 where
  pub refused : (n : ℕ) → (n ≡ 0 → ⊥) → n < 128 → Iff (r ≡ n) (Gives l n)
  pub accepted : Iff (128 ≤ r) (NoneHolds l)

-- 1; 14; 2, 12, 2, 13, 3 to 8 of the series; 9, 10, 10, 4 of the adjustment
pub archiving-precisely : (w : ℕ) (lab s lent : List ℕ) → WriterPrecisely (archiving_returned w lab s lent) (call_reasons (archiving_call w s) lab lent)
unfolding series_reasons series.reasons length_reasons order_reasons form_reasons series.block_reasons series.size_reasons series.value_reasons adjustment_reasons
archiving-precisely w lab s lent =
    let p = call-precisely (archiving_call w s) lab lent refl in
    record { refused = λ n z l. iff-then (archiving-refuses w lab s lent n z l) (p.refused n z); accepted = iff-then (archiving-accepts w lab s lent) p.accepted }

-- 14, precisely where the table is not accepted
pub archiving-fourteen : (w : ℕ) (lab s lent : List ℕ) → Iff (archiving_returned w lab s lent ≡ 14) ((length lent ≡ 7184) × (bad_table lab ≡ true))
unfolding series_reasons series.reasons length_reasons order_reasons form_reasons series.block_reasons series.size_reasons series.value_reasons adjustment_reasons
archiving-fourteen w lab s lent =
    iff-then (archiving-refuses w lab s lent 14 (λ z. omega arith) (omega arith)) (by_length (length lent) 7184 (call-fourteen (archiving_call w s) lab lent refl))

-- 12 and 13 of the series, precisely under their conditions
pub archiving-twelve : (w : ℕ) (lab s lent : List ℕ)
    → Iff (archiving_returned w lab s lent ≡ 12) ((length lent ≡ 7184) × (bad_table lab ≡ false) × (length s % 16 ≡ 0) × (falls s ≡ true))
unfolding series_reasons series.reasons length_reasons order_reasons form_reasons series.block_reasons series.size_reasons series.value_reasons adjustment_reasons
archiving-twelve w lab s lent =
    iff-then (archiving-refuses w lab s lent 12 (λ z. omega arith) (omega arith))
    (past-both (length lent) 7184 (call-gives (archiving_call w s) lab lent 12 (λ z. omega arith) (λ z. omega arith))
    (file-twelve (length s) (falls s) (content_reasons (series.reader w) s ++ adjustment_reasons (cutoffs_in lab) (series.design s) (series.phi s) (series.sigma2 s)) refl))

pub archiving-thirteen : (w : ℕ) (lab s lent : List ℕ)
    → Iff (archiving_returned w lab s lent ≡ 13) ((length lent ≡ 7184) × (bad_table lab ≡ false) × (file_refusal w s ≡ 0) × (any (count s) (series.miscounted s) ≡ true))
unfolding series_reasons series.reasons length_reasons order_reasons form_reasons series.block_reasons series.size_reasons series.value_reasons adjustment_reasons
archiving-thirteen w lab s lent =
    iff-then (archiving-refuses w lab s lent 13 (λ z. omega arith) (omega arith))
    (past-both (length lent) 7184 (call-gives (archiving_call w s) lab lent 13 (λ z. omega arith) (λ z. omega arith))
    (file-thirteen w s ((series.size_reasons s ++ series.value_reasons s) ++ adjustment_reasons (cutoffs_in lab) (series.design s) (series.phi s) (series.sigma2 s)) refl))

-- ---- the test from an archive
-- 1; 14; 2, 12, 2, 4, 5, 2 of the archive; 2, 12, 2, 4, 8 of the second file; a test's 10
pub testing-precisely : (lab s t answer : List ℕ) → Precisely (testing_returned lab s t answer) (call_reasons (testing_call s t) lab answer)
unfolding from_archive_reasons archive_test_reasons archive.reasons archive.value_reasons archive.scaled_reasons second.reasons second.formed_for second.value_reasons length_reasons order_reasons form_reasons
testing-precisely lab s t answer = call-precisely (testing_call s t) lab answer refl

pub testing-fourteen : (lab s t answer : List ℕ) → Iff (testing_returned lab s t answer ≡ 14) ((length answer ≡ 168) × (bad_table lab ≡ true))
unfolding from_archive_reasons archive_test_reasons archive.reasons archive.value_reasons archive.scaled_reasons second.reasons second.formed_for second.value_reasons length_reasons order_reasons form_reasons
testing-fourteen lab s t answer = by_length (length answer) 168 (call-fourteen (testing_call s t) lab answer refl)

-- 12, precisely where the archive falls, or where it is accepted and the second file falls
archive-twelve : (s : List ℕ) → Iff (archive.refusal s ≡ 12) ((length s % 16 ≡ 0) × (falls s ≡ true))
unfolding archive.refusal archive.reasons archive.value_reasons archive.scaled_reasons length_reasons order_reasons form_reasons
archive-twelve s = file-twelve (length s) (falls s) (content_reasons archive.reader s) refl

later-twelve : (c : Cutoffs) (s t : List ℕ) → Iff (first (second.reasons (archive.coefficients s) t ++ archive_test_reasons c s t) ≡ 12) ((length t % 16 ≡ 0) × (falls t ≡ true))
unfolding archive_test_reasons second.reasons second.formed_for second.value_reasons length_reasons order_reasons form_reasons
later-twelve c s t = file-twelve (length t) (falls t) (content_reasons (second.reader (archive.coefficients s)) t ++ archive_test_reasons c s t) refl

abbrev pub EitherFalls : List ℕ → List ℕ → Type 0
EitherFalls s t = ((length s % 16 ≡ 0) × (falls s ≡ true)) ⊎ ((archive.refusal s ≡ 0) × (length t % 16 ≡ 0) × (falls t ≡ true))

from-archive-twelve : (c : Cutoffs) (s t : List ℕ) → Iff (first (from_archive_reasons c s t) ≡ 12) (EitherFalls s t)
unfolding from_archive_reasons archive.refusal archive.reasons archive.value_reasons archive.scaled_reasons length_reasons order_reasons form_reasons
from-archive-twelve c s t = record { to = λ e. to (eqb (archive.refusal s) 0) refl (sym parted ∙ e); from = from }
  where
    later : List Line
    later = second.reasons (archive.coefficients s) t ++ archive_test_reasons c s t

    parted : first (from_archive_reasons c s t) ≡ cond (eqb (archive.refusal s) 0) (first later) (archive.refusal s)
    parted = first-append (archive.reasons s) later refl

    to : (b : Bool) → eqb (archive.refusal s) 0 ≡ b → cond b (first later) (archive.refusal s) ≡ 12 → EitherFalls s t
    to true q e = let p = (later-twelve c s t).to e in inr (eqb-true (archive.refusal s) 0 q, p.0, p.1)
    to false q e = inl ((archive-twelve s).to e)

    from : EitherFalls s t → first (from_archive_reasons c s t) ≡ 12
    from (inl p) = parted ∙ rw ((archive-twelve s).from p)
    from (inr p) = parted ∙ rw p.0 ((later-twelve c s t).from (p.1, p.2))

pub testing-twelve : (lab s t answer : List ℕ) → Iff (testing_returned lab s t answer ≡ 12) ((length answer ≡ 168) × (bad_table lab ≡ false) × EitherFalls s t)
testing-twelve lab s t answer =
    let i = call-gives (testing_call s t) lab answer 12 (λ z. omega arith) (λ z. omega arith) in
    let j = from-archive-twelve (cutoffs_in lab) s t in
    record {
      to = λ e. let p = i.to e in (eqb-true (length answer) 168 p.0, p.1, j.to p.2);
      from = λ p. i.from (eq-eqb (length answer) 168 p.0, p.1, j.from p.2);
    }
