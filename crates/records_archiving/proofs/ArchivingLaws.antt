-- The number and the lent bytes of the archive's writer, by who refuses: the lent length, the table, the reader, the adjustment; and what is archived of a series that none refuses.
use Prim.Native.Nat.{ℕ, ◌≤◌}
use native.Mathlib.Omega.{arith}
use mathlib.Core.Path.{◌≡◌, refl, sym, ap, ◌∙◌}
use mathlib.Core.Bool.{true, false, cond}
use mathlib.Core.List.{List}
use lib.Dec.{eqb}
use lib.ListN.{length}
use lib.Ieee.{Float}
use lib.Seq.{sets}
use borrow.Author.Tests.{ne_eqb}
use Rattle.std.specs.Prelude.{Result, Ok, Err, IsErrAnd}
use Rattle.arithmetic_cutoffs.specs.declared.Cutoffs.{Cutoffs}
use Rattle.algebra.specs.Small.{Rows}
use Rattle.algebra.proofs.ReasonLaws.{first-append}
use Rattle.adjustment.specs.Covariance.{matrices}
use Rattle.adjustment.specs.Adjusted.{Stack, adjustment_reasons, adjustment_refusal}
use Rattle.records.specs.declared.refusal.Refusal.{Refusal}
use Rattle.records.specs.format.RefusalNumbers.{refusal_number, result_number}
use Rattle.records.specs.format.File.{length_reasons, form_reasons}
use Rattle.records.specs.format.Order.{order_reasons}
use Rattle.records.specs.readers.Series.{coefficients, block_reasons, size_reasons, value_reasons, reasons, refusal, design, phi, sigma2}
use Rattle.records.specs.calls.KenwardRogerCall.{adjusted}
use Rattle.records.specs.readers.CutoffTable.{bad_table, cutoffs_in}
use Rattle.records.specs.format.Kinds.{archive_kinds}
use Rattle.records.specs.readers.Archive.{sizes_at, archive_content, archive_bytes}
use Rattle.records.specs.calls.ArchiveCall.{series_archive, series_reasons, series_refusal, archiving_call, told, archiving_refusal, archiving_returned, archiving_written}
use Rattle.records.specs.calls.Call.{Call, call_returned, call_written}
use Rattle.records.proofs.calls.CallLaws.{file_adjustment_refusal, other_length, other-table, own-answer}
use Rattle.records.proofs.format.WrittenLaws.{length-file}
use Rattle.records_archiving.specs.joints.Told.{archive_number}
use Rattle.records_archive_bytes.specs.joints.Parts.{archive_from}
use Rattle.records.proofs.calls.ArchiveLengths.{archive-slots}

-- ---- what is archived, from the parts as the code has them
pub series-archive-is : (c : Cutoffs) (s : List ℕ) (p N : ℕ) (m phi_a w : Rows) (ps : Stack) (x : Float) → p ≡ coefficients s → N ≡ matrices (design s) → m ≡ phi s → phi_a ≡ (adjusted c s).phi_a → ps ≡ (adjusted c s).ps → w ≡ (adjusted c s).w → x ≡ sigma2 s
    → archive_from p N m phi_a ps w x ≡ series_archive c s
unfolding series_archive
series-archive-is c s p N m phi_a w ps x ep eN em ea es ew ex = rw (ep, eN, em, ea, es, ew, ex)

-- it has room in the bytes that are lent
pub archive-short : (p N : ℕ) (m phi_a w : Rows) (ps : Stack) (x : Float) (n : ℕ) → p ≤ 6 → N ≤ 4 → n ≡ length (archive_bytes (archive_from p N m phi_a ps w x)) → n ≤ 7184
unfolding archive_bytes
archive-short p N m phi_a w ps x n few fewer e =
    let a = length-file (archive_kinds (sizes_at p N)) (archive_content (archive_from p N m phi_a ps w x)) in
    let d = archive-slots p N few fewer in
    omega arith

-- ---- the number
module _ (w : ℕ) (c : Cutoffs) (s : List ℕ) where
  series-number-is : series_refusal w c s ≡ cond (eqb (refusal w s) 0) (file_adjustment_refusal c s) (refusal w s)
  unfolding series_refusal series_reasons refusal reasons length_reasons order_reasons form_reasons block_reasons size_reasons value_reasons adjustment_refusal
  series-number-is = first-append (reasons w s) (adjustment_reasons c (design s) (phi s) (sigma2 s)) refl

  -- what is told of the series, and what the lent bytes hold then
  abbrev pub series_told : ℕ
  series_told = cond (eqb (series_refusal w c s) 0) (length (archive_bytes (series_archive c s))) (series_refusal w c s)

  abbrev pub series_put : List ℕ → List ℕ
  series_put lent = cond (eqb (series_refusal w c s) 0) (sets lent 0 (archive_bytes (series_archive c s))) lent

  module _ (lent : List ℕ) where
    -- a refusal: its number is told, and the lent bytes stay
    refuses : (n : ℕ) → series_refusal w c s ≡ n → (n ≡ 0 → ⊥) → (n ≡ series_refusal w c s) × (n ≡ series_told) × (lent ≡ series_put lent)
    refuses n e h = (sym e, rw (e, ne_eqb n 0 h), rw (e, ne_eqb n 0 h))

    -- by the reader
    pub reader-refuses : (n : ℕ) → n ≡ refusal w s → (n ≡ 0 → ⊥) → (n ≡ series_refusal w c s) × (n ≡ series_told) × (lent ≡ series_put lent)
    reader-refuses n e h = refuses n (series-number-is ∙ rw (← e, ne_eqb n 0 h)) h

    module _ (taken : refusal w s ≡ 0) where
      -- by the adjustment
      pub adjustment-refuses : (n : ℕ) → n ≡ file_adjustment_refusal c s → (n ≡ 0 → ⊥) → (n ≡ series_refusal w c s) × (n ≡ series_told) × (lent ≡ series_put lent)
      adjustment-refuses n e h = refuses n (series-number-is ∙ rw taken (sym e)) h

      -- by nobody
      pub series-taken : file_adjustment_refusal c s ≡ 0 → series_refusal w c s ≡ 0
      series-taken e = series-number-is ∙ rw (taken, e)

      pub archives : (n : ℕ) (out : List ℕ) → file_adjustment_refusal c s ≡ 0 → n ≡ length (archive_bytes (series_archive c s)) → out ≡ sets lent 0 (archive_bytes (series_archive c s)) → (0 ≡ series_refusal w c s) × (n ≡ series_told) × (out ≡ series_put lent)
      archives n out e en eo = let z = series-taken e in (sym z, en ∙ rw z, eo ∙ rw z)

-- ---- the call: what is told of a refusal, and of a series' own answer
module _ (lab s lent : List ℕ) where
  abbrev call : Call
  call = archiving_call 24 s

  tells : (n : ℕ) (bytes : List ℕ) → (n ≡ 0 → ⊥) → (n ≡ call_returned call lab lent) × (bytes ≡ call_written call lab lent) → (n ≡ archiving_refusal 24 lab s lent) × (n ≡ archiving_returned 24 lab s lent) × (bytes ≡ archiving_written 24 lab s lent)
  unfolding told
  tells n bytes h p = (p.0, rw (← p.0, ne_eqb n 0 h), p.1)

  pub other-lent : (length lent ≡ 7184 → ⊥) → (1 ≡ archiving_refusal 24 lab s lent) × (1 ≡ archiving_returned 24 lab s lent) × (lent ≡ archiving_written 24 lab s lent)
  other-lent h = tells 1 lent (λ e. omega arith) (other_length call lab lent h)

  pub refused-table : length lent ≡ 7184 → bad_table lab ≡ true → (14 ≡ archiving_refusal 24 lab s lent) × (14 ≡ archiving_returned 24 lab s lent) × (lent ≡ archiving_written 24 lab s lent)
  refused-table l bad = tells 14 lent (λ e. omega arith) (other-table call lab lent refl l bad)

  pub own-call : length lent ≡ 7184 → bad_table lab ≡ false → (c : Cutoffs) → c ≡ cutoffs_in lab → (m n : ℕ) (bytes : List ℕ) → m ≡ series_refusal 24 c s → n ≡ series_told 24 c s → bytes ≡ series_put 24 c s lent
      → (m ≡ archiving_refusal 24 lab s lent) × (n ≡ archiving_returned 24 lab s lent) × (bytes ≡ archiving_written 24 lab s lent)
  unfolding told series_refusal
  own-call l ok c e m n bytes z q b =
      let p = own-answer call lab lent refl l ok c e (series_refusal 24 c s) bytes refl b in
      (z ∙ p.0, q ∙ ap (λ (x : Cutoffs). cond (eqb (series_refusal 24 c s) 0) (length (archive_bytes (series_archive x s))) (series_refusal 24 c s)) e ∙ rw p.0, p.1)

-- ---- what `?` passes on has the number of what was refused, and tells it
pub told-passed : (r : Result ℕ Refusal) (n : ℕ) → IsErrAnd r (λ d. refusal_number d ≡ n) → (result_number r ≡ n) × (archive_number r ≡ n)
told-passed (Ok x) n h = absurd h
told-passed (Err d) n h = (h, h)

pub told-same : (r : Result ℕ Refusal) (e : Refusal) → IsErrAnd r (λ d. d ≡ e) → (result_number r ≡ refusal_number e) × (archive_number r ≡ refusal_number e)
told-same (Ok x) e h = absurd h
told-same (Err d) e h = let q = ap refusal_number h in (q, q)
