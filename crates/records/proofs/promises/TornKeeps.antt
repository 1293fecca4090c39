-- Document 02, "Req 03": what is promised of series with torn specimens (specs/promises/TornKeeps.antt) holds. The file without its torn specimens is accepted and its series is the shortened one, so that all that is
-- computed of it is the same.
use Prim.Native.Nat.{ℕ, ◌<◌}
use mathlib.Core.Path.{◌≡◌, refl, ap, sym, ◌∙◌}
use mathlib.Core.Bool.{Bool, true, false, not, cond}
use mathlib.Core.List.{List, ◌++◌}
use native.Mathlib.Omega.{arith}
use lib.Dec.{eqb}
use lib.ListN.{length}
use Rattle.arithmetic.specs.Numbers.{plus_zero}
use Rattle.arithmetic_cutoffs.specs.declared.Cutoffs.{Cutoffs}
use Rattle.algebra.specs.Table.{row, table}
use Rattle.algebra.specs.Reasons.{first}
use Rattle.algebra.proofs.TableLaws.{table-ext}
use Rattle.adjustment.specs.Blocks.{no_block}
use Rattle.adjustment.specs.Adjusted.{adjustment_reasons}
use Rattle.tests.specs.declared.Run.{Run}
use Rattle.records.specs.format.Scan.{any}
use Rattle.records.specs.format.File.{count, kind_of, row_of, present, length_reasons, form_reasons}
use Rattle.records.specs.format.Order.{order_reasons}
use Rattle.records.specs.readers.Shortened.{torn, shortened}
use Rattle.records.specs.readers.Series.{specimens, coefficients, z_columns, cell_value, as_sent, block_reasons, size_reasons, value_reasons, reasons, refusal, design, phi, sigma2, beta, beta_h, contrast}
use Rattle.records.specs.format.Layout.{answer_bytes}
use Rattle.records.specs.readers.CutoffTable.{cutoffs_in}
use Rattle.records.specs.text.Text.{text_of}
use Rattle.records.specs.calls.KenwardRogerCall.{adjusted, scaled, run, test_reasons, all_reasons, number, entries, series_call}
use Rattle.records.specs.calls.ArchiveCall.{series_archive, series_reasons, series_refusal, archiving_call, told, archiving_returned}
use Rattle.records.specs.promises.TornKeeps.{design_run, design_reasons, design_call, of_specimen, of_torn, new_row, without_torn, TornKeeps}
use Rattle.records.proofs.format.ScanLaws.{any_none, none_any}
use Rattle.records.proofs.readers.KeptLaws.{kept-all}
use Rattle.records.proofs.readers.ShortLaws.{row-ext, short-x, short-z, short-weights, none-torn}
use Rattle.records.proofs.readers.AcceptedSeries.{AcceptedSeries, accepted-series}
use Rattle.records.proofs.calls.CallLaws.{first_next, number_is, AnswersAlike, alike-returned, alike-written}
use Rattle.records.proofs.promises.TakenFields.{taken_none}
use Rattle.records.proofs.promises.TakenOut.{specimens_left, sent_specimen, other-stays, specimen-stays, specimen-below, specimen-taken}
use Rattle.records.proofs.promises.TakenSizes.{specimens-taken, coefficients-taken, rows_taken, present-taken, z_columns-taken}
use Rattle.records.proofs.promises.TakenAccepted.{blocks-taken, cells-taken, sigma2-taken, torn-taken, refusal-taken}

-- ---- "The answer equals the definition's on the shortened series"
-- the run of a file's series is the definition's
short-run : (c : Cutoffs) (s : List ℕ) → run c s ≡ design_run c (shortened (as_sent s)) s
unfolding run scaled adjusted design design_run shortened as_sent
short-run c s = refl

-- and so are its number and the answer
short-alike : (w : ℕ) (c : Cutoffs) (s answer : List ℕ) → AnswersAlike (series_call w s) (design_call w (shortened (as_sent s)) s) c answer
unfolding number entries all_reasons test_reasons design design_reasons
short-alike w c s answer = record { stated = refl; besides = refl; number = rw (short-run c s); full = λ z. rw (short-run c s, z) }

-- ---- the series of the file without its torn specimens is the shortened one
module _ (w : ℕ) (s : List ℕ) (e : refusal w s ≡ 0) (as_many : z_columns (without_torn s) ≡ z_columns s) where
  abbrev a : AcceptedSeries w s
  a = accepted-series w s e

  -- X, Z and the weights are those of the specimens that are left
  rows_left : (k c : ℕ) → of_specimen k ≡ true
      → table plus_zero (specimens (without_torn s)) c (specimens (without_torn s)) c (cell_value (without_torn s) k) ≡ table plus_zero (specimens_left s) c (specimens_left s) c (λ i. cell_value s k (sent_specimen s i))
  rows_left k c q =
      let n : ℕ = specimens_left s in
      rw (specimens-taken w s a) (table-ext plus_zero n c n c (cell_value (without_torn s) k) (λ i. cell_value s k (sent_specimen s i)) (λ i j l _. specimen-taken w s a k i j q l))

  x-left : (as_sent (without_torn s)).x ≡ (design s).x
  unfolding as_sent of_specimen
  x-left = rw (coefficients-taken w s a) (rows_left 1 (coefficients s) refl) ∙ sym (short-x s)

  z-left : (as_sent (without_torn s)).z ≡ (design s).z
  unfolding as_sent of_specimen
  z-left = rw as_many (rows_left 2 (z_columns s) refl) ∙ sym (short-z s)

  weights-left : (as_sent (without_torn s)).weights ≡ (design s).weights
  unfolding as_sent of_specimen
  weights-left =
      rw (present-taken w s a, specimens-taken w s a)
      (row-ext plus_zero n n (λ i. cell_value (without_torn s) 5 i 0) (λ i. cell_value s 5 (sent_specimen s i) 0) (λ i l. specimen-taken w s a 5 i 0 refl (some (present s 5) i l)))
      ∙ sym (short-weights s)
    where
      n : ℕ
      n = cond (present s 5) (specimens_left s) 0

      some : (b : Bool) (i : ℕ) → i < cond b (specimens_left s) 0 → i < specimens_left s
      some true i l = l
      some false i l = absurd (omega arith)

  -- and all else is as sent
  series-left : as_sent (without_torn s) ≡ design s
  unfolding as_sent design shortened of_specimen
  series-left =
      λ i. record {
        n = specimens-taken w s a i;
        p = coefficients-taken w s a i;
        x = x-left i;
        z = z-left i;
        weighted = present-taken w s a i;
        weights = weights-left i;
        blocks = row no_block 3 (rows_taken s 3 refl i) (blocks-taken w s a i);
        count = rows_taken s 3 refl i;
        theta = row plus_zero 3 (rows_taken s 4 refl i) (λ j. cells-taken w s a 4 refl i j 0);
      }

  -- no specimen of it is torn, so that it is run whole
  design-taken : design (without_torn s) ≡ design s
  design-taken =
      none-torn (without_torn s) (none_any (specimens (without_torn s)) (torn (as_sent (without_torn s))) (λ i l. torn-taken w s a i (let n = specimens-taken w s a in omega arith)))
      ∙ series-left

  -- what is read besides is as sent: Φ, β, β_H and the contrast
  phi-taken : phi (without_torn s) ≡ phi s
  unfolding phi of_specimen
  phi-taken = rw (coefficients-taken w s a, cells-taken w s a 6 refl)

  beta-taken : beta (without_torn s) ≡ beta s
  unfolding beta of_specimen
  beta-taken = rw (coefficients-taken w s a, cells-taken w s a 8 refl)

  beta_h-taken : beta_h (without_torn s) ≡ beta_h s
  unfolding beta_h of_specimen
  beta_h-taken = rw (coefficients-taken w s a, cells-taken w s a 10 refl)

  contrast-taken : contrast (without_torn s) ≡ contrast s
  unfolding contrast of_specimen
  contrast-taken = rw (rows_taken s 9 refl, coefficients-taken w s a, cells-taken w s a 9 refl)

  -- ---- so the answers are the same: the number, the entries and the text
  module _ (c : Cutoffs) where
    run-taken : run c (without_torn s) ≡ run c s
    unfolding run scaled adjusted of_specimen
    run-taken = rw (coefficients-taken w s a, design-taken, phi-taken, sigma2-taken w s a, beta-taken, beta_h-taken, rows_taken s 9 refl, contrast-taken)

    number-taken : number w c (without_torn s) ≡ number w c s
    number-taken = number_is c (without_torn s) w ∙ rw (refusal-taken w s a as_many, design-taken, phi-taken, sigma2-taken w s a, run-taken) (sym (number_is c s w ∙ rw e))

    entries-taken : entries w c (without_torn s) ≡ entries w c s
    unfolding entries
    entries-taken = rw (number-taken, run-taken)

    text-taken : text_of (number w c (without_torn s)) (entries w c (without_torn s)) ≡ text_of (number w c s) (entries w c s)
    text-taken = rw (number-taken, entries-taken)

    -- and what is archived, with what refuses it
    archive-taken : series_archive c (without_torn s) ≡ series_archive c s
    unfolding series_archive adjusted
    archive-taken = rw (coefficients-taken w s a, design-taken, phi-taken, sigma2-taken w s a)

    series-refusal-taken : series_refusal w c (without_torn s) ≡ series_refusal w c s
    unfolding series_refusal series_reasons refusal reasons length_reasons order_reasons form_reasons block_reasons size_reasons value_reasons
    series-refusal-taken =
        first_next (reasons w (without_torn s)) (adjustment_reasons c (design (without_torn s)) (phi (without_torn s)) (sigma2 (without_torn s))) refl (refusal-taken w s a as_many)
        ∙ rw (design-taken, phi-taken, sigma2-taken w s a) (sym (first_next (reasons w s) (adjustment_reasons c (design s) (phi s) (sigma2 s)) refl e))

    -- what the calls return, and the lent bytes
    taken-alike : (answer : List ℕ) → AnswersAlike (series_call w (without_torn s)) (series_call w s) c answer
    unfolding number
    taken-alike answer = record { stated = refl; besides = refl; number = number-taken; full = λ z. rw entries-taken }

    archiving-alike : (lent : List ℕ) → AnswersAlike (archiving_call w (without_torn s)) (archiving_call w s) c lent
    unfolding series_refusal
    archiving-alike lent = record { stated = refl; besides = refl; number = series-refusal-taken; full = λ z. rw archive-taken }

  archiving-told : (lab lent : List ℕ) → archiving_returned w lab (without_torn s) lent ≡ archiving_returned w lab s lent
  unfolding told
  archiving-told lab lent = rw (alike-returned (archiving_call w (without_torn s)) (archiving_call w s) lab lent (archiving-alike (cutoffs_in lab) lent), archive-taken (cutoffs_in lab))

-- ---- where no specimen is torn no record is taken out, and none gets another number
whole-file : (w : ℕ) (s : List ℕ) → AcceptedSeries w s → any (specimens s) (torn (as_sent s)) ≡ false → without_torn s ≡ s
unfolding new_row
whole-file w s a none =
    taken_none s a.formed.whole (λ i l. stays i l (of_specimen (kind_of s i)) refl)
    (λ i l q. kept-all (torn (as_sent s)) (row_of s i) (λ r h. pulled r (let b = specimen-below w s a i l q in omega arith)))
  where
    pulled : (r : ℕ) → r < specimens s → torn (as_sent s) r ≡ false
    pulled r l = any_none (specimens s) (torn (as_sent s)) r l none

    stays : (i : ℕ) → i < count s → (b : Bool) → of_specimen (kind_of s i) ≡ b → of_torn s i ≡ false
    stays i l true q = specimen-stays s i q ∙ pulled (row_of s i) (specimen-below w s a i l q)
    stays i l false q = other-stays s i q

-- WHAT IS PROMISED OF SERIES WITH TORN SPECIMENS
pub torn-keeps : TornKeeps
torn-keeps =
    record {
      none_torn = none-torn;
      short_number = λ w lab s answer. alike-returned (series_call w s) (design_call w (shortened (as_sent s)) s) lab answer (short-alike w (cutoffs_in lab) s answer);
      short_bytes = λ w lab s answer. alike-written (series_call w s) (design_call w (shortened (as_sent s)) s) lab answer (short-alike w (cutoffs_in lab) s answer);
      taken_number = λ w lab s answer e as_many. alike-returned (series_call w (without_torn s)) (series_call w s) lab answer (taken-alike w s e as_many (cutoffs_in lab) answer);
      taken_bytes = λ w lab s answer e as_many. alike-written (series_call w (without_torn s)) (series_call w s) lab answer (taken-alike w s e as_many (cutoffs_in lab) answer);
      taken_text = λ w c s e as_many. text-taken w s e as_many c;
      taken_archive = λ w lab s lent e as_many. (archiving-told w s e as_many lab lent, alike-written (archiving_call w (without_torn s)) (archiving_call w s) lab lent (archiving-alike w s e as_many (cutoffs_in lab) lent));
      as_many = λ w s e noneLost. z_columns-taken w s (accepted-series w s e) noneLost;
      taken_none = λ w s e none. whole-file w s (accepted-series w s e) none;
    }
