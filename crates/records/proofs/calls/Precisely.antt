-- "each number holds precisely under its condition", for both calls whole: for every limit of specimens, table, file and lent bytes, the call returns a number other than 0 precisely where a line of
-- the call's list has this number, its condition holds and no earlier line's does; and 0 precisely where no condition holds. 12, 13 and 14 stand in one line alone.
use Prim.Native.Nat.{ℕ, ◌%◌}
use mathlib.Core.Path.{◌≡◌, refl, sym}
use mathlib.Core.Bool.{Bool, true, false, not, cond}
use mathlib.Core.List.{List, [], ◌∷◌, ◌++◌}
use native.Mathlib.Omega.{arith}
use lib.Dec.{eqb}
use lib.ListN.{length}
use borrow.Author.Tests.{eq-eqb, eqb-true, not-false}
use Rattle.algebra.specs.Reasons.{first}
use Rattle.arithmetic_cutoffs.specs.declared.Cutoffs.{Cutoffs}
use Rattle.adjustment.specs.Adjusted.{adjustment_reasons}
use Rattle.algebra.proofs.ReasonLaws.{Line, lacks, Iff, Precisely, passed, first_alone}
use Rattle.records.specs.format.Scan.{any}
use Rattle.records.specs.format.Kinds.{kenward_roger}
use Rattle.records.specs.format.File.{count, length_reasons, form_reasons}
use Rattle.records.specs.format.Order.{falls, order_reasons}
use Rattle.records.specs.readers.Reader.{content_reasons}
use Rattle.records.specs.readers.Series.{reader, kinds, miscounted, block_reasons, size_reasons, value_reasons, reasons, design, phi, sigma2}
use Rattle.records.specs.readers.Parameters.{reader as parameterReader, value_reasons as parameterValueReasons, reasons as parameterReasons}
use Rattle.records.specs.readers.CutoffTable.{bad_table, cutoffs_in}
use Rattle.records.specs.calls.Call.{call_reasons}
use Rattle.records.specs.calls.KenwardRogerCall.{test_reasons, all_reasons, number, series_call, returned}
use Rattle.records.specs.calls.SatterthwaiteCall.{test_reasons as satterthwaiteTestReasons, all_reasons as satterthwaiteReasons, test_call, returned as satterthwaiteReturned}
use Rattle.records.proofs.calls.CallLaws.{call-precisely, call-fourteen, call-gives, by_length}

-- 1; 14; 2, 12, 2, 13, 3 to 8; 9, 10, 10, 4 of the adjustment; a test's 10
pub kenward-roger-precisely : (w : ℕ) (lab s answer : List ℕ) → Precisely (returned w lab s answer) (call_reasons (series_call w s) lab answer)
unfolding all_reasons reasons length_reasons order_reasons form_reasons block_reasons size_reasons value_reasons adjustment_reasons test_reasons
kenward-roger-precisely w lab s answer = call-precisely (series_call w s) lab answer refl

-- 1; 14; 2, 12, 2, 4; 11
pub satterthwaite-precisely : (lab s answer : List ℕ) → Precisely (satterthwaiteReturned lab s answer) (call_reasons (test_call s) lab answer)
unfolding satterthwaiteReasons parameterReasons length_reasons order_reasons form_reasons parameterValueReasons satterthwaiteTestReasons
satterthwaite-precisely lab s answer = call-precisely (test_call s) lab answer refl

-- ---- 12: "a file whose neighbouring records don't rise, checked directly after the multiple-of-16 test of 2": precisely where the file's length m is a multiple of 16 and it falls
pub file-twelve : (m : ℕ) (f : Bool) (rest : List Line) → lacks 12 rest ≡ true → Iff (first ((2, not (eqb (m % 16) 0)) ∷ ((12, f) ∷ rest)) ≡ 12) ((m % 16 ≡ 0) × (f ≡ true))
unfolding first
file-twelve m f rest h =
    let i = first_alone ((2, not (eqb (m % 16) 0)) ∷ []) rest 12 f (λ z. omega arith) refl refl h in
    record { to = λ e. let p = i.to e in (eqb-true (m % 16) 0 (not-false (eqb (m % 16) 0) (passed 2 (not (eqb (m % 16) 0)) [] refl p.0).0), p.1); from = λ p. rw (eq-eqb (m % 16) 0 p.0, p.1) }

-- ---- 14: "any other table, after 1 and before the series is read": precisely where the lent length is the stated one and the table is not accepted, whatever the files are
module _ (lab s : List ℕ) where
  pub kenward-roger-fourteen : (w : ℕ) (answer : List ℕ) → Iff (returned w lab s answer ≡ 14) ((length answer ≡ 168) × (bad_table lab ≡ true))
  unfolding all_reasons reasons length_reasons order_reasons form_reasons block_reasons size_reasons value_reasons adjustment_reasons test_reasons
  kenward-roger-fourteen w answer = by_length (length answer) 168 (call-fourteen (series_call w s) lab answer refl)

  pub satterthwaite-fourteen : (answer : List ℕ) → Iff (satterthwaiteReturned lab s answer ≡ 14) ((length answer ≡ 24) × (bad_table lab ≡ true))
  unfolding satterthwaiteReasons parameterReasons length_reasons order_reasons form_reasons parameterValueReasons satterthwaiteTestReasons
  satterthwaite-fourteen answer = by_length (length answer) 24 (call-fourteen (test_call s) lab answer refl)

-- ---- 12, of a file's number, which the program prints, and of both calls
module _ (c : Cutoffs) (s : List ℕ) where
  pub series-twelve : (w : ℕ) → Iff (number w c s ≡ 12) ((length s % 16 ≡ 0) × (falls s ≡ true))
  unfolding number all_reasons reasons length_reasons order_reasons form_reasons block_reasons size_reasons value_reasons adjustment_reasons test_reasons
  series-twelve w = file-twelve (length s) (falls s) (content_reasons (reader w) s ++ (adjustment_reasons c (design s) (phi s) (sigma2 s) ++ test_reasons c s)) refl

-- what a file's list gives, with what it says, is what a call gives where the length m of its lent bytes is the stated one and the table is accepted
pub past-both : {A C D : Type 0} (m n : ℕ) → Iff A ((eqb m n ≡ true) × C × D) → {E F : Type 0} → Iff D (E × F) → Iff A ((m ≡ n) × C × E × F)
past-both m n i j =
    record {
      to = λ e. let p = i.to e in let q = j.to p.2 in (eqb-true m n p.0, p.1, q.0, q.1);
      from = λ p. i.from (eq-eqb m n p.0, p.1, j.from (p.2, p.3));
    }

module _ (lab s : List ℕ) where
  pub kenward-roger-twelve : (w : ℕ) (answer : List ℕ) → Iff (returned w lab s answer ≡ 12) ((length answer ≡ 168) × (bad_table lab ≡ false) × (length s % 16 ≡ 0) × (falls s ≡ true))
  unfolding number
  kenward-roger-twelve w answer =
      past-both (length answer) 168 (call-gives (series_call w s) lab answer 12 (λ z. omega arith) (λ z. omega arith)) (series-twelve (cutoffs_in lab) s w)

  pub satterthwaite-twelve : (answer : List ℕ) → Iff (satterthwaiteReturned lab s answer ≡ 12) ((length answer ≡ 24) × (bad_table lab ≡ false) × (length s % 16 ≡ 0) × (falls s ≡ true))
  unfolding satterthwaiteReasons parameterReasons length_reasons order_reasons form_reasons parameterValueReasons satterthwaiteTestReasons
  satterthwaite-twelve answer =
      past-both (length answer) 24 (call-gives (test_call s) lab answer 12 (λ z. omega arith) (λ z. omega arith))
      (file-twelve (length s) (falls s) (content_reasons parameterReader s ++ satterthwaiteTestReasons (cutoffs_in lab) s) refl)

-- ---- 13: "a block whose written number differs from k(k+1)/2, after 2 and before 3": precisely where no reason of the length, the order and the form holds and some block is miscounted
abbrev pub file_refusal : ℕ → List ℕ → ℕ
file_refusal w s = first (length_reasons s ++ (order_reasons s ++ form_reasons (kenward_roger w) (kinds s) s))

module _ (w : ℕ) (s : List ℕ) where
  -- of a file's list, whatever reasons but 13 come after it
  pub file-thirteen : (rest : List Line) → lacks 13 rest ≡ true
      → Iff (first ((length_reasons s ++ (order_reasons s ++ (form_reasons (kenward_roger w) (kinds s) s ++ block_reasons s))) ++ rest) ≡ 13) ((file_refusal w s ≡ 0) × (any (count s) (miscounted s) ≡ true))
  unfolding length_reasons order_reasons form_reasons block_reasons
  file-thirteen rest h = first_alone (length_reasons s ++ (order_reasons s ++ form_reasons (kenward_roger w) (kinds s) s)) rest 13 (any (count s) (miscounted s)) (λ z. omega arith) refl refl h

  -- of the file's number, which the program prints
  pub series-thirteen : (c : Cutoffs) → Iff (number w c s ≡ 13) ((file_refusal w s ≡ 0) × (any (count s) (miscounted s) ≡ true))
  unfolding number all_reasons reasons length_reasons order_reasons form_reasons block_reasons size_reasons value_reasons adjustment_reasons test_reasons
  series-thirteen c = file-thirteen ((size_reasons s ++ value_reasons s) ++ (adjustment_reasons c (design s) (phi s) (sigma2 s) ++ test_reasons c s)) refl

  -- and of the Kenward–Roger call
  pub kenward-roger-thirteen : (lab answer : List ℕ)
      → Iff (returned w lab s answer ≡ 13) ((length answer ≡ 168) × (bad_table lab ≡ false) × (file_refusal w s ≡ 0) × (any (count s) (miscounted s) ≡ true))
  unfolding number
  kenward-roger-thirteen lab answer =
      past-both (length answer) 168 (call-gives (series_call w s) lab answer 13 (λ z. omega arith) (λ z. omega arith)) (series-thirteen (cutoffs_in lab))
