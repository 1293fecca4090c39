-- A sorted file keeps its answers: the number and the bytes that document 01's list gives, of both calls, and the program's text.
use Prim.Native.Nat.{ℕ}
use mathlib.Core.Path.{◌≡◌, refl}
use mathlib.Core.Bool.{Bool, true, false, cond}
use mathlib.Core.List.{List}
use lib.Dec.{eqb}
use lib.ListN.{replicate}
use Rattle.arithmetic_cutoffs.specs.declared.Cutoffs.{Cutoffs}
use Rattle.algebra.specs.Reasons.{first}
use Rattle.tests.specs.declared.Entry.{Entry}
use Rattle.tests.specs.Answer.{no_entry}
use Rattle.records.specs.format.File.{length_reasons}
use Rattle.records.specs.format.Order.{falls, order_reasons}
use Rattle.records.specs.readers.CutoffTable.{cutoffs_in}
use Rattle.records.specs.text.Text.{lines_text, refusal_text, text_of}
use Rattle.records.specs.readers.Series.{reasons}
use Rattle.records.specs.readers.Parameters.{reasons as parameterReasons}
use Rattle.records.specs.calls.KenwardRogerCall.{run, all_reasons, number, entries, series_call}
use Rattle.records.specs.calls.SatterthwaiteCall.{all_reasons as satterthwaiteReasons, number as satterthwaiteNumber, entry, test_call}
use Rattle.records.specs.before.AnyOrder.{any_order_reasons, any_order_list, any_order_text, any_order_call, any_order_test_list, any_order_test}
use Rattle.records.specs.promises.SortedKeeps.{SortedKeeps}
use Rattle.records.proofs.calls.CallLaws.{AnswersAlike}
use Rattle.records.proofs.before.UntabledLaws.{former-returned, former-written}

-- a text that is chosen by the number, of entries that are
pub told-once-accepted : (n : ℕ) (full bare : List Entry) → text_of n (cond (eqb n 0) full bare) ≡ text_of n full
unfolding text_of
told-once-accepted n full bare = go (eqb n 0)
  where
    go : (z : Bool) → cond z (lines_text (cond z full bare)) (refusal_text n) ≡ cond z (lines_text full) (refusal_text n)
    go true = refl
    go false = refl

-- ---- the Kenward–Roger call
module _ (w : ℕ) (c : Cutoffs) (s : List ℕ) (h : falls s ≡ false) where
  sorted-number : number w c s ≡ first (any_order_list w c s)
  unfolding number all_reasons reasons length_reasons order_reasons any_order_list any_order_reasons first
  sorted-number = rw h

  sorted-text : text_of (number w c s) (entries w c s) ≡ any_order_text w c s
  unfolding entries any_order_text
  sorted-text = rw (← sorted-number) (told-once-accepted (number w c s) (run c s).entries (replicate 7 no_entry))

  sorted-alike : (answer : List ℕ) → AnswersAlike (series_call w s) (any_order_call w s) c answer
  unfolding number entries
  sorted-alike answer = record { stated = refl; besides = refl; number = sorted-number; full = λ z. rw (sorted-number, z) }

-- ---- the Satterthwaite call
module _ (c : Cutoffs) (s answer : List ℕ) (h : falls s ≡ false) where
  sorted-test : first (satterthwaiteReasons c s) ≡ first (any_order_test_list c s)
  unfolding satterthwaiteReasons parameterReasons length_reasons order_reasons any_order_test_list any_order_reasons first
  sorted-test = rw h

  sorted-test-alike : AnswersAlike (test_call s) (any_order_test s) c answer
  unfolding satterthwaiteNumber entry
  sorted-test-alike = record { stated = refl; besides = refl; number = sorted-test; full = λ z. rw (sorted-test, z) }

-- A SORTED FILE KEEPS ITS ANSWERS
pub sorted-keeps : SortedKeeps
sorted-keeps =
    record {
      same_number = λ w lab s answer ok h. former-returned (series_call w s) (any_order_call w s) lab answer ok (sorted-alike w (cutoffs_in lab) s h answer);
      same_bytes = λ w lab s answer ok h. former-written (series_call w s) (any_order_call w s) lab answer ok (sorted-alike w (cutoffs_in lab) s h answer);
      same_text = sorted-text;
      same_test_number = λ lab s answer ok h. former-returned (test_call s) (any_order_test s) lab answer ok (sorted-test-alike (cutoffs_in lab) s answer h);
      same_test_bytes = λ lab s answer ok h. former-written (test_call s) (any_order_test s) lab answer ok (sorted-test-alike (cutoffs_in lab) s answer h);
    }
