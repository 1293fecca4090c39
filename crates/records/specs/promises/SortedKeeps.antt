-- Document 02, "Req 01": "A sorted file keeps its answers".
use Rattle.std.specs.Prelude.{ℕ, ◌≡◌, false, List}
use Rattle.arithmetic_cutoffs.specs.declared.Cutoffs.{Cutoffs}
use Rattle.records.specs.format.Order.{falls}
use Rattle.records.specs.readers.CutoffTable.{bad_table, cutoffs_in}
use Rattle.records.specs.text.Text.{text_of}
use Rattle.records.specs.calls.KenwardRogerCall.{number, entries, returned, written}
use Rattle.records.specs.calls.SatterthwaiteCall.{returned as satterthwaiteReturned, written as satterthwaiteWritten}
use Rattle.records.specs.before.Untabled.{untabled_returned, untabled_written}
use Rattle.records.specs.before.AnyOrder.{any_order_text, any_order_call, any_order_test}

-- A SORTED FILE KEEPS ITS ANSWERS: for every limit of specimens, accepted table, file that rises and lent bytes, what is returned, what the lent bytes then hold, and the program's text
pub record SortedKeeps : Type 0 where
  pub same_number : (w : ℕ) (lab s answer : List ℕ) → bad_table lab ≡ false → falls s ≡ false → returned w lab s answer ≡ untabled_returned (any_order_call w s) (cutoffs_in lab) answer
  pub same_bytes : (w : ℕ) (lab s answer : List ℕ) → bad_table lab ≡ false → falls s ≡ false → written w lab s answer ≡ untabled_written (any_order_call w s) (cutoffs_in lab) answer
  pub same_text : (w : ℕ) (c : Cutoffs) (s : List ℕ) → falls s ≡ false → text_of (number w c s) (entries w c s) ≡ any_order_text w c s
  pub same_test_number : (lab s answer : List ℕ) → bad_table lab ≡ false → falls s ≡ false → satterthwaiteReturned lab s answer ≡ untabled_returned (any_order_test s) (cutoffs_in lab) answer
  pub same_test_bytes : (lab s answer : List ℕ) → bad_table lab ≡ false → falls s ≡ false → satterthwaiteWritten lab s answer ≡ untabled_written (any_order_test s) (cutoffs_in lab) answer
