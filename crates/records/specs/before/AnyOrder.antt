-- What each call returned and wrote, and `pulltest` printed, before document 02's "Req 01", when records came "in any order": by the lists of today without 12, which are document 01's but for what later requests changed (3 and 6 as "Req 03" has them, "Req 04"'s 13).
use Rattle.std.specs.Prelude.{ℕ, Bool, true, List, ◌++◌}
use Rattle.arithmetic_cutoffs.specs.declared.Cutoffs.{Cutoffs}
use Rattle.algebra.specs.Reasons.{first}
use Rattle.adjustment.specs.Adjusted.{adjustment_reasons}
use Rattle.records.specs.format.File.{length_reasons}
use Rattle.records.specs.readers.Reader.{Reader, content_reasons}
use Rattle.records.specs.format.Layout.{answer_bytes, entry_bytes, answer_length, entry_length}
use Rattle.records.specs.calls.Call.{Call}
use Rattle.records.specs.text.Text.{text_of}
use Rattle.records.specs.readers.Series.{reader, design, phi, sigma2}
use Rattle.records.specs.readers.Parameters.{reader as parameterReader}
use Rattle.records.specs.calls.KenwardRogerCall.{run, test_reasons}
use Rattle.records.specs.calls.SatterthwaiteCall.{outcome, test_reasons as satterthwaiteTestReasons}

-- what refused a file before anything was computed: its length, and what its records say
unfoldable pub any_order_reasons : Reader → List ℕ → List (ℕ × Bool)
any_order_reasons r s = length_reasons s ++ content_reasons r s

-- ---- the Kenward–Roger call, and the program
module _ (w : ℕ) (c : Cutoffs) (s : List ℕ) where
  unfoldable pub any_order_list : List (ℕ × Bool)
  any_order_list = any_order_reasons (reader w) s ++ (adjustment_reasons c (design s) (phi s) (sigma2 s) ++ test_reasons c s)

  -- what `pulltest` printed
  unfoldable pub any_order_text : List ℕ
  any_order_text = text_of (first any_order_list) (run c s).entries

abbrev pub any_order_call : ℕ → List ℕ → Call
any_order_call w s = record { stated = answer_length; besides = true; reasons = λ c. any_order_list w c s; full = λ c answer. answer_bytes (run c s).entries }

-- ---- the Satterthwaite call
unfoldable pub any_order_test_list : Cutoffs → List ℕ → List (ℕ × Bool)
any_order_test_list c s = any_order_reasons parameterReader s ++ satterthwaiteTestReasons c s

abbrev pub any_order_test : List ℕ → Call
any_order_test s = record { stated = entry_length; besides = true; reasons = λ c. any_order_test_list c s; full = λ c answer. entry_bytes (outcome c s).entry }
