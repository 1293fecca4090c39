-- Document 01: the whole Satterthwaite call, from the bytes of a file and the lab's table to its number, its entry and the lent bytes.
use Rattle.std.specs.Prelude.{ℕ, Bool, true, cond, List, [], ◌∷◌, ◌++◌, eqb}
use Rattle.arithmetic_cutoffs.specs.declared.Cutoffs.{Cutoffs}
use Rattle.tests.specs.declared.Entry.{Entry}
use Rattle.tests.specs.Answer.{no_entry}
use Rattle.records.specs.format.Layout.{entry_bytes, entry_length}
use Rattle.records.specs.calls.Call.{Call, call_returned, call_written}
use Rattle.algebra.specs.Kind.{marks}
use Rattle.algebra.specs.Reasons.{first}
use Rattle.tests.specs.declared.Tested.{Tested}
use Rattle.tests.specs.Satterthwaite.{satterthwaite as test}
use Rattle.records.specs.readers.Parameters.{reasons, inputs}

-- ---- a file's answer, with the cutoffs c
module _ (c : Cutoffs) (s : List ℕ) where
  unfoldable pub outcome : Tested
  outcome = test marks c (inputs s)

  -- 11, "several-row V has an eigenvalue not finite or ≤ 0"
  unfoldable pub test_reasons : List (ℕ × Bool)
  test_reasons = (11, outcome.refused) ∷ []

  -- a file's refusals are 2, 12, 4 and 11
  unfoldable pub all_reasons : List (ℕ × Bool)
  all_reasons = reasons s ++ test_reasons

  unfoldable pub number : ℕ
  number = first all_reasons

  unfoldable pub entry : Entry
  entry = cond (eqb number 0) outcome.entry no_entry

-- ---- the call: "The Satterthwaite call fills one such entry, 24 bytes"
abbrev pub test_call : List ℕ → Call
test_call s = record { stated = entry_length; besides = true; reasons = λ c. all_reasons c s; full = λ c answer. entry_bytes (entry c s) }

module _ (lab s : List ℕ) where
  abbrev pub returned : List ℕ → ℕ
  returned answer = call_returned (test_call s) lab answer

  abbrev pub written : List ℕ → List ℕ
  written answer = call_written (test_call s) lab answer
