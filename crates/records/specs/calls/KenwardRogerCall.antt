-- Document 01, "kenward_roger.rs": the whole Kenward–Roger call, from the limit of specimens, the lab's table and the bytes of a file to its number, its entries and the lent bytes.
use Rattle.std.specs.Prelude.{ℕ, Bool, true, cond, List, [], ◌∷◌, ◌++◌, eqb, replicate}
use Rattle.arithmetic.specs.declared.Marked.{Marked}
use Rattle.arithmetic_cutoffs.specs.declared.Cutoffs.{Cutoffs}
use Rattle.adjustment.specs.Covariance.{matrices}
use Rattle.adjustment.specs.Adjusted.{Adjustment, adjustment, adjustment_reasons}
use Rattle.tests.specs.declared.Entry.{Entry}
use Rattle.tests.specs.Answer.{no_entry}
use Rattle.records.specs.format.Layout.{answer_bytes, answer_length}
use Rattle.records.specs.calls.Call.{Call, call_returned, call_written}
use Rattle.tests.specs.declared.Run.{Run}
use Rattle.tests.specs.KenwardRoger.{Scaled, scaled_by, run_of}
use Rattle.algebra.specs.Kind.{marks}
use Rattle.algebra.specs.Reasons.{first}
use Rattle.records.specs.readers.Series.{reasons, coefficients, contrast_rows, design, phi, sigma2, beta, beta_h, contrast}

-- ---- what is computed of a file that the reader does not refuse
module _ (c : Cutoffs) (s : List ℕ) where
  -- the adjustment of the file's series, in residual units, and what the tests start from, scaled by sigma2
  unfoldable pub adjusted : Adjustment
  adjusted = adjustment c (design s) (phi s)

  unfoldable pub scaled : Scaled Marked
  scaled = scaled_by marks (coefficients s) (matrices (design s)) (phi s) (sigma2 s) adjusted

  -- "The run tests each coefficient alone (β_H = 0), then the contrast if given."
  unfoldable pub run : Run
  run = run_of marks c scaled (beta s) (beta_h s) (contrast_rows s) (contrast s)

  -- a zero pivot in any one test
  unfoldable pub test_reasons : List (ℕ × Bool)
  test_reasons = (10, run.refused) ∷ []

-- ---- a file's answer, with the limit of specimens w and the cutoffs c
module _ (w : ℕ) (c : Cutoffs) (s : List ℕ) where
  -- what refuses a file, in the documents' order: the reader's reasons, then the adjustment's 9, 10, 10 and 4, then the tests'
  unfoldable pub all_reasons : List (ℕ × Bool)
  all_reasons = reasons w s ++ (adjustment_reasons c (design s) (phi s) (sigma2 s) ++ test_reasons c s)

  -- "Each returns its number (accepted: 0)"
  unfoldable pub number : ℕ
  number = first all_reasons

  -- the seven entries of an accepted file; none is in use where it is refused
  unfoldable pub entries : List Entry
  entries = cond (eqb number 0) (run c s).entries (replicate 7 no_entry)

  -- the rotations made on IE in the adjustment of an accepted file: "The diagonal is the answer, with the number of rotations made"; 0 where it is refused
  unfoldable pub rotations : ℕ
  rotations = cond (eqb number 0) (adjusted c s).rotations 0

  -- and the specimens of its run, which are those that are not torn
  unfoldable pub specimens_run : ℕ
  specimens_run = cond (eqb number 0) (design s).n 0

-- ---- the call: 168 bytes, the seven entries; with a lab's table what it returns for the lent bytes, and what they hold then
abbrev pub series_call : ℕ → List ℕ → Call
series_call w s = record { stated = answer_length; besides = true; reasons = λ c. all_reasons w c s; full = λ c answer. answer_bytes (entries w c s) }

module _ (w : ℕ) (lab s : List ℕ) where
  abbrev pub returned : List ℕ → ℕ
  returned answer = call_returned (series_call w s) lab answer

  abbrev pub written : List ℕ → List ℕ
  written answer = call_written (series_call w s) lab answer
