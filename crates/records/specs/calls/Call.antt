-- Documents 01 and 02, "Refusals": a call of the library whole, over any files: the number that it returns and what the bytes that it is lent hold then. Each call is one `Call`; what is said here and in proofs/calls/CallLaws holds of every one.
use Rattle.std.specs.Prelude.{ℕ, Bool, not, ◌&&◌, cond, List, [], ◌∷◌, ◌++◌, eqb, length}
use Rattle.arithmetic_cutoffs.specs.declared.Cutoffs.{Cutoffs}
use Rattle.algebra.specs.Reasons.{first}
use Rattle.records.specs.readers.CutoffTable.{table_reasons, cutoffs_in}

pub record Call : Type 0 where
  -- the length of the answer bytes that it asks for
  pub stated : ℕ
  -- whether all else that it is lent has its stated length: true where nothing else is lent
  pub besides : Bool
  -- what refuses its files under given cutoffs
  pub reasons : Cutoffs → List (ℕ × Bool)
  -- what the answer bytes hold where nothing refuses, from what they held
  pub full : Cutoffs → List ℕ → List ℕ

-- 1, "lent length is not the stated one": every lent length is looked at before anything else
abbrev pub lengths_fit : Call → List ℕ → Bool
lengths_fit k lent = k.besides && eqb (length lent) k.stated

abbrev pub lent_reasons : Call → List ℕ → List (ℕ × Bool)
lent_reasons k lent = (1, not (lengths_fit k lent)) ∷ []

-- what they hold by the number n: "lent answer bytes keep their contents" where it is not 0
abbrev pub filled_by : ℕ → List ℕ → List ℕ → List ℕ
filled_by n full lent = cond (eqb n 0) full lent

-- ---- with a lab's table (document 02, "Req 06"): 1; 14, the table; then the files. The call without one is this at the built-in table.
module _ (k : Call) (lab lent : List ℕ) where
  unfoldable pub call_reasons : List (ℕ × Bool)
  call_reasons = lent_reasons k lent ++ (table_reasons lab ++ k.reasons (cutoffs_in lab))

  unfoldable pub call_returned : ℕ
  call_returned = first call_reasons

  unfoldable pub call_written : List ℕ
  call_written = filled_by call_returned (k.full (cutoffs_in lab) lent) lent
