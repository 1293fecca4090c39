-- With an accepted table a call answers as it did when there was none (specs/before/Untabled.antt), at the table's cutoffs.
use Prim.Native.Nat.{ℕ}
use mathlib.Core.Path.{◌≡◌, ◌∙◌}
use mathlib.Core.Bool.{false}
use mathlib.Core.List.{List}
use Rattle.algebra.specs.Reasons.{first}
use Rattle.records.specs.readers.CutoffTable.{bad_table, table_reasons, cutoffs_in}
use Rattle.records.specs.calls.Call.{Call, call_reasons, call_returned, call_written}
use Rattle.records.specs.before.Untabled.{untabled_returned, untabled_written}
use Rattle.records.proofs.calls.CallLaws.{AnswersAlike, alike-returned, alike-written}

module _ (k : Call) (lab lent : List ℕ) (ok : bad_table lab ≡ false) where
  pub untabled-returned : call_returned k lab lent ≡ untabled_returned k (cutoffs_in lab) lent
  unfolding call_returned call_reasons table_reasons untabled_returned first
  untabled-returned = rw ok

  pub untabled-written : call_written k lab lent ≡ untabled_written k (cutoffs_in lab) lent
  unfolding call_written untabled_written
  untabled-written = rw untabled-returned

-- with an accepted table a call is as one that had none
module _ (k j : Call) (lab lent : List ℕ) (ok : bad_table lab ≡ false) (a : AnswersAlike k j (cutoffs_in lab) lent) where
  pub former-returned : call_returned k lab lent ≡ untabled_returned j (cutoffs_in lab) lent
  former-returned = alike-returned k j lab lent a ∙ untabled-returned j lab lent ok

  pub former-written : call_written k lab lent ≡ untabled_written j (cutoffs_in lab) lent
  former-written = alike-written k j lab lent a ∙ untabled-written j lab lent ok
