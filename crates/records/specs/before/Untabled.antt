-- What a call returned and wrote before document 02's "Req 06", when none had a table: 1, then the files. It stands in theorems that say that an answer is the one of before.
use Rattle.std.specs.Prelude.{ℕ, List, ◌++◌}
use Rattle.arithmetic_cutoffs.specs.declared.Cutoffs.{Cutoffs}
use Rattle.algebra.specs.Reasons.{first}
use Rattle.records.specs.calls.Call.{Call, lent_reasons, filled_by}

module _ (k : Call) (c : Cutoffs) (lent : List ℕ) where
  unfoldable pub untabled_returned : ℕ
  untabled_returned = first (lent_reasons k lent ++ k.reasons c)

  unfoldable pub untabled_written : List ℕ
  untabled_written = filled_by untabled_returned (k.full c lent) lent
