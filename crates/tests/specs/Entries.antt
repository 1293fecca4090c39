-- Document 01, "Refusals": 10 is "zero pivot", and "Each returns its number (accepted: 0)". A zero pivot in any one test refuses the run, and a refused run has no entry in use.
use Rattle.std.specs.Prelude.{ℕ, Bool, cond, List, replicate}
use Rattle.tests.specs.declared.Entry.{Entry}
use Rattle.tests.specs.Answer.{no_entry}

unfoldable pub run_refusal : Bool → ℕ
run_refusal refused = cond refused 10 0

unfoldable pub run_entries : Bool → List Entry → List Entry
run_entries refused es = cond refused (replicate 7 no_entry) es
