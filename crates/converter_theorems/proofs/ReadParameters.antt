-- A file whose reading and whose test are computed: the number and the entry of the Satterthwaite call. An example gives the parts, as literals.
use Prim.Native.Nat.{ℕ}
use mathlib.Core.Path.{◌≡◌, ap, ◌∙◌}
use mathlib.Core.Bool.{false}
use mathlib.Core.List.{List, [], ◌∷◌, ◌++◌}
use Rattle.algebra.specs.Kind.{marks}
use Rattle.algebra.specs.Reasons.{first}
use Rattle.arithmetic_cutoffs.specs.declared.Cutoffs.{Cutoffs}
use Rattle.tests.specs.declared.Entry.{Entry}
use Rattle.tests.specs.declared.Tested.{Tested}
use Rattle.tests.specs.Satterthwaite.{Inputs, satterthwaite as test}
use Rattle.records.specs.readers.Parameters.{reasons, inputs}
use Rattle.records.specs.calls.SatterthwaiteCall.{number, entry}
use Rattle.converter_theorems.proofs.ParametersCall.{number_is, entry-is}

-- what the file says, and that no refusal comes before the test
pub record Says (s : List ℕ) (i : Inputs) : Type 0 where
  pub inputs : Rattle.records.specs.readers.Parameters.inputs s ≡ i
  pub passes : first (reasons s ++ ((11, false) ∷ [])) ≡ 0

module _ (c : Cutoffs) {s : List ℕ} {i : Inputs} {e : Entry} (says : Says s i) (tested : test marks c i ≡ record { refused = false; entry = e }) where
  said-outcome : test marks c (inputs s) ≡ record { refused = false; entry = e }
  said-outcome = ap (test marks c) (says.inputs) ∙ tested

  pub said-accepted : number c s ≡ 0
  said-accepted = number_is c s ∙ ap (λ (o : Tested). first (reasons s ++ ((11, o.refused) ∷ []))) said-outcome ∙ says.passes

  pub said-entry : entry c s ≡ e
  said-entry = entry-is c s said-accepted ∙ ap (λ (o : Tested). o.entry) said-outcome
