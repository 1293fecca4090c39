-- Not needed to check document 01: names that join the code to its definitions.
-- What the adjustment of a series and what its run leave in all that is lent to them. What more a function is to say of it is one field more here.
use Rattle.std.specs.Prelude.{ℕ, ◌≡◌, List, Result, IfOk, replicate}
use Rattle.std.specs.Result.{result_unwrap_or}
use Rattle.arithmetic_cutoffs.specs.declared.Cutoffs.{Cutoffs}
use Rattle.adjustment.specs.declared.AdjustedPhi.{AdjustedPhi}
use Rattle.adjustment.specs.declared.AdjustmentRefusal.{AdjustmentRefusal}
use Rattle.adjustment.specs.Adjusted.{Stack, adjustment_refusal}
use Rattle.adjustment.specs.Refusals.{number_told}
use Rattle.adjustment_adjusted.specs.joints.FromInformation.{accepted, phi_side}
use Rattle.tests.specs.Answer.{no_entry}
use Rattle.records.specs.declared.refusal.Refusal.{Refusal}
use Rattle.records.specs.format.RefusalNumbers.{result_number}
use Rattle.records.specs.readers.Series.{design, phi, sigma2}
use Rattle.records_kenward_roger.specs.declared.JudgedSeries.{JudgedSeries}
use Rattle.records.specs.calls.KenwardRogerCall.{adjusted, number, entries, rotations, specimens_run}

-- the adjustment of the series s gives r, and where that is accepted what is lent for the Ps, b₀, becomes them; otherwise it stays as it is
pub record Adjusts (c : Cutoffs) (s : List ℕ) (r : Result AdjustedPhi AdjustmentRefusal) (b₀ b : Stack) : Type 0 where
  pub number : number_told r ≡ adjustment_refusal c (design s) (phi s) (sigma2 s)
  pub value : IfOk r (λ a. a ≡ phi_side (adjusted c s))
  pub ps : b ≡ accepted (number_told r) (adjusted c s).ps b₀

-- what a refused file has of these: no entry in use, no rotation and no specimen
abbrev pub unjudged : JudgedSeries
unjudged = record { entries = replicate 7 no_entry; rotations = 0; specimens = 0 }

-- the file s with the limit of specimens w gives r
pub record Judges (w : ℕ) (c : Cutoffs) (s : List ℕ) (r : Result JudgedSeries Refusal) : Type 0 where
  pub listed : (result_unwrap_or r unjudged).entries ≡ entries w c s
  pub told : result_number r ≡ number w c s
  pub made : (result_unwrap_or r unjudged).rotations ≡ rotations w c s
  pub pulled : (result_unwrap_or r unjudged).specimens ≡ specimens_run w c s
