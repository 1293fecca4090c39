-- Document 01's numbers of the adjustment's refusals: 4 (an output not finite), 9 (a Cholesky diagonal of Σ not > 0), 10 (a zero pivot).
use Rattle.std.specs.Prelude.{ℕ, Result, Ok, Err}
use Rattle.adjustment.specs.declared.AdjustmentRefusal.{AdjustmentRefusal}
use Rattle.adjustment.specs.declared.AdjustmentRefusal.TheVariants.{NotFinite, NotDefinite, ZeroPivot}

abbrev pub adjustment_refusal_number : AdjustmentRefusal → ℕ
adjustment_refusal_number NotFinite = 4
adjustment_refusal_number NotDefinite = 9
adjustment_refusal_number ZeroPivot = 10

-- the number that an answer tells: its refusal's, or 0 where it is accepted
abbrev pub number_told : {A : Type 0} → Result A AdjustmentRefusal → ℕ
number_told (Ok a) = 0
number_told (Err refusal) = adjustment_refusal_number refusal
