-- A whole series: the adjustment's own number, and the run on what it gives.
use Prim.Native.Nat.{ℕ, ◌*◌, ◌≤◌}
use mathlib.Core.Path.{ap}
use mathlib.Core.Bool.{Bool}
use mathlib.Core.List.{[], ◌∷◌}
use lib.IntN.{ℤ, nat_abs}
use Rattle.arithmetic_cutoffs.specs.declared.Cutoffs.{Cutoffs}
use Rattle.adjustment.specs.Covariance.{Design, matrices, sigma_rows, cholesky, not_definite, inverse_factor_refused}
use Rattle.adjustment.specs.Adjusted.{from_precision, precision_of, information_refused, adjustment, adjustment_reasons, adjustment_refusal}
use Rattle.adjustment.proofs.WrittenLaws.{phi_a-written, ps-written}
use Rattle.algebra.specs.Reasons.{first}
use Rattle.algebra.specs.Small.{Rows}
use Rattle.tests.specs.Verdict.{RunBears}
use Rattle.converter_run.specs.joints.ConvertedInput.{Input, run_on, ConvertedInput, RunSizes, WrittenCells, Written, WrittenUnits, SeriesSurvives}
use Rattle.converter_run.proofs.MovingRun.{run-survives, finite-survives}

-- ---- what the adjustment gives are f64 numbers
pub adjustment-written : (c : Cutoffs) (d : Design) (phi : Rows) → d.p ≤ 6 → matrices d ≤ 4 → WrittenCells d.p d.p phi
    → WrittenUnits d.p (matrices d) phi (adjustment c d phi)
unfolding from_precision
adjustment-written c d phi hp hN w = record {
  phi = w;
  phi_a = phi_a-written d.p phi _ hp;
  ps = ps-written d _ (precision_of d) hp hN;
}

-- ---- the series
-- DEMAND 3, for a series in memory: where all entries of its run bear t, it survives every change of converter with 2|k| at most t and each contrast row's own power.
pub series-survives : {t : ℕ} (c : Cutoffs) (d : Design) (phi : Rows) (rows : ℕ) (k : ℤ) (m : ℕ → ℤ) (x x' : Input) → RunSizes d.p (matrices d) rows → 2 * nat_abs k ≤ t
    → WrittenCells d.p d.p phi → Written d.p rows x → ConvertedInput k m d.p rows x x'
    → RunBears t d.p rows (run_on c d.p (matrices d) rows phi (adjustment c d phi) x) → SeriesSurvives c d phi rows x x'
unfolding adjustment_refusal adjustment_reasons
series-survives c d phi rows k m x x' sizes near w written converted bears =
    let units : WrittenUnits d.p (matrices d) phi (adjustment c d phi) = adjustment-written c d phi sizes.coefficients sizes.matrices w in
    record {
      number = ap
          (λ (z : Bool). first
          ((9, not_definite d.n (sigma_rows d))
          ∷ (10, inverse_factor_refused d.n (cholesky d.n (sigma_rows d)))
          ∷ (10, information_refused c d phi (precision_of d))
          ∷ (4, z)
          ∷ []))
          (finite-survives c d.p (matrices d) rows k m phi (adjustment c d phi) x x' sizes near units written converted bears);
      run = run-survives c d.p (matrices d) rows k m phi (adjustment c d phi) x x' sizes near units written converted bears;
    }
