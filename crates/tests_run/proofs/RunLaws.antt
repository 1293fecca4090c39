-- The run, from the parts that the code has of it.
use Prim.Native.Nat.{ℕ, ◌+◌, ◌≤◌}
use mathlib.Core.Path.{◌≡◌, refl, ap, ◌∙◌}
use mathlib.Core.Bool.{Bool, true, false}
use mathlib.Core.List.{List}
use native.Mathlib.Omega.{arith}
use lib.Dec.{eqb}
use lib.ListN.{replicate}
use lib.Ieee.{Float}
use Rattle.algebra.specs.Kind.{marks}
use Rattle.algebra.proofs.FoldLaws.{fold_start, fold_next, fold_end}
use Rattle.arithmetic.specs.declared.Marked.{Marked}
use Rattle.arithmetic_cutoffs.specs.declared.Cutoffs.{Cutoffs}
use Rattle.adjustment.specs.Adjusted.{Adjustment, scaled_up}
use Rattle.tests.specs.declared.Entry.{Entry}
use Rattle.algebra.specs.Small.{MarkedRows, Rows}
use Rattle.tests.specs.Answer.{no_entry}
use Rattle.tests.specs.declared.Tested.{Tested}
use Rattle.tests.specs.declared.Run.{Run}
use Rattle.tests.specs.KenwardRoger.{Scaled, scaled_by, scaled_ps, coefficient_test, contrast_test, with_test, coefficients_to, run_of}
use Rattle.tests.specs.declared.Covariances.{Covariances}
use Rattle.tests_kr_modcomp.specs.joints.Parts.{scaled_of}
use Rattle.tests_run.specs.joints.Units.{response_units}

-- an adjustment's parts, in response units, are the adjustment in response units
pub response-units-is : (p N : ℕ) (phi : Rows) (sigma2 : Float) (a : Adjustment)
    → response_units (record { p = p; matrices = N; phi = phi; phi_a = a.phi_a; w = a.w }) a.ps sigma2 ≡ scaled_by marks p N phi sigma2 a
unfolding response_units scaled_by
response-units-is p N phi sigma2 a = refl

-- the scaled matrices, each by an equation
pub scaled-is : (s : Covariances Float) (ps : List Rows) (sigma2 : Float) (phi phi_a : MarkedRows) (scaled : List MarkedRows) → phi ≡ scaled_up marks s.p s.phi sigma2
    → phi_a ≡ scaled_up marks s.p s.phi_a sigma2 → scaled ≡ scaled_ps marks s.p s.matrices ps sigma2
    → scaled_of (record { p = s.p; matrices = s.matrices; phi = phi; phi_a = phi_a; w = s.w }) scaled ≡ response_units s ps sigma2
unfolding response_units
scaled-is s ps sigma2 phi phi_a scaled e f g = rw (e, f, g)

module _ (c : Cutoffs) (s : Scaled Marked) (beta : List Float) where
  -- the loop over the coefficients: its start, one coefficient more, its end
  pub coefficients-start : (e : Entry) → e ≡ no_entry → ◌≡◌ {A = Run} (record { refused = false; entries = replicate 7 e }) (coefficients_to marks 0 c s beta)
  unfolding coefficients_to
  coefficients-start e h =
      ap (λ (x : Entry). record { refused = false; entries = replicate 7 x }) h
      ∙ fold_start 0 (λ i r. with_test i (coefficient_test marks c s beta i) r) (record { refused = false; entries = replicate 7 no_entry })

  pub coefficients-next : (k : ℕ) (r next : Run) (t : Tested) → r ≡ coefficients_to marks k c s beta → t ≡ coefficient_test marks c s beta k → next ≡ with_test k t r
      → next ≡ coefficients_to marks (k + 1) c s beta
  unfolding coefficients_to
  coefficients-next k r next t h e n =
      fold_next 0 k (λ i r. with_test i (coefficient_test marks c s beta i) r) (record { refused = false; entries = replicate 7 no_entry }) r next (omega arith) h
      (n ∙ ap (λ (t : Tested). with_test k t r) e)

  pub coefficients-end : (k p : ℕ) (r : Run) → k ≤ p → p ≤ k → r ≡ coefficients_to marks k c s beta → r ≡ coefficients_to marks p c s beta
  unfolding coefficients_to
  coefficients-end k p r l g h = fold_end 0 k p (λ i r. with_test i (coefficient_test marks c s beta i) r) (record { refused = false; entries = replicate 7 no_entry }) r l g h

  -- with no contrast, and with one
  pub without-contrast : (beta_h : List Float) (rows : ℕ) (l : Rows) (r : Run) → eqb rows 0 ≡ true → r ≡ coefficients_to marks s.p c s beta → r ≡ run_of marks c s beta beta_h rows l
  unfolding run_of
  without-contrast beta_h rows l r z h = rw (z, h)

  pub with-contrast : (beta_h : List Float) (rows : ℕ) (l : Rows) (r whole : Run) (t : Tested) → eqb rows 0 ≡ false → r ≡ coefficients_to marks s.p c s beta
      → t ≡ contrast_test marks c s beta beta_h rows l → whole ≡ with_test 6 t r → whole ≡ run_of marks c s beta beta_h rows l
  unfolding run_of
  with-contrast beta_h rows l r whole t z h e n = rw (z, n, h, e)
