-- The input of a run whose entries bear t: each of its numbers, times its power of two, is an f64 number again. So multiplication in f64 converts it exactly.
use Prim.Native.Nat.{ℕ, ◌*◌, ◌≤◌, ◌<◌}
use native.Mathlib.Nat.{le_trans}
use native.Mathlib.Omega.{arith}
use mathlib.Core.Path.{◌∙◌}
use mathlib.Core.List.{List}
use lib.Dec.{T, lit≤}
use lib.IntN.{ℤ, nat_abs, ◌+ℤ◌}
use lib.ListN.{get_or, replicate, get_or-replicate}
use lib.Ieee.{Float, nan, binary64, fits}
use borrow.Author.Tests.{ne_eqb}
use Rattle.arithmetic.specs.declared.Marked.{Marked}
use Rattle.arithmetic.specs.Numbers.{plus_zero}
use Rattle.arithmetic.specs.Scale.{scale}
use Rattle.arithmetic.specs.Marks.{given, marked_sub, marked_mul}
use Rattle.arithmetic.proofs.PowerOfTwo.{scale-is-mul}
use Rattle.arithmetic.proofs.MarkLaws.{Bears, sub-operands, mul-operands}
use Rattle.algebra.specs.Kind.{floats, marks}
use Rattle.algebra.specs.Product.{at, times_number}
use Rattle.algebra.proofs.TableLaws.{table_at}
use Rattle.algebra.proofs.MovingCells.{BearsCells, table-bears, abs-twice}
use Rattle.algebra.specs.Small.{Rows, given_cells}
use Rattle.arithmetic_cutoffs.specs.declared.Cutoffs.{Cutoffs}
use Rattle.adjustment.specs.Adjusted.{Adjustment, scaled_up}
use Rattle.tests.specs.declared.Basis.{Basis}
use Rattle.tests.specs.Basis.{divided_cell, divided, contrast_basis}
use Rattle.tests.specs.KenwardRoger.{Scaled, scaled_by, difference, unit_row, coefficient_test, contrast_test}
use Rattle.tests.specs.Verdict.{RunBears}
use Rattle.converter_run.specs.joints.ConvertedInput.{Input, run_on, ConvertedInput, Multiplied, RunSizes, WrittenCells, Written}
use Rattle.algebra_products.proofs.MovingSmall.{all_marks-cells}
use Rattle.converter_run.proofs.MovingBasis.{basis-seen, divided-fits}
use Rattle.converter_run.proofs.MovingTest.{TestBears, test-bears}
use Rattle.converter_run.proofs.MovingRun.{entry_seen, coefficient-bears, contrast-bears}

zero-fits : T (fits binary64 plus_zero)
unfolding fits
zero-fits = tt

-- ---- the numbers that a test starts from
module _ {t : ℕ} (p : ℕ) (hp : p ≤ 6) (u : ℤ) (n : nat_abs u ≤ t) where
  sigma2-fits : 0 < p → (phi : Rows) (x : Float) → WrittenCells p p phi → T (fits binary64 x) → BearsCells t p p (scaled_up marks p phi x) → T (fits binary64 (scale u x))
  unfolding scaled_up times_number given_cells
  sigma2-fits h phi x w f b =
      let m : List (List Marked) = given_cells marks 6 6 p p phi in
      let e : Bears t (marked_mul (at marks m 0 0) (given x)) = table-bears 6 6 p p (λ i j. marked_mul (at marks m i j) (given x)) hp hp 0 0 h h (b.cell 0 0 h h) in
      (mul-operands u n (at marks m 0 0) (given x) e (rw (table_at (given plus_zero) 6 6 p p (λ i j. given (at floats phi i j)) 0 0 marks.void h h hp hp) (w 0 0 h h)) f).1

  module _ (beta beta_h : List Float) (f : (i : ℕ) → i < p → T (fits binary64 (get_or beta i nan))) (g : (i : ℕ) → i < p → T (fits binary64 (get_or beta_h i nan)))
      (b : BearsCells t p 1 (difference marks p beta beta_h)) where
    difference-fits : (i : ℕ) → i < p → T (fits binary64 (scale u (get_or beta i nan))) × T (fits binary64 (scale u (get_or beta_h i nan)))
    unfolding difference
    difference-fits i h =
        let e : Bears t (marked_sub (given (get_or beta i nan)) (given (get_or beta_h i nan))) =
        table-bears 6 6 p 1 (λ i j. marked_sub (given (get_or beta i nan)) (given (get_or beta_h i nan))) hp (lit≤ tt) i 0 h (lit≤ tt) (b.cell i 0 h (lit≤ tt)) in
        sub-operands u n (given (get_or beta i nan)) (given (get_or beta_h i nan)) e (f i h) (g i h)

contrast-fits : {t : ℕ} (rows p : ℕ) → rows ≤ 6 → p ≤ 6 → (l : Rows) → WrittenCells rows p l → Bears t (contrast_basis marks rows p l).seen → (u : ℤ) → nat_abs u ≤ t
    → (i j : ℕ) → i < rows → j < p → T (fits binary64 (scale u (at floats l i j)))
unfolding divided
contrast-fits {t} rows p hr hp l w b u n i j h o =
    let c : BearsCells t rows p (divided marks rows p l) = all_marks-cells rows p (divided marks rows p l) (given plus_zero) (rw (basis-seen rows p l) at b) in
    divided-fits p i u n l (λ j q. w i j h q) j o (table-bears 6 6 rows p (divided_cell marks p l) hr hp i j h o (c.cell i j h o))

-- ---- the input of a run that bears t, with 2|k| and the power of each contrast row at most t
module _ {t : ℕ} (c : Cutoffs) (p N rows : ℕ) (k : ℤ) (m : ℕ → ℤ) (phi : Rows) (a : Adjustment) (x : Input) (sizes : RunSizes p N rows) (near : 2 * nat_abs k ≤ t)
    (nears : (i : ℕ) → i < rows → nat_abs (m i) ≤ t) (w : WrittenCells p p phi) (written : Written p rows x) (bears : RunBears t p rows (run_on c p N rows phi a x)) where
  abbrev s : Scaled Marked
  s = scaled_by marks p N phi x.sigma2 a

  abbrev unit : Basis Marked
  unit = contrast_basis marks 1 p (unit_row p 0)

  first-test : TestBears t c s x.beta (replicate 6 plus_zero) unit
  unfolding coefficient_test scaled_by
  first-test =
      test-bears c s x.beta (replicate 6 plus_zero) unit
      (entry_seen c s x.beta (replicate 6 plus_zero) unit (coefficient-bears c p N rows phi a x sizes.coefficients bears 0 sizes.some))

  contrast-test : 0 < rows → TestBears t c s x.beta x.beta_h (contrast_basis marks rows p x.contrast)
  unfolding contrast_test scaled_by
  contrast-test r =
      test-bears c s x.beta x.beta_h (contrast_basis marks rows p x.contrast)
      (entry_seen c s x.beta x.beta_h (contrast_basis marks rows p x.contrast)
      (contrast-bears c p N rows phi a x sizes.coefficients bears (ne_eqb rows 0 (λ e. omega arith))))

  near2 : nat_abs (k +ℤ k) ≤ t
  near2 = omega (arith, abs-twice k)

  near1 : nat_abs k ≤ t
  near1 = omega arith

  sigma2-again : T (fits binary64 (scale (k +ℤ k) x.sigma2))
  unfolding scaled_by
  sigma2-again = sigma2-fits p sizes.coefficients (k +ℤ k) near2 sizes.some phi x.sigma2 w written.sigma2 first-test.scaling.phi

  beta-again : (i : ℕ) → i < p → T (fits binary64 (scale k (get_or x.beta i nan)))
  unfolding scaled_by
  beta-again i h =
      (difference-fits p sizes.coefficients k near1 x.beta (replicate 6 plus_zero) written.beta
      (λ j o. rw (get_or-replicate 6 j plus_zero nan (le_trans o sizes.coefficients)) zero-fits) first-test.d i h).0

  beta_h-again : 0 < rows → (i : ℕ) → i < p → T (fits binary64 (scale k (get_or x.beta_h i nan)))
  unfolding scaled_by
  beta_h-again r i h = (difference-fits p sizes.coefficients k near1 x.beta x.beta_h written.beta (written.beta_h r) (contrast-test r).d i h).1

  contrast-again : (i j : ℕ) → i < rows → j < p → T (fits binary64 (scale (m i) (at floats x.contrast i j)))
  contrast-again i j h o =
      contrast-fits rows p sizes.contrast sizes.coefficients x.contrast written.contrast (contrast-test (omega arith)).scaling.before (m i) (nears i h) i j h o

  -- multiplication in f64 by the powers of two is the exact scaling that the third demand speaks of
  pub multiplied-is-converted : (x' : Input) → Multiplied k m p rows x x' → ConvertedInput k m p rows x x'
  multiplied-is-converted x' e = record {
    sigma2 = e.sigma2 ∙ scale-is-mul binary64 (k +ℤ k) x.sigma2 sigma2-again;
    beta = λ i h. e.beta i h ∙ scale-is-mul binary64 k (get_or x.beta i nan) (beta-again i h);
    beta_h = λ r i h. e.beta_h r i h ∙ scale-is-mul binary64 k (get_or x.beta_h i nan) (beta_h-again r i h);
    contrast = λ i j h o. e.contrast i j h o ∙ scale-is-mul binary64 (m i) (at floats x.contrast i j) (contrast-again i j h o);
  }
