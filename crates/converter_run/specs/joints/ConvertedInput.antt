-- Not needed to check document 01: names that join the code to its definitions.
-- Document 01, demand 3: the input of a Kenward–Roger run, and the same input under another converter: sigma2 times 4^k, β and β_H times 2^k, row i of the contrast times 2^(m i), and
-- all other input as it was.
use Rattle.std.specs.Prelude.{ℕ, ◌≤◌, ◌<◌, ◌≡◌, List, T, ℤ, neg_ℤ, ◌+ℤ◌, get_or, Float}
use Rattle.std.specs.Float.{nan, binary64}
use Rattle.std.specs.Float.Ieee.{fits, mul, div}
use Rattle.arithmetic.specs.Scale.{scale, power_of_two}
use Rattle.algebra.specs.Kind.{floats, marks}
use Rattle.algebra.specs.Product.{at}
use Rattle.arithmetic_cutoffs.specs.declared.Cutoffs.{Cutoffs}
use Rattle.adjustment.specs.Covariance.{Design, matrices}
use Rattle.adjustment.specs.Adjusted.{Adjustment, matrix_at, adjustment, adjustment_refusal}
use Rattle.algebra.specs.Small.{Rows}
use Rattle.tests.specs.declared.Run.{Run}
use Rattle.tests.specs.KenwardRoger.{scaled_by, run_of}
use Rattle.tests.specs.Verdict.{RunSurvives}

-- what a converter changes
pub record Input : Type 0 where
  pub sigma2 : Float
  pub beta : List Float
  pub beta_h : List Float
  pub contrast : Rows

-- the run on it: Φ and the adjustment, both in residual units, do not see sigma2
abbrev pub run_on : Cutoffs → ℕ → ℕ → ℕ → Rows → Adjustment → Input → Run
run_on c p N rows phi a x = run_of marks c (scaled_by marks p N phi x.sigma2 a) x.beta x.beta_h rows x.contrast

-- the same input, scaled exactly; β_H is used where there is a contrast
pub record ConvertedInput (k : ℤ) (m : ℕ → ℤ) (p rows : ℕ) (x x' : Input) : Type 0 where
  pub sigma2 : x'.sigma2 ≡ scale (k +ℤ k) x.sigma2
  pub beta : (i : ℕ) → i < p → get_or x'.beta i nan ≡ scale k (get_or x.beta i nan)
  pub beta_h : 0 < rows → (i : ℕ) → i < p → get_or x'.beta_h i nan ≡ scale k (get_or x.beta_h i nan)
  pub contrast : (i j : ℕ) → i < rows → j < p → at floats x'.contrast i j ≡ scale (m i) (at floats x.contrast i j)

-- the same input, each number multiplied by its power of two as f64
pub record Multiplied (k : ℤ) (m : ℕ → ℤ) (p rows : ℕ) (x x' : Input) : Type 0 where
  pub sigma2 : x'.sigma2 ≡ mul binary64 x.sigma2 (power_of_two (k +ℤ k))
  pub beta : (i : ℕ) → i < p → get_or x'.beta i nan ≡ mul binary64 (get_or x.beta i nan) (power_of_two k)
  pub beta_h : 0 < rows → (i : ℕ) → i < p → get_or x'.beta_h i nan ≡ mul binary64 (get_or x.beta_h i nan) (power_of_two k)
  pub contrast : (i j : ℕ) → i < rows → j < p → at floats x'.contrast i j ≡ mul binary64 (at floats x.contrast i j) (power_of_two (m i))

-- ---- what every record file gives
-- p coefficients, N matrices P and rows of a contrast (0: none) within document 01's limits
pub record RunSizes (p N rows : ℕ) : Type 0 where
  pub some : 1 ≤ p
  pub coefficients : p ≤ 6
  pub matrices : N ≤ 4
  pub contrast : rows ≤ 6

-- the cells of r rows and c columns are f64 numbers
abbrev pub WrittenCells : ℕ → ℕ → Rows → Type 0
WrittenCells r c a = (i j : ℕ) → i < r → j < c → T (fits binary64 (at floats a i j))

-- so are the numbers of an input
pub record Written (p rows : ℕ) (x : Input) : Type 0 where
  pub sigma2 : T (fits binary64 x.sigma2)
  pub beta : (i : ℕ) → i < p → T (fits binary64 (get_or x.beta i nan))
  pub beta_h : 0 < rows → (i : ℕ) → i < p → T (fits binary64 (get_or x.beta_h i nan))
  pub contrast : WrittenCells rows p x.contrast

-- and those of Φ, which is m, and of the adjustment, in residual units
pub record WrittenUnits (p N : ℕ) (m : Rows) (a : Adjustment) : Type 0 where
  pub phi : WrittenCells p p m
  pub phi_a : WrittenCells p p a.phi_a
  pub ps : (r : ℕ) → r < N → WrittenCells p p (matrix_at a.ps r)

-- ---- what is promised of the scaling with sigma2 and with the converted sigma2: each cell of Φ and Φ_A times it is 4 ^ k times what it was, each of a P divided by it that over 4 ^ k
pub record ScalingMoves (k : ℤ) (p N : ℕ) (m : Rows) (a : Adjustment) (sigma2 sigma2' : Float) : Type 0 where
  pub phi : (i j : ℕ) → i < p → j < p → mul binary64 (at floats m i j) sigma2' ≡ scale (k +ℤ k) (mul binary64 (at floats m i j) sigma2)
  pub phi_a : (i j : ℕ) → i < p → j < p → mul binary64 (at floats a.phi_a i j) sigma2' ≡ scale (k +ℤ k) (mul binary64 (at floats a.phi_a i j) sigma2)
  pub ps : (r i j : ℕ) → r < N → i < p → j < p
      → div binary64 (at floats (matrix_at a.ps r) i j) sigma2' ≡ scale (neg_ℤ (k +ℤ k)) (div binary64 (at floats (matrix_at a.ps r) i j) sigma2)

-- ---- what is promised of a series: its adjustment is refused with the number that it had (0: not refused), and its run survives
pub record SeriesSurvives (c : Cutoffs) (d : Design) (m : Rows) (rows : ℕ) (x x' : Input) : Type 0 where
  pub number : adjustment_refusal c d m x'.sigma2 ≡ adjustment_refusal c d m x.sigma2
  pub run : RunSurvives (run_on c d.p (matrices d) rows m (adjustment c d m) x) (run_on c d.p (matrices d) rows m (adjustment c d m) x')
