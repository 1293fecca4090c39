-- Document 01, "kenward_roger.rs (66 lines) and records": "The Satterthwaite call reads kinds 8, 9, 10, 30 v, 31 Jacobian (count its number, from 0) and 32 A, the last three by row and column, only
-- 10 optional; p comes from β, the parameters from A. Kinds of the other call are bad." What a file of this call says, and the refusals 2, 12 and 4.
use Rattle.std.specs.Prelude.{ℕ, max, Bool, false, List, [], ◌∷◌, ◌++◌, replicate, Float}
use Rattle.arithmetic.specs.Numbers.{plus_zero}
use Rattle.algebra.specs.Fold.{span}
use Rattle.algebra.specs.Table.{row, table, blank}
use Rattle.algebra.specs.Reasons.{first}
use Rattle.records.specs.declared.Sizes.{Sizes}
use Rattle.records.specs.format.Scan.{any}
use Rattle.records.specs.format.Kinds.{Table, satterthwaite_kinds}
use Rattle.records.specs.format.File.{count, cell, rows, columns, present, not_finite}
use Rattle.records.specs.format.KindNumbers.{kind_beta, kind_contrast, kind_beta_h, kind_v, kind_jacobian, kind_a}
use Rattle.records.specs.readers.Reader.{Reader, reader_reasons}
use Rattle.tests.specs.Satterthwaite.{Inputs}

-- There is a coefficient, a contrast row and a parameter: a file without misses its first cell.
abbrev pub coefficients : List ℕ → ℕ
coefficients s = max 1 (rows s kind_beta)

abbrev pub contrast_rows : List ℕ → ℕ
contrast_rows s = max 1 (rows s kind_contrast)

abbrev pub parameters : List ℕ → ℕ
parameters s = max 1 (max (rows s kind_a) (columns s kind_a))

-- "only 10 optional"
unfoldable pub sizes : List ℕ → Sizes
sizes s = record {
  specimens = 0;
  coefficients = coefficients s;
  columns = 0;
  blocks = 0;
  thetas = 0;
  contrasts = contrast_rows s;
  parameters = parameters s;
  weighted = false;
  hypothesis = present s kind_beta_h;
}

-- what the sizes leave each kind
abbrev pub kinds : List ℕ → Table
kinds s = satterthwaite_kinds (sizes s)

-- what refuses a file before anything is computed, in order: its length, its order and its form (2, 12, 2: Reader), its values
unfoldable pub value_reasons : List ℕ → List (ℕ × Bool)
value_reasons s = (4, any (count s) (not_finite s)) ∷ []

-- no kind of these names specimens, so that their limit is of no account
abbrev pub reader : Reader
reader = record { kinds = satterthwaite_kinds; limit = 1; sizes = sizes; own = value_reasons }

unfoldable pub reasons : List ℕ → List (ℕ × Bool)
reasons s = reader_reasons reader s

unfoldable pub refusal : List ℕ → ℕ
refusal s = first (reasons s)

-- ---- what a file that is not refused sends; cell (r, c) of number n of a kind
abbrev pub cell_value : List ℕ → ℕ → ℕ → ℕ → ℕ → Float
cell_value s k n r c = cell (kinds s) s k n r c

unfoldable pub jacobians : List ℕ → List (List (List Float))
jacobians s =
    span 0 (parameters s) (λ i. table plus_zero 6 6 (coefficients s) (coefficients s) (cell_value s kind_jacobian i)) (replicate 4 (blank plus_zero 6 6))

unfoldable pub inputs : List ℕ → Inputs
inputs s = record {
  p = coefficients s;
  q = contrast_rows s;
  n = parameters s;
  l = table plus_zero 6 6 (contrast_rows s) (coefficients s) (cell_value s kind_contrast 0);
  beta = row plus_zero 6 (coefficients s) (λ i. cell_value s kind_beta 0 i 0);
  beta_h = row plus_zero 6 (coefficients s) (λ i. cell_value s kind_beta_h 0 i 0);
  v = table plus_zero 6 6 (coefficients s) (coefficients s) (cell_value s kind_v 0);
  js = jacobians s;
  a = table plus_zero 6 6 (parameters s) (parameters s) (cell_value s kind_a 0);
}
