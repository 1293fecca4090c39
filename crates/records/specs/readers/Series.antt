-- Document 01, "kenward_roger.rs (66 lines) and records" and "Refusals", with document 02's "Req 01", "Req 03" and "Req 04": a Kenward–Roger series as its file gives it, the series that is run, and the refusals 2, 12, 13 and 3 to 8, which
-- come before any computing.
use Rattle.std.specs.Prelude.{ℕ, ◌+◌, ◌*◌, ◌/◌, max, Bool, not, ◌&&◌, ◌||◌, cond, List, [], ◌∷◌, ◌++◌, eqb, ltb, Float}
use Rattle.std.specs.Float.Ieee.{lt, le}
use Rattle.arithmetic.specs.Numbers.{plus_zero, is_zero}
use Rattle.algebra.specs.Table.{row, table}
use Rattle.algebra.specs.Small.{Rows}
use Rattle.adjustment.specs.declared.Block.{Block}
use Rattle.adjustment.specs.Blocks.{no_block, places}
use Rattle.adjustment.specs.Covariance.{Design}
use Rattle.algebra.specs.Reasons.{first}
use Rattle.records.specs.declared.Sizes.{Sizes}
use Rattle.records.specs.format.Scan.{any, last, total}
use Rattle.records.specs.format.Kinds.{Table, kenward_roger_kinds}
use Rattle.records.specs.format.File.{count, kind_of, column_of, count_of, first_value_of, is_cell, cell, rows, columns, present, not_finite}
use Rattle.records.specs.format.KindNumbers.{kind_x, kind_z, kind_block, kind_theta, kind_weight, kind_phi, kind_sigma2, kind_beta, kind_contrast, kind_beta_h}
use Rattle.records.specs.readers.Reader.{Reader, reader_reasons}
use Rattle.records.specs.readers.Shortened.{all_torn, shortened}

-- "n and p come from the largest X indices; Z columns, blocks, thetas and contrast rows from their own kind." A series has a specimen and a coefficient: a file with no X misses its
-- first cell.
abbrev pub specimens : List ℕ → ℕ
specimens s = max 1 (rows s kind_x)

abbrev pub coefficients : List ℕ → ℕ
coefficients s = max 1 (columns s kind_x)

abbrev pub z_columns : List ℕ → ℕ
z_columns s = columns s kind_z

abbrev pub block_count : List ℕ → ℕ
block_count s = rows s kind_block

abbrev pub thetas : List ℕ → ℕ
thetas s = rows s kind_theta

abbrev pub contrast_rows : List ℕ → ℕ
contrast_rows s = rows s kind_contrast

-- a weight for each specimen, or none
abbrev pub weight_count : List ℕ → ℕ
weight_count s = cond (present s kind_weight) (specimens s) 0

-- "Kinds 2 to 5, 9, 10 may be absent wholly (β_H is then 0); 10 without 9 counts as beyond the sizes."
unfoldable pub sizes : List ℕ → Sizes
sizes s = record {
  specimens = specimens s;
  coefficients = coefficients s;
  columns = z_columns s;
  blocks = block_count s;
  thetas = thetas s;
  contrasts = contrast_rows s;
  parameters = 0;
  weighted = present s kind_weight;
  hypothesis = present s kind_beta_h && present s kind_contrast;
}

-- what the sizes leave each kind
abbrev pub kinds : List ℕ → Table
kinds s = kenward_roger_kinds (sizes s)

-- the number in a cell of a kind that is named by row and column
abbrev pub cell_value : List ℕ → ℕ → ℕ → ℕ → Float
cell_value s k r c = cell (kinds s) s k 0 r c

abbrev pub sigma2 : List ℕ → Float
sigma2 s = cell_value s kind_sigma2 0 0

-- "3 block (row its number, column k, count m, ..)"
unfoldable pub block_of : List ℕ → ℕ → Block
block_of s b =
    record {
      effects = last (count s) (is_cell (kinds s) s kind_block 0 b 0) (column_of s) 0;
      groups = last (count s) (is_cell (kinds s) s kind_block 0 b 0) (count_of s) 0;
    }

-- ---- the design as the file sends it
unfoldable pub as_sent : List ℕ → Design
as_sent s = record {
  n = specimens s;
  p = coefficients s;
  x = table plus_zero (specimens s) (coefficients s) (specimens s) (coefficients s) (cell_value s kind_x);
  z = table plus_zero (specimens s) (z_columns s) (specimens s) (z_columns s) (cell_value s kind_z);
  weighted = present s kind_weight;
  weights = row plus_zero (weight_count s) (weight_count s) (λ i. cell_value s kind_weight i 0);
  blocks = row no_block 3 (block_count s) (block_of s);
  count = block_count s;
  theta = row plus_zero 3 (thetas s) (λ i. cell_value s kind_theta i 0);
}

-- ---- what refuses it
-- Document 02, "Req 04": "Parameter count", k(k+1)/2, how many "theta values" the block of record i has, whose column is k
abbrev pub parameter_count : List ℕ → ℕ → ℕ
parameter_count s i = column_of s i * (column_of s i + 1) / 2

-- 13, "a block whose written number differs from k(k+1)/2": the written number is the first value byte, and whole numbers are compared, so that from k = 23 on none is right
unfoldable pub miscounted : List ℕ → ℕ → Bool
miscounted s i = eqb (kind_of s i) kind_block && not (eqb (first_value_of s i) (parameter_count s i))

-- 3, "a size outside its limits": a block of other than 1 or 2 effects or without a group, or more than 3 block parameters. Any other size is bounded by 2.
unfoldable pub bad_size : List ℕ → Bool
bad_size s =
    any (block_count s) (λ b. not (eqb (block_of s b).effects 1 || eqb (block_of s b).effects 2) || eqb (block_of s b).groups 0)
    || ltb 3 (total (block_count s) (λ b. places (block_of s b)))

-- 6, by document 02, "Req 03": "Only a negative weight is refused with 6"
unfoldable pub bad_weight : List ℕ → Bool
bad_weight s = present s kind_weight && any (specimens s) (λ i. lt (cell_value s kind_weight i 0) plus_zero)

-- 7, "sum of m·k ≠ Z columns, or theta count ≠ sum of k(k+1)/2"
unfoldable pub misfit : List ℕ → Bool
misfit s =
    not (eqb (total (block_count s) (λ b. (block_of s b).groups * (block_of s b).effects)) (z_columns s))
    || not (eqb (thetas s) (total (block_count s) (λ b. places (block_of s b))))

-- 8, "Kenward–Roger contrast all zero"
unfoldable pub zero_contrast : List ℕ → Bool
zero_contrast s = present s kind_contrast && not (any (contrast_rows s) (λ r. any (coefficients s) (λ c. not (is_zero (cell_value s kind_contrast r c)))))

-- What refuses a file before anything is computed, in order: its length, its order and its form (2, 12, 2: Reader), its blocks' parameter counts, its sizes, its values. From 3 on this is document 01's "lowest number first". w is the limit of specimens.
-- "Req 04": 13 comes "after 2 and before 3"
unfoldable pub block_reasons : List ℕ → List (ℕ × Bool)
block_reasons s = (13, any (count s) (miscounted s)) ∷ []

-- "Req 03": "A series with all weights zero falls under 3, in 3's place"
unfoldable pub size_reasons : List ℕ → List (ℕ × Bool)
size_reasons s = (3, bad_size s || all_torn (as_sent s)) ∷ []

unfoldable pub value_reasons : List ℕ → List (ℕ × Bool)
value_reasons s =
    (4, any (count s) (not_finite s))
    ∷ (5, le (sigma2 s) plus_zero)
    ∷ (6, bad_weight s)
    ∷ (7, misfit s)
    ∷ (8, zero_contrast s)
    ∷ []

abbrev pub reader : ℕ → Reader
reader w = record { kinds = kenward_roger_kinds; limit = w; sizes = sizes; own = λ s. block_reasons s ++ (size_reasons s ++ value_reasons s) }

unfoldable pub reasons : ℕ → List ℕ → List (ℕ × Bool)
reasons w s = reader_reasons (reader w) s

unfoldable pub refusal : ℕ → List ℕ → ℕ
refusal w s = first (reasons w s)

-- ---- the series of a file that is not refused
-- Document 02, "Req 03": "The answer equals the definition's on the shortened series": the design without its torn specimens
unfoldable pub design : List ℕ → Design
design s = shortened (as_sent s)

unfoldable pub phi : List ℕ → Rows
phi s = table plus_zero 6 6 (coefficients s) (coefficients s) (cell_value s kind_phi)

unfoldable pub beta : List ℕ → List Float
beta s = row plus_zero 6 (coefficients s) (λ i. cell_value s kind_beta i 0)

-- "(β_H is then 0)"
unfoldable pub beta_h : List ℕ → List Float
beta_h s = row plus_zero 6 (coefficients s) (λ i. cell_value s kind_beta_h i 0)

unfoldable pub contrast : List ℕ → Rows
contrast s = table plus_zero 6 6 (contrast_rows s) (coefficients s) (cell_value s kind_contrast)
