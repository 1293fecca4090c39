-- Document 02, "Req 02": "A test from the archive, with the series' kinds 8 to 10 lent as a second file and judged after it". What the second file says, β, the contrast and β_H as in a series, and what
-- refuses it, p being the archive's coefficients. "Kinds 2 to 5, 9, 10 may be absent wholly (β_H is then 0); 10 without 9 counts as beyond the sizes."
use Rattle.std.specs.Prelude.{ℕ, max, Bool, false, not, ◌&&◌, ◌||◌, List, [], ◌∷◌, ◌++◌, eqb, Float}
use Rattle.arithmetic.specs.Numbers.{plus_zero, is_zero}
use Rattle.algebra.specs.Table.{row, table}
use Rattle.algebra.specs.Small.{Rows}
use Rattle.algebra.specs.Reasons.{first}
use Rattle.records.specs.declared.Sizes.{Sizes}
use Rattle.records.specs.format.Scan.{any}
use Rattle.records.specs.format.Kinds.{Table, test_kinds}
use Rattle.records.specs.format.File.{count, cell, rows, present, not_finite}
use Rattle.records.specs.format.KindNumbers.{kind_beta, kind_contrast, kind_beta_h}
use Rattle.records.specs.readers.Reader.{Reader, reader_reasons}
use Rattle.records.specs.format.Written.{records_of}

-- its coefficients are those of β: a file without misses the first
abbrev pub coefficients : List ℕ → ℕ
coefficients t = max 1 (rows t kind_beta)

abbrev pub contrast_rows : List ℕ → ℕ
contrast_rows t = rows t kind_contrast

unfoldable pub sizes : List ℕ → Sizes
sizes t = record {
  specimens = 0;
  coefficients = coefficients t;
  columns = 0;
  blocks = 0;
  thetas = 0;
  contrasts = contrast_rows t;
  parameters = 0;
  weighted = false;
  hypothesis = present t kind_beta_h && present t kind_contrast;
}

abbrev pub kinds : List ℕ → Table
kinds t = test_kinds (sizes t)

abbrev pub cell_value : List ℕ → ℕ → ℕ → ℕ → Float
cell_value t k r c = cell (kinds t) t k 0 r c

-- 8, "Kenward–Roger contrast all zero"
unfoldable pub zero_contrast : List ℕ → Bool
zero_contrast t = present t kind_contrast && not (any (contrast_rows t) (λ r. any (coefficients t) (λ c. not (is_zero (cell_value t kind_contrast r c)))))

-- in order: its length, its order, its form, a β of another length than p (a cell missing or beyond the archive's sizes, 2), its values
unfoldable pub formed_for : ℕ → List ℕ → List (ℕ × Bool)
formed_for p t = (2, not (eqb (coefficients t) p)) ∷ []

unfoldable pub value_reasons : List ℕ → List (ℕ × Bool)
value_reasons t = (4, any (count t) (not_finite t)) ∷ (8, zero_contrast t) ∷ []

abbrev pub reader : ℕ → Reader
reader p = record { kinds = test_kinds; limit = 1; sizes = sizes; own = λ t. formed_for p t ++ value_reasons t }

unfoldable pub reasons : ℕ → List ℕ → List (ℕ × Bool)
reasons p t = reader_reasons (reader p) t

unfoldable pub refusal : ℕ → List ℕ → ℕ
refusal p t = first (reasons p t)

-- ---- what the tests take from it
unfoldable pub beta : List ℕ → List Float
beta t = row plus_zero 6 (coefficients t) (λ i. cell_value t kind_beta i 0)

unfoldable pub beta_h : List ℕ → List Float
beta_h t = row plus_zero 6 (coefficients t) (λ i. cell_value t kind_beta_h i 0)

unfoldable pub contrast : List ℕ → Rows
contrast t = table plus_zero 6 6 (contrast_rows t) (coefficients t) (cell_value t kind_contrast)

-- ---- "the series' kinds 8 to 10": the records of these kinds, in their order
unfoldable pub is_test_kind : ℕ → Bool
is_test_kind k = eqb k kind_beta || eqb k kind_contrast || eqb k kind_beta_h

unfoldable pub own_tests : List ℕ → List ℕ
own_tests s = records_of is_test_kind s
