-- Document 02, "Req 02": "The chemist archives Φ, Φ_A, each P and W in response units, after the adjustment. Add a writer of 16-byte records: kind 11 Φ, 12 Φ_A, 13 P (the count field is its index),
-- 14 W. Order is kind, index, row, column. Add a reader of the same file". What is archived, its file, what a file of this kind says, and what refuses it.
use Rattle.std.specs.Prelude.{ℕ, max, Bool, false, not, cond, List, [], ◌∷◌, ◌++◌, eqb, Float}
use Rattle.std.specs.Float.{binary64}
use Rattle.std.specs.Float.Ieee.{mul, div, le, to_bits}
use Rattle.arithmetic.specs.Numbers.{plus_zero}
use Rattle.algebra.specs.Kind.{floats}
use Rattle.algebra.specs.Product.{at}
use Rattle.algebra.specs.Table.{table}
use Rattle.algebra.specs.Small.{Rows}
use Rattle.algebra.specs.Reasons.{first}
use Rattle.adjustment.specs.Adjusted.{Stack, matrix_at, stack}
use Rattle.records.specs.declared.Kind.{Kind}
use Rattle.records.specs.declared.Sizes.{Sizes}
use Rattle.records.specs.format.Scan.{any}
use Rattle.records.specs.format.Kinds.{Table, kind_at, width, archive_kinds}
use Rattle.records.specs.format.File.{count, cell, rows, columns, not_finite}
use Rattle.records.specs.format.KindNumbers.{kind_scaled_phi, kind_scaled_phi_a, kind_scaled_p, kind_w, kind_archived_phi, kind_archived_phi_a, kind_archived_p, kind_archived_sigma2}
use Rattle.records.specs.readers.Reader.{Reader, reader_reasons}
use Rattle.records.specs.format.Written.{Content, file_of}

-- ---- what is archived: Φ and the adjustment in residual units, and sigma2; the coefficients are p, and each of the variance parameters has a P
pub record Archive : Type 0 where
  pub coefficients : ℕ
  pub parameters : ℕ
  pub phi : Rows
  pub phi_a : Rows
  pub ps : Stack
  pub w : Rows
  pub sigma2 : Float

-- its sizes: no other kind of record has a place in its file
unfoldable pub sizes_at : ℕ → ℕ → Sizes
sizes_at p N = record { specimens = 0; coefficients = p; columns = 0; blocks = 0; thetas = 0; contrasts = 0; parameters = N; weighted = false; hypothesis = false }

-- the number of kind k, index n, row r and column c. "in response units", which is document 01's "Φ and Φ_A times sigma2, each P divided by it; W unchanged": 11, 12, 13 and 14; "Φ, Φ_A and P in residual
-- units and sigma2 follow as kinds 15 to 18"
unfoldable pub archived : Archive → ℕ → ℕ → ℕ → ℕ → Float
archived a k n r c =
    cond (eqb k kind_scaled_phi) (mul binary64 (at floats a.phi r c) a.sigma2)
    (cond (eqb k kind_scaled_phi_a) (mul binary64 (at floats a.phi_a r c) a.sigma2)
    (cond (eqb k kind_scaled_p) (div binary64 (at floats (matrix_at a.ps n) r c) a.sigma2)
    (cond (eqb k kind_w) (at floats a.w r c)
    (cond (eqb k kind_archived_phi) (at floats a.phi r c)
    (cond (eqb k kind_archived_phi_a) (at floats a.phi_a r c)
    (cond (eqb k kind_archived_p) (at floats (matrix_at a.ps n) r c) a.sigma2))))))

-- what a cell's record says: its number's bits
unfoldable pub archive_content : Archive → ℕ → ℕ → ℕ → ℕ → Content
archive_content a k n r c = record { count = 0; row = 0; column = 0; bits = to_bits binary64 (archived a k n r c) }

-- THE FILE: "Order is kind, index, row, column"
unfoldable pub archive_bytes : Archive → List ℕ
archive_bytes a = file_of (archive_kinds (sizes_at a.coefficients a.parameters)) (archive_content a)

-- "The writer is lent 7,184 bytes": the longest file, of 6 coefficients and 4 variance parameters
abbrev pub archive_length : ℕ
archive_length = 7184

-- ---- the reader: p and the number of variance parameters come from the largest indices of Φ and of W. There is one of each: a file without misses its first cell.
abbrev pub coefficients : List ℕ → ℕ
coefficients s = max 1 (max (rows s kind_scaled_phi) (columns s kind_scaled_phi))

abbrev pub parameters : List ℕ → ℕ
parameters s = max 1 (max (rows s kind_w) (columns s kind_w))

unfoldable pub sizes : List ℕ → Sizes
sizes s = sizes_at (coefficients s) (parameters s)

-- what the sizes leave each kind
abbrev pub kinds : List ℕ → Table
kinds s = archive_kinds (sizes s)

-- the number in cell (r, c) of index n of a kind
abbrev pub cell_value : List ℕ → ℕ → ℕ → ℕ → ℕ → Float
cell_value s k n r c = cell (kinds s) s k n r c

-- what the file archives: its records in residual units, W and sigma2
unfoldable pub archive_of : List ℕ → Archive
archive_of s = record {
  coefficients = coefficients s;
  parameters = parameters s;
  phi = table plus_zero 6 6 (coefficients s) (coefficients s) (cell_value s kind_archived_phi 0);
  phi_a = table plus_zero 6 6 (coefficients s) (coefficients s) (cell_value s kind_archived_phi_a 0);
  ps = stack 4 (parameters s) (λ i. table plus_zero 6 6 (coefficients s) (coefficients s) (cell_value s kind_archived_p i));
  w = table plus_zero 6 6 (parameters s) (parameters s) (cell_value s kind_w 0);
  sigma2 = cell_value s kind_archived_sigma2 0 0 0;
}

-- "a scaled record whose bits aren't its residual one's times or divided by sigma2": a cell of kind k whose bits are not those of what is archived
unfoldable pub misscaled : List ℕ → ℕ → Bool
misscaled s k =
    let z : Kind = kind_at (kinds s) k in
    any (width z.count) (λ n. any (width z.row) (λ r. any (width z.column) (λ c. not (eqb (to_bits binary64 (cell_value s k n r c)) (to_bits binary64 (archived (archive_of s) k n r c))))))

-- what refuses an archive, in order: its length, its order, its form, its values, and "After 5, a scaled record .. falls under 2"
unfoldable pub value_reasons : List ℕ → List (ℕ × Bool)
value_reasons s = (4, any (count s) (not_finite s)) ∷ (5, le (archive_of s).sigma2 plus_zero) ∷ []

unfoldable pub scaled_reasons : List ℕ → List (ℕ × Bool)
scaled_reasons s = (2, misscaled s kind_scaled_phi) ∷ (2, misscaled s kind_scaled_phi_a) ∷ (2, misscaled s kind_scaled_p) ∷ []

abbrev pub reader : Reader
reader = record { kinds = archive_kinds; limit = 1; sizes = sizes; own = λ s. value_reasons s ++ scaled_reasons s }

unfoldable pub reasons : List ℕ → List (ℕ × Bool)
reasons s = reader_reasons reader s

unfoldable pub refusal : List ℕ → ℕ
refusal s = first (reasons s)
