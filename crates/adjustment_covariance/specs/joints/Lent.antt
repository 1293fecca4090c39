-- Not needed to check document 01: names that join the code to its definitions.
-- The design of a series as the code is lent it: Z by a slice with a row stride, the weights by a slice.
use Rattle.std.specs.Prelude.{ℕ, ◌+◌, ◌*◌, ◌≤◌, ◌≡◌, Bool, true, List, [], length, get_or, is_some, Float}
use Rattle.std.specs.Option.{option_copied, unwrap_or}
use Rattle.std.specs.Float.{nan}
use Rattle.algebra.specs.Fold.{fold}
use Rattle.algebra.specs.Kind.{floats}
use Rattle.algebra_large.specs.joints.Slab.{rows_at, Holds}
use Rattle.algebra.specs.Small.{Rows}
use Rattle.adjustment.specs.declared.Block.{Block}
use Rattle.adjustment.specs.declared.CovarianceDesign.{CovarianceDesign}
use Rattle.adjustment.specs.declared.LentDesign.{LentDesign}
use Rattle.adjustment.specs.Blocks.{columns_before}
use Rattle.adjustment.specs.Covariance.{Design}
use Rattle.adjustment_covariance.specs.joints.Bounds.{Sound}

-- all of a design that Σ and the Gs look at; X, of p columns, is not among it
abbrev pub design : ℕ → Rows → Bool → List Float → List Block → ℕ → List Float → Design
design n z weighted weights blocks count theta =
    record { n = n; p = 0; x = []; z = z; weighted = weighted; weights = weights; blocks = blocks; count = count; theta = theta }

-- the weights as the document has them: whether there are any, and which
abbrev pub weighted : CovarianceDesign → Bool
weighted d = is_some d.weights

abbrev pub weights : CovarianceDesign → List Float
weights d = unwrap_or (option_copied d.weights) []

-- Z, by rows; and that it lies in its slice
abbrev pub z_rows : CovarianceDesign → Rows
z_rows d = rows_at d.stride 0 d.specimens d.columns d.z.now

abbrev pub Held : CovarianceDesign → Type 0
Held d = Holds d.stride 0 d.specimens d.columns (length d.z.now)

-- the design that is lent, with these thetas
abbrev pub lent_design : CovarianceDesign → List Float → Design
lent_design d theta = design d.specimens (z_rows d) (weighted d) (weights d) d.blocks d.count theta

-- Z has n rows, and a column for each effect of each group; there is a weight for each specimen where there are weights
pub record LentParts (n zs columns : ℕ) (z : List Float) (weighted : Bool) (weights : List Float) (blocks : List Block) (count : ℕ) : Type 0 where
  pub sound : Sound blocks count
  pub within : columns_before blocks count ≤ columns
  pub held : Holds zs 0 n columns (length z)
  pub weighed : weighted ≡ true → n ≤ length weights

-- the same of a design that is lent
abbrev pub Lent : CovarianceDesign → Type 0
Lent d = LentParts d.specimens d.stride d.columns d.z.now (weighted d) (weights d) d.blocks d.count

-- X, by rows; and that it lies in its slice
abbrev pub x_rows : LentDesign → Rows
x_rows d = rows_at d.x_stride 0 d.covariance.specimens d.coefficients d.x.now

abbrev pub HeldX : LentDesign → Type 0
HeldX d = Holds d.x_stride 0 d.covariance.specimens d.coefficients (length d.x.now)

-- x with f k times cell (k, j) of the matrix at q joined, for each k < n by rising index
unfoldable pub gained_with : ℕ → (ℕ → Float) → List Float → ℕ → ℕ → Float → ℕ → Float
gained_with n f xs q t x j = fold 0 n (λ k y. floats.plus y (floats.times (f k) (get_or xs (q + k * t + j) nan))) x
