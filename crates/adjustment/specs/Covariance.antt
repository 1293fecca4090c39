-- Document 01: "G sums (Z_g E) Z_gᵀ over groups .. Last G: diagonal 1/weight (1 without weights), factor 1. N is the number of Gs." "Σ = sum of factor × G; S = L⁻ᵀL⁻¹ from its Cholesky L."
use Rattle.std.specs.Prelude.{ℕ, ◌+◌, ◌*◌, Bool, cond, List, eqb, get_or, Float}
use Rattle.std.specs.Float.{nan, binary64}
use Rattle.std.specs.Float.Ieee.{mul, div}
use Rattle.arithmetic.specs.Numbers.{plus_zero, one}
use Rattle.algebra.specs.Table.{table}
use Rattle.algebra.specs.Kind.{floats}
use Rattle.algebra.specs.Product.{at, sum, product, transpose}
use Rattle.algebra.specs.Elimination.{inverse, inverse_refused}
use Rattle.algebra.specs.Cholesky.{cholesky_to, cholesky_refused, lower}
use Rattle.algebra.specs.Small.{Rows}
use Rattle.adjustment.specs.declared.Block.{Block}
use Rattle.adjustment.specs.declared.Place.{Place}
use Rattle.adjustment.specs.Blocks.{places_before, place_of, factor_of, direction}

-- a series' design: n specimens, p coefficients, X and Z by rows, the weights, the blocks and their thetas
pub record Design : Type 0 where
  pub n : ℕ
  pub p : ℕ
  pub x : Rows
  pub z : Rows
  pub weighted : Bool
  pub weights : List Float
  pub blocks : List Block
  pub count : ℕ
  pub theta : List Float

-- the variance parameters of the blocks; N is one more
abbrev pub parameters : Design → ℕ
parameters d = places_before d.blocks d.count

abbrev pub matrices : Design → ℕ
matrices d = parameters d + 1

-- column a of group g in Z
abbrev pub group_column : Place → ℕ → ℕ → ℕ
group_column t g a = t.start + g * t.effects + a

-- cell (i, b) of Z_g E; cell (i, j) of (Z_g E) Z_gᵀ; and its sum over groups
unfoldable pub directed_cell : Rows → Place → ℕ → ℕ → ℕ → Float
directed_cell z t g i b = sum floats t.effects (λ a. mul binary64 (at floats z i (group_column t g a)) (direction t a b))

unfoldable pub group_cell : Rows → Place → ℕ → ℕ → ℕ → Float
group_cell z t g i j = sum floats t.effects (λ b. mul binary64 (directed_cell z t g i b) (at floats z j (group_column t g b)))

unfoldable pub block_cell : Rows → Place → ℕ → ℕ → Float
block_cell z t i j = sum floats t.groups (λ g. group_cell z t g i j)

-- the last G: diagonal 1/weight, or 1
unfoldable pub residual_cell : Bool → List Float → ℕ → ℕ → Float
residual_cell weighted weights i j = cond (eqb i j) (cond weighted (div binary64 one (get_or weights i nan)) one) plus_zero

-- cell (i, j) of G_r, and its factor
unfoldable pub g_cell : Design → ℕ → ℕ → ℕ → Float
g_cell d r i j = cond (eqb r (parameters d)) (residual_cell d.weighted d.weights i j) (block_cell d.z (place_of d.blocks d.count r) i j)

unfoldable pub factor : Design → ℕ → Float
factor d r = cond (eqb r (parameters d)) one (factor_of d.theta (place_of d.blocks d.count r))

unfoldable pub g_rows : Design → ℕ → Rows
g_rows d r = table plus_zero d.n d.n d.n d.n (g_cell d r)

-- Σ
unfoldable pub sigma_cell : Design → ℕ → ℕ → Float
sigma_cell d i j = sum floats (matrices d) (λ r. mul binary64 (factor d r) (g_cell d r i j))

unfoldable pub sigma_rows : Design → Rows
sigma_rows d = table plus_zero d.n d.n d.n d.n (sigma_cell d)

-- L, lower; refusal 9 where a diagonal is not > 0
unfoldable pub cholesky : ℕ → Rows → Rows
cholesky n sigma = lower floats n n n (cholesky_to floats n n sigma)

abbrev pub not_definite : ℕ → Rows → Bool
not_definite n sigma = cholesky_refused floats n n sigma

-- L⁻¹ by elimination with pivoting; refusal 10 where a pivot is zero
unfoldable pub inverse_factor : ℕ → Rows → Rows
inverse_factor n l = inverse floats n (n + n) n n l

unfoldable pub inverse_factor_refused : ℕ → Rows → Bool
inverse_factor_refused n l = inverse_refused floats n (n + n) n n l

-- S = L⁻ᵀL⁻¹
unfoldable pub precision : ℕ → Rows → Rows
precision n invL = product floats n n n n n (transpose floats n n n n invL) invL
