-- Not needed to check document 01: names that join the code to its definitions.
-- The lent slices of the adjustment: where each matrix stands, and what the work slice holds at the end.
-- Document 01: "Σ = sum of factor × G; S = L⁻ᵀL⁻¹ from its Cholesky L. H_r = G_r S". The work slice has six squares of s rows of s numbers: Σ in square 0, S in square 1, H_r in
-- square 2 + r. The narrow slice has six parts of s rows of 6 numbers: S X in part 0, O_r in part 1 + r, O_rᵀS in part 5, by rows of n.
use Rattle.std.specs.Prelude.{ℕ, ◌+◌, ◌*◌, ◌≤◌, Bool, List, replicate, Float}
use Rattle.arithmetic.specs.Numbers.{plus_zero}
use Rattle.algebra.specs.Fold.{fold}
use Rattle.algebra_large.specs.joints.Slab.{rows_at, put_rows}
use Rattle.algebra.specs.Small.{Rows}
use Rattle.adjustment.specs.declared.Block.{Block}
use Rattle.adjustment.specs.declared.LentDesign.{LentDesign}
use Rattle.adjustment.specs.Covariance.{Design, matrices, g_rows, sigma_rows}
use Rattle.adjustment.specs.Information.{h_rows}
use Rattle.adjustment.specs.Adjusted.{precision_of}
use Rattle.adjustment_covariance.specs.joints.Lent.{weighted, weights}

-- where square k of the work slice begins, and part k of the narrow slice
abbrev pub square : ℕ → ℕ → ℕ
square s k = k * (s * s)

abbrev pub part : ℕ → ℕ → ℕ
part s k = k * (6 * s)

-- the sizes that the call asks for: n specimens in rows of stride s, p coefficients, six squares and six parts
pub record Sized (n p s work narrow : ℕ) : Type 0 where
  pub high : n ≤ s
  pub few : p ≤ 6
  pub squares : 6 * (s * s) ≤ work
  pub parts : 6 * (6 * s) ≤ narrow

abbrev pub SizedFor : LentDesign → ℕ → ℕ → ℕ → Type 0
SizedFor d s work narrow = Sized d.covariance.specimens d.coefficients s work narrow

-- the series' design, as it is lent: X and Z by slices with a row stride each, the weights by a slice
abbrev pub design_of : ℕ → ℕ → List Float → ℕ → List Float → ℕ → ℕ → Bool → List Float → List Block → ℕ → List Float → Design
design_of n p x xs z zs columns weighted weights blocks count theta =
    record { n = n; p = p; x = rows_at xs 0 n p x; z = rows_at zs 0 n columns z; weighted = weighted; weights = weights; blocks = blocks; count = count; theta = theta }

-- the same of the structs that lend it, with these thetas
abbrev pub whole_design : LentDesign → List Float → Design
whole_design d theta =
    design_of d.covariance.specimens d.coefficients d.x.now d.x_stride d.covariance.z.now d.covariance.stride d.covariance.columns (weighted d.covariance) (weights d.covariance) d.covariance.blocks d.covariance.count theta

-- nothing but +0
unfoldable pub zeros : ℕ → List Float
zeros len = replicate len plus_zero

-- the k matrices f 0, .., f (k - 1), of n rows and c columns with row stride s: matrix r stands b (o + r) elements from the start
unfoldable pub put_stack : ℕ → ℕ → ℕ → ℕ → ℕ → ℕ → (ℕ → Rows) → List Float → List Float
put_stack s b o n c k f xs = fold 0 k (λ r ys. put_rows s ((o + r) * b) n c (f r) ys) xs

-- Σ in square 0, S in square 1, and zeros
unfoldable pub precision_in : ℕ → ℕ → Design → List Float
precision_in s len d = put_rows s (square s 1) d.n d.n (precision_of d) (put_rows s (square s 0) d.n d.n (sigma_rows d) (zeros len))

-- each H_r put into its square of xs, given S
unfoldable pub with_hs : ℕ → Design → Rows → List Float → List Float
with_hs s d sm xs = put_stack s (s * s) 2 d.n d.n (matrices d) (λ r. h_rows d.n (g_rows d r) sm) xs

-- the whole work slice of len numbers, after an adjustment that is accepted: Σ, S, each H_r, and zeros everywhere else
unfoldable pub work_of : ℕ → ℕ → Design → List Float
work_of s len d = with_hs s d (precision_of d) (precision_in s len d)
