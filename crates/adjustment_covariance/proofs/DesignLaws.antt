-- Laws of the design that is lent: its cells, and what they do not look at.
use Prim.Native.Nat.{ℕ, ◌<◌}
use native.Mathlib.Omega.{arith}
use mathlib.Core.Path.{◌≡◌, refl, ap, ◌∙◌}
use mathlib.Core.Bool.{Bool, true}
use mathlib.Core.List.{List, []}
use lib.Ieee.{Float, nan, binary64, mul}
use borrow.Author.Tests.{eq-eqb, ne_eqb}
use Rattle.arithmetic.specs.Numbers.{plus_zero}
use Rattle.algebra.specs.Kind.{floats}
use Rattle.algebra.specs.Product.{at, transpose}
use Rattle.algebra.proofs.TableLaws.{table_at}
use Rattle.algebra.specs.Small.{Rows}
use Rattle.adjustment.specs.declared.Block.{Block}
use Rattle.adjustment.specs.declared.Place.{Place}
use Rattle.adjustment.specs.Blocks.{places_before, place_of, factor_of}
use Rattle.adjustment.specs.Covariance.{Design, block_cell, residual_cell, g_cell, g_rows, factor, sigma_cell, sigma_rows}
use Rattle.adjustment_covariance.specs.joints.Lent.{design}

pub g-at : (d : Design) (r i j : ℕ) → i < d.n → j < d.n → at floats (g_rows d r) i j ≡ g_cell d r i j
unfolding g_rows
g-at d r i j hi hj = table_at plus_zero d.n d.n d.n d.n (g_cell d r) i j nan hi hj (omega arith) (omega arith)

pub sigma-at : (d : Design) (i j : ℕ) → i < d.n → j < d.n → at floats (sigma_rows d) i j ≡ sigma_cell d i j
unfolding sigma_rows
sigma-at d i j hi hj = table_at plus_zero d.n d.n d.n d.n (sigma_cell d) i j nan hi hj (omega arith) (omega arith)

-- a cell of a transpose
pub turned-at : (p n k a : ℕ) (m : Rows) → k < n → a < p → at floats (transpose floats p n n p m) a k ≡ at floats m k a
unfolding transpose
turned-at p n k a m hk ha = table_at plus_zero p n p n (λ i j. at floats m j i) a k nan ha hk (omega arith) (omega arith)

module _ (n : ℕ) (z : Rows) (weighted : Bool) (weights : List Float) (blocks : List Block) (count : ℕ) (theta : List Float) where
  -- one term of Σ, from a factor that does not look at Z and a cell that does not look at the thetas
  pub sigma-term : (r i j : ℕ) (f g : Float) → f ≡ factor (design 0 [] true [] blocks count theta) r → g ≡ g_cell (design n z weighted weights blocks count []) r i j
      → mul binary64 f g ≡ mul binary64 (factor (design n z weighted weights blocks count theta) r) (g_cell (design n z weighted weights blocks count theta) r i j)
  unfolding factor g_cell
  sigma-term r i j f g ef eg = rw (ef, eg)

  -- the factor and the cells of a block's parameter, and those of the last G
  pub factor-own : (r : ℕ) (t : Place) (x : Float) → (r ≡ places_before blocks count → ⊥) → t ≡ place_of blocks count r → x ≡ factor_of theta t
      → x ≡ factor (design n z weighted weights blocks count theta) r
  unfolding factor
  factor-own r t x h et ex = rw (ne_eqb r (places_before blocks count) h) (ex ∙ ap (factor_of theta) et)

  pub g-own : (r i j : ℕ) (t : Place) (x : Float) → (r ≡ places_before blocks count → ⊥) → t ≡ place_of blocks count r → x ≡ block_cell z t i j
      → x ≡ g_cell (design n z weighted weights blocks count theta) r i j
  unfolding g_cell
  g-own r i j t x h et ex = rw (ne_eqb r (places_before blocks count) h) (ex ∙ ap (λ (t : Place). block_cell z t i j) et)

  pub g-last : (r i j : ℕ) (x : Float) → r ≡ places_before blocks count → x ≡ residual_cell weighted weights i j
      → x ≡ g_cell (design n z weighted weights blocks count theta) r i j
  unfolding g_cell
  g-last r i j x h ex = rw (eq-eqb r (places_before blocks count) h) ex

  -- the whole design, with X of p columns
  abbrev pub whole : ℕ → Rows → Design
  whole p x = record { n = n; p = p; x = x; z = z; weighted = weighted; weights = weights; blocks = blocks; count = count; theta = theta }

  -- Σ is that of the whole design
  pub sigma-whole : (p : ℕ) (x : Rows) → sigma_rows (design n z weighted weights blocks count theta) ≡ sigma_rows (whole p x)
  unfolding sigma_rows sigma_cell factor g_cell
  sigma-whole p x = refl
