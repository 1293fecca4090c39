-- Not needed to check document 01: names that join the code to its definitions.
-- A cell of the matrix that the sweeps start from.
use Rattle.std.specs.Prelude.{ℕ, cond, List, ltb}
use Rattle.algebra.specs.Kind.{Arith}
use Rattle.algebra.specs.Product.{at}

module _ {A : Type 0} (N : Arith A) where
  -- document 01: "symmetric, upper half read": below the diagonal stands the cell above it
  abbrev pub mirrored_cell : List (List A) → ℕ → ℕ → A
  mirrored_cell m i j = cond (ltb j i) (at N m j i) (at N m i j)
