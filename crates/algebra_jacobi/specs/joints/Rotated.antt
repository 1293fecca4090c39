-- Not needed to check document 01: names that join the code to its definitions.
-- Parts of the definition of a rotated matrix that a function of its own computes.
use Rattle.std.specs.Prelude.{ℕ, cond, List, eqb}
use Rattle.algebra.specs.Kind.{Arith, zero_of}
use Rattle.algebra.specs.Product.{at}

module _ {A : Type 0} (N : Arith A) where
  -- one cell (i, j) of the rotated matrix: the two new diagonal cells, the +0 beside them, cell (j, p) or (j, q) mirrored, or the cell as it is
  unfoldable pub chosen_cell : ℕ → ℕ → A → A → ℕ → ℕ → A → A → A → A
  chosen_cell p q first second i j byP byQ here =
      cond (eqb i p) (cond (eqb j p) first (cond (eqb j q) (zero_of N) byP)) (cond (eqb i q) (cond (eqb j q) second (cond (eqb j p) (zero_of N) byQ)) here)

  -- `rotated_cell` where the two new diagonal cells are given
  abbrev pub mirroring_cell : ℕ → ℕ → A → A → List (List A) → ℕ → ℕ → A
  mirroring_cell p q first second w i j = chosen_cell p q first second i j (at N w j p) (at N w j q) (at N w i j)
