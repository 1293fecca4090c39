-- Document 01: "theta fills a block's lower-triangular T by columns. Z_g is a group's k columns of Z; columns run block by block, group by group. For each such place,
-- E has 1 there and at its mirror; .. and its factor is that entry of TTᵀ."
use Rattle.std.specs.Prelude.{ℕ, ◌+◌, ◌-◌, ◌*◌, ◌/◌, Bool, cond, ◌&&◌, ◌||◌, List, eqb, leb, get_or, Float}
use Rattle.std.specs.Float.{nan, binary64}
use Rattle.std.specs.Float.Ieee.{mul}
use Rattle.arithmetic.specs.Numbers.{plus_zero, one}
use Rattle.algebra.specs.Fold.{fold}
use Rattle.algebra.specs.Kind.{floats}
use Rattle.algebra.specs.Product.{sum}
use Rattle.adjustment.specs.declared.Block.{Block}
use Rattle.adjustment.specs.declared.Place.{Place}
use Rattle.adjustment.specs.Information.{packed}

-- what stands past the last block: no effect, no group
abbrev pub no_block : Block
no_block = record { effects = 0; groups = 0 }

abbrev pub block_at : List Block → ℕ → Block
block_at blocks b = get_or blocks b no_block

-- k (k + 1) / 2, the places of a block's lower triangle
abbrev pub places : Block → ℕ
places b = b.effects * (b.effects + 1) / 2

-- the columns of Z, and the thetas, of the blocks before block b
unfoldable pub columns_before : List Block → ℕ → ℕ
columns_before blocks b = fold 0 b (λ i s. s + (block_at blocks i).groups * (block_at blocks i).effects) 0

unfoldable pub places_before : List Block → ℕ → ℕ
places_before blocks b = fold 0 b (λ i s. s + places (block_at blocks i)) 0

-- the block of parameter r: the last whose first parameter is not above r
unfoldable pub block_of : List Block → ℕ → ℕ → ℕ
block_of blocks count r = fold 0 count (λ b found. cond (leb (places_before blocks b) r) b found) 0

-- The places of a lower triangle of k effects, by columns: a column goes from its diagonal down, so that (i, c), c ≤ i, is place c·k − c(c+1)/2 + i, as the Qs are packed. Place q's
-- column is the last whose diagonal is not above q, and its row is as far below the diagonal as q is beyond it.
abbrev pub triangle_column : ℕ → ℕ → ℕ
triangle_column k q = fold 0 k (λ c found. cond (leb (packed k c c) q) c found) 0

abbrev pub triangle_row : ℕ → ℕ → ℕ
triangle_row k q = triangle_column k q + (q - packed k (triangle_column k q) (triangle_column k q))

unfoldable pub place_of : List Block → ℕ → ℕ → Place
place_of blocks count r =
    let b : ℕ = block_of blocks count r in
    let first : ℕ = places_before blocks b in
    record {
      start = columns_before blocks b;
      effects = (block_at blocks b).effects;
      groups = (block_at blocks b).groups;
      first = first;
      row = triangle_row (block_at blocks b).effects (r - first);
      column = triangle_column (block_at blocks b).effects (r - first);
    }

-- T_ic: the block's theta of that place; +0 above the diagonal
unfoldable pub theta_cell : List Float → Place → ℕ → ℕ → Float
theta_cell theta t i c = cond (leb c i) (get_or theta (t.first + packed t.effects c i) nan) plus_zero

-- the place's entry of TTᵀ
unfoldable pub factor_of : List Float → Place → Float
factor_of theta t = sum floats t.effects (λ c. mul binary64 (theta_cell theta t t.row c) (theta_cell theta t t.column c))

-- E: 1 at the place and at its mirror
unfoldable pub direction : Place → ℕ → ℕ → Float
direction t a b = cond ((eqb a t.row && eqb b t.column) || (eqb a t.column && eqb b t.row)) one plus_zero
