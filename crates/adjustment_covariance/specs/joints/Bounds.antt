-- Not needed to check document 01: names that join the code to its definitions.
-- What the code asks of the blocks, and what it knows of a parameter's place.
use Rattle.std.specs.Prelude.{ℕ, ◌+◌, ◌*◌, ◌/◌, ◌≤◌, ◌<◌, List}
use Rattle.adjustment.specs.declared.Block.{Block}
use Rattle.adjustment.specs.declared.Place.{Place}
use Rattle.adjustment.specs.Blocks.{block_at, columns_before, places_before}

-- document 01: "blocks 0–3, each m ≥ 1 groups of k = 1 or 2 effects; block parameters at most 3 over all blocks". Of these the code asks for the upper limits alone, which its arrays of
-- three need: a block of no group or of no effect is no harm to it. The columns are such that a usize counts them.
pub record Sound (blocks : List Block) (count : ℕ) : Type 0 where
  pub few : count ≤ 3
  pub small : (b : ℕ) → b < count → (block_at blocks b).effects ≤ 2
  pub counted : columns_before blocks count ≤ 18446744073709551615
  pub thetas : places_before blocks count ≤ 3

-- the place's row and column lie in its block's triangle, the block's thetas among the three, and its columns in a Z of so many columns
pub record Placed (t : Place) (columns : ℕ) : Type 0 where
  pub small : t.effects ≤ 2
  pub high : t.row < t.effects
  pub wide : t.column < t.effects
  pub thetas : t.first + t.effects * (t.effects + 1) / 2 ≤ 3
  pub ends : t.start + t.groups * t.effects ≤ columns
