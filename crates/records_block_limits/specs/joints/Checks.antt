-- Not needed to check document 01: names that join the code to its definitions.
-- The refusals 3 and 7 as the code makes them, on an array of n blocks.
use Rattle.std.specs.Prelude.{ℕ, ◌*◌, Bool, not, ◌||◌, List, eqb, ltb}
use Rattle.adjustment.specs.declared.Block.{Block}
use Rattle.adjustment.specs.Blocks.{block_at, places}
use Rattle.records.specs.declared.Sizes.{Sizes}
use Rattle.records.specs.format.Scan.{any, total}

-- a block of other than 1 or 2 effects or without a group
unfoldable pub wrong_block : Block → Bool
wrong_block b = not (eqb b.effects 1 || eqb b.effects 2) || eqb b.groups 0

unfoldable pub parameters_in : List Block → ℕ → ℕ
parameters_in blocks n = total n (λ b. places (block_at blocks b))

unfoldable pub columns_in : List Block → ℕ → ℕ
columns_in blocks n = total n (λ b. (block_at blocks b).groups * (block_at blocks b).effects)

-- refusals 3, and 7
unfoldable pub bad_size_in : List Block → ℕ → Bool
bad_size_in blocks n = any n (λ b. wrong_block (block_at blocks b)) || ltb 3 (parameters_in blocks n)

unfoldable pub misfit_in : Sizes → List Block → Bool
misfit_in z blocks = not (eqb (columns_in blocks z.blocks) z.columns) || not (eqb z.thetas (parameters_in blocks z.blocks))
