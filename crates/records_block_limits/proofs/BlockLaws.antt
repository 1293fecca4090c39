-- What the code reads off the array of blocks is what the file says.
use Prim.Native.Nat.{ℕ, ◌*◌, ◌≤◌}
use mathlib.Core.Path.{◌≡◌, ap, ap₂}
use mathlib.Core.Bool.{◌||◌}
use mathlib.Core.List.{List}
use lib.Dec.{ltb}
use Rattle.algebra.specs.Table.{row}
use Rattle.adjustment.specs.declared.Block.{Block}
use Rattle.adjustment.specs.Blocks.{no_block, block_at, places}
use Rattle.records.specs.format.Scan.{any, total}
use Rattle.records.specs.readers.Series.{block_count, block_of, sizes, bad_size, misfit}
use Rattle.records.proofs.format.ScanLaws.{any_same, total-same}
use Rattle.records_series.proofs.Accepted.{block_read}
use Rattle.records_block_limits.specs.joints.Checks.{wrong_block, parameters_in, columns_in, bad_size_in, misfit_in}

abbrev blocks_in : List ℕ → List Block
blocks_in s = row no_block 3 (block_count s) (block_of s)

module _ (s : List ℕ) (few : block_count s ≤ 3) where
  parameters-read : parameters_in (blocks_in s) (block_count s) ≡ total (block_count s) (λ b. places (block_of s b))
  unfolding parameters_in
  parameters-read = total-same (block_count s) (λ b. places (block_at (blocks_in s) b)) (λ b. places (block_of s b)) (λ b l. ap (λ (x : Block). places x) (block_read s few b l))

  columns-read : columns_in (blocks_in s) (block_count s) ≡ total (block_count s) (λ b. (block_of s b).groups * (block_of s b).effects)
  unfolding columns_in
  columns-read =
      total-same (block_count s) (λ b. (block_at (blocks_in s) b).groups * (block_at (blocks_in s) b).effects) (λ b. (block_of s b).groups * (block_of s b).effects)
      (λ b l. ap (λ (x : Block). x.groups * x.effects) (block_read s few b l))

  wrong-read : any (block_count s) (λ b. wrong_block (block_at (blocks_in s) b)) ≡ any (block_count s) (λ b. wrong_block (block_of s b))
  wrong-read = any_same (block_count s) (λ b. wrong_block (block_at (blocks_in s) b)) (λ b. wrong_block (block_of s b)) (λ b l. ap wrong_block (block_read s few b l))

  pub size-read : bad_size_in (row no_block 3 (block_count s) (block_of s)) (block_count s) ≡ bad_size s
  unfolding bad_size_in bad_size wrong_block
  size-read = ap₂ ◌||◌ wrong-read (ap (ltb 3) parameters-read)

  pub misfit-read : misfit_in (sizes s) (row no_block 3 (block_count s) (block_of s)) ≡ misfit s
  unfolding misfit_in misfit sizes
  misfit-read = rw (columns-read, parameters-read)
