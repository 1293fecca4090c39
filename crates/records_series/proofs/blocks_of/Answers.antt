-- `records_series::blocks_of` meets its contract.
use Prim.Native.Nat.{◌≤◌, ◌-◌}
use mathlib.Core.Path.{◌≡◌, ap}
use lib.ListN.{set, replicate}
use Rattle.algebra.specs.Table.{row}
use Rattle.algebra.proofs.FoldLaws.{fold_start, fold_next, fold_end}
use Rattle.adjustment.specs.Blocks.{no_block}
use Rattle.records.specs.readers.Series.{block_of}
use Rattle.records_series.proofs.Gathers.{set-bounded, Bounded, none-bounded}
use native.Mathlib.Omega.{arith}
use Rattle.records_series.proofs.blocks_of.Reads as reads
use Rattle.records_series.proofs.blocks_of.Lts as lts
use Rattle.records_series.proofs.block_of.Reads as block-of-reads
use Rattle.records_series.proofs.blocks_of.Goals as goal

pub loop-b-init : goal.loop-b-init
unfolding row
loop-b-init c = (fold_start 0 (λ k ys. set ys k (block_of c.args.s.now k)) (replicate 3 no_block), none-bounded)

pub block_of-requires : goal.block_of-requires
block_of-requires c = tt

pub loop-b-preserved : goal.loop-b-preserved
unfolding row
loop-b-preserved c = (fold_next 0 c.loop-b.b (λ k ys. set ys k (block_of c.args.s.now k)) (replicate 3 no_block) c.loop-b.blocks _ (omega arith) c.loop-b.invariant.0 (ap (set c.loop-b.blocks c.loop-b.b) c.block_of.ensures.0), set-bounded c.loop-b.blocks c.loop-b.b c.block_of.result (c.block_of.ensures.1, c.block_of.ensures.2) c.loop-b.invariant.1)

pub returns : goal.returns
unfolding row
returns c = (fold_end 0 c.loop-b.b c.args.n (λ k ys. set ys k (block_of c.args.s.now k)) (replicate 3 no_block) c.loop-b.blocks (omega arith) (omega arith) c.loop-b.invariant.0, c.loop-b.invariant.1)
