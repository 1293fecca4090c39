use Rattle.std.proofs.Common.{◌≡◌}
use Rattle.algebra.specs.Table.{row}
use Rattle.adjustment.specs.Blocks.{no_block}
use Rattle.records.specs.readers.Series.{block_of}
use Rattle.records_series.proofs.Gathers.{Bounded}
use Rattle.records_series.proofs.blocks_of.Given as goal

abbrev pub invariant-loop-b : goal.invariant-loop-b
invariant-loop-b l = (l.blocks ≡ row no_block 3 l.b (block_of l.s)) × Bounded l.blocks
