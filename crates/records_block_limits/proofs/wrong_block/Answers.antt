-- `records_block_limits::wrong_block` meets its contract.
use mathlib.Core.Path.{refl}
use Rattle.records_block_limits.specs.joints.Checks.{wrong_block}
use Rattle.records_block_limits.proofs.wrong_block.Reads as reads
use Rattle.records_block_limits.proofs.wrong_block.Lts as lts
use Rattle.records_block_limits.proofs.wrong_block.Goals as goal

pub returns : goal.returns
unfolding wrong_block
returns c = refl
