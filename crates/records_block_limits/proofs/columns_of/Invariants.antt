use Rattle.std.proofs.Common.{◌≡◌, ◌≤◌, ◌*◌}
use Rattle.records_block_limits.specs.joints.Checks.{columns_in}
use Rattle.records_block_limits.proofs.columns_of.Given as goal

abbrev pub invariant-loop-block : goal.invariant-loop-block
invariant-loop-block l = (l.columns ≤ 1095216660225 * l.block-index) × (l.columns ≡ columns_in l.fn.blocks l.block-index)
