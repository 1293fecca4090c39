use Rattle.std.proofs.Common.{◌≡◌, ◌≤◌, ◌*◌}
use Rattle.records_block_limits.specs.joints.Checks.{parameters_in}
use Rattle.records_block_limits.proofs.parameters_of.Given as goal

abbrev pub invariant-loop-block : goal.invariant-loop-block
invariant-loop-block l = (l.parameters ≤ 32640 * l.block-index) × (l.parameters ≡ parameters_in l.fn.blocks l.block-index)
