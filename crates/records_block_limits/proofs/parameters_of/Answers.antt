-- `records_block_limits::parameters_of` meets its contract.
use Rattle.std.proofs.Common.{ℕ, ◌+◌, ◌<◌, refl, ap, arith, length-take}
use lib.Seq.{get_or-take}
use Rattle.adjustment.specs.Blocks.{no_block, block_at, places}
use Rattle.records.specs.format.Scan.{total}
use Rattle.records.proofs.format.ScanLaws.{total-more}
use Rattle.records.proofs.promises.CountLaws.{twice-small}
use Rattle.records_block_limits.specs.joints.Checks.{parameters_in}
use Rattle.records_block_limits.proofs.parameters_of.Goals as goal

pub loop-block-init : goal.loop-block-init
unfolding parameters_in total
loop-block-init c = (omega arith, refl)

pub loop-block-preserved : goal.loop-block-preserved
unfolding parameters_in
loop-block-preserved c =
    let blocks = c.args.blocks in
    let i = c.loop-block.block-index in
    let l : i < c.args.n = omega (arith, c.loop-block-test.true, length-take c.args.n blocks) in
    let h = twice-small (block_at blocks i).effects (c.requires.1 i).0 in
    let m = c.loop-block.invariant in
    rw (get_or-take c.args.n blocks i no_block l) (omega (arith, m.0, h), rw total-more (ap (λ (t : ℕ). t + places (block_at blocks i)) m.1))
