-- `records_block_limits::columns_of` meets its contract.
use Rattle.std.proofs.Common.{ℕ, ◌+◌, ◌*◌, ◌<◌, ◌≤◌, refl, ap, arith, length-take}
use native.Mathlib.Nat.{mul-le-mul}
use lib.Seq.{get_or-take}
use Rattle.adjustment.specs.Blocks.{no_block, block_at}
use Rattle.records.specs.format.Scan.{total}
use Rattle.records.proofs.format.ScanLaws.{total-more}
use Rattle.records_block_limits.specs.joints.Checks.{columns_in}
use Rattle.records_block_limits.proofs.columns_of.Goals as goal

small : (m k : ℕ) → m ≤ 4294967295 → k ≤ 255 → m * k ≤ 1095216660225
small m k g h = mul-le-mul g h

pub loop-block-init : goal.loop-block-init
unfolding columns_in total
loop-block-init c = (omega arith, refl)

pub loop-block-preserved : goal.loop-block-preserved
unfolding columns_in
loop-block-preserved c =
    let blocks = c.args.blocks in
    let i = c.loop-block.block-index in
    let l : i < c.args.n = omega (arith, c.loop-block-test.true, length-take c.args.n blocks) in
    let p = c.requires.1 i in
    let h = small (block_at blocks i).groups (block_at blocks i).effects p.1 p.0 in
    let m = c.loop-block.invariant in
    rw (get_or-take c.args.n blocks i no_block l) (omega (arith, m.0, h), rw total-more (ap (λ (t : ℕ). t + (block_at blocks i).groups * (block_at blocks i).effects) m.1))
