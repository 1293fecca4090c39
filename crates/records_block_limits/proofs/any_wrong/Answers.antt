-- `records_block_limits::any_wrong` meets its contract.
use Rattle.std.proofs.Common.{rules, tests, refl, arith, ap, take, length-take}
use lib.Seq.{get_or-take}
use Rattle.std.proofs.lemmas.List.{places}
use Rattle.adjustment.specs.Blocks.{no_block, block_at}
use Rattle.records.proofs.format.RangeScans.{any_in_items}
use Rattle.records_block_limits.specs.joints.Checks.{wrong_block}
use Rattle.records_block_limits.proofs.any_wrong.Goals as goal

pub returns : goal.returns
returns c =
    let n = c.args.n in
    let blocks = c.args.blocks in
    any_in_items n (λ b. wrong_block (block_at blocks b)) (take n blocks) no_block wrong_block c.any.ensures.ran (search rules) (search (rules, places)) (λ i l. ap wrong_block (get_or-take n blocks i no_block l)) (λ x b h k. search (rules, tests))
