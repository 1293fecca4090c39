-- `adjustment_work::squares::clear_rest` meets its contract.
use Rattle.adjustment_work.proofs.WorkLaws.{rest-cleared}
use Rattle.adjustment_work.proofs.squares.clear_rest.Goals as goal

pub returns : goal.returns
returns c = rest-cleared _ _ c.args.work.now _ c.square_at-a.ensures.0 c.clear_row.ensures
