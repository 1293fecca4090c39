-- `adjustment_work::squares::clear_all` meets its contract.
use Rattle.adjustment_work.proofs.WorkLaws.{all-cleared}
use Rattle.adjustment_work.proofs.squares.clear_all.Goals as goal

pub returns : goal.returns
returns c = all-cleared c.args.work.now _ c.clear_row.ensures
