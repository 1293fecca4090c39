-- `pullseason::next_piece` meets its contract.
use Rattle.records_season.proofs.FedLaws.{fed-arrives}
use Rattle.pullseason.proofs.next_piece.Goals as goal

pub returns : goal.returns
returns c = fed-arrives c.feed-written.ensures.fed c.requires.0
