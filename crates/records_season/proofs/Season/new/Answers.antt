-- `records_season::Season::new` meets its contract.
use mathlib.Core.Path.{refl}
use Rattle.records_season.proofs.FedLaws.{start-came}
use Rattle.records_season.proofs.Season.new.Goals as goal

pub returns : goal.returns
returns c = start-came _ _ _ c.nothing_yet.ensures refl refl
