use mathlib.Core.Path.{◌≡◌}
use lib.ListN.{length}
use Rattle.records_season.specs.joints.SeasonCame.{season_as, SeasonArrives}
use Rattle.pullseason.proofs.read_all.Given as goal

abbrev pub invariant-loop-piece : goal.invariant-loop-piece
invariant-loop-piece l = (length l.out ≡ length l.initial.out) × SeasonArrives (season_as l.season)
