use Prim.Native.Nat.{◌+◌, ◌*◌, ◌/◌, ◌%◌}
use mathlib.Core.Path.{◌≡◌}
use lib.ListN.{length, take}
use Rattle.records_season.specs.joints.SeasonCame.{season_of, season_as, SeasonArrives, Fed, closed_room}
use Rattle.records_season.proofs.Season.feed.Given as goal

abbrev pub invariant-loop-b : goal.invariant-loop-b
invariant-loop-b l =
    (length l.out ≡ length l.initial.out) × SeasonArrives (season_of l.a l.self.kept l.self.current l.self.window) × (l.a.part ≡ (l.initial.self.arrival.part + l.b-index) % 16)
    × Fed (take l.b-index l.piece) (closed_room * ((l.initial.self.arrival.part + l.b-index) / 16)) (season_as l.initial.self) l.initial.out 0 (season_of l.a l.self.kept l.self.current l.self.window) l.out l.at
