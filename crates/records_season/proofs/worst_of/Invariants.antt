-- `records_season::worst_of`: after some turns, the worst of as many.
use mathlib.Core.Path.{◌≡◌}
use lib.ListN.{take}
use Rattle.records.specs.text.Season.{worst}
use Rattle.records_season.proofs.worst_of.Given as goal

abbrev pub invariant-loop-f : goal.invariant-loop-f
invariant-loop-f l = l.w ≡ worst (take l.f-index l.window)
