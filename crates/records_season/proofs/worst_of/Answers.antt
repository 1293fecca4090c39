-- `records_season::worst_of` meets its contract.
use mathlib.Core.Path.{refl}
use native.Mathlib.Omega.{arith}
use Rattle.records.specs.text.Season.{worst_after}
use Rattle.records_season.proofs.WindowCode.{worst-more}
use Rattle.records_season.proofs.worst_of.Goals as goal

pub loop-f-init : goal.loop-f-init
unfolding worst_after
loop-f-init c = refl

pub loop-f-preserved : goal.loop-f-preserved
loop-f-preserved c =
    let more = c.loop-f-test.true in
    worst-more c.args.window.now c.loop-f.f-index _ c.loop-f.w _ (omega arith) c.loop-f.invariant c.worse-w.ensures
