-- `pullseason::read_all` meets its contract.
use mathlib.Core.Path.{refl}
use Rattle.pullseason.proofs.read_all.Goals as goal

pub loop-piece-init : goal.loop-piece-init
loop-piece-init c = (refl, c.requires.0)
