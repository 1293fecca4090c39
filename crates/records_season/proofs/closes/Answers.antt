-- `records_season::closes` meets its contract.
use mathlib.Core.Path.{ap}
use mathlib.Core.Bool.{Bool, not, ◌&&◌}
use lib.Dec.{eqb}
use Rattle.records.specs.format.Bytes.{byte}
use Rattle.records.specs.text.Season.{closes}
use Rattle.records_season.proofs.closes.Goals as goal

pub returns : goal.returns
unfolding closes
returns c = ap (λ (b : Bool). eqb (byte c.args.bytes.now 0) 21 && not b) c.other_byte_set-set.ensures
