-- `records_kinds::limits` meets its contract.
use mathlib.Core.Path.{refl}
use Rattle.records.specs.format.Kinds.{limits}
use Rattle.records_kinds.proofs.limits.Goals as goal

pub returns : goal.returns
unfolding limits
returns c = refl
