-- `pullseason::main` meets its contract.
use Rattle.std.specs.Prelude.{[]}
use native.Mathlib.Omega.{arith}
use Rattle.pullseason.proofs.main.Goals as goal

pub read_all-requires : goal.read_all-requires
read_all-requires c = (record { file = []; came = c.new-season.ensures }, omega arith)
