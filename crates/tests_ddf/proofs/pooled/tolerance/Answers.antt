-- `tests_ddf::pooled::tolerance` meets its contract.
use mathlib.Core.Path.{refl}
use lib.Ieee.{of_bits}
use Rattle.tests.specs.PooledDf.{tolerance}
use lib.Ieee.{round}
use Rattle.arithmetic_cutoffs.specs.Cutoffs.{decimal}
use Rattle.tests_ddf.proofs.pooled.tolerance.Goals as goal

pub returns : goal.returns
unfolding tolerance decimal round of_bits
returns c = refl
