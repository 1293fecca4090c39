-- `tests::both::is_positive` meets its contract.
use lib.Ieee.{of_bits}
use Rattle.tests.specs.Both.{is_positive}
use Rattle.tests.proofs.both.is_positive.Goals as goal

pub returns : goal.returns
unfolding is_positive of_bits
returns c = rw c.is_finite.ensures
