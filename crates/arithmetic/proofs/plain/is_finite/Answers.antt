-- `arithmetic::plain::is_finite` meets its contract.
use lib.Ieee.{of_bits, div, neg}
use Rattle.arithmetic.proofs.PlainLaws.{finite-test}
use Rattle.arithmetic.proofs.plain.is_finite.Goals as goal

pub returns : goal.returns
unfolding of_bits div neg
returns c = finite-test _
