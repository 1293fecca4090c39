-- `arithmetic::plain::is_larger` meets its contract.
use Rattle.arithmetic.specs.Numbers.{is_larger}
use Rattle.arithmetic.proofs.plain.is_larger.Goals as goal

pub returns : goal.returns
unfolding is_larger
returns c = cc
