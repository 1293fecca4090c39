-- `tests::number_of` meets its contract.
use Rattle.tests.specs.Answer.{number_of}
use Rattle.tests.proofs.number_of.Goals as goal

pub returns-then-is_nan : goal.returns-then-is_nan
unfolding number_of
returns-then-is_nan c = rw (← c.is_nan.ensures, c.if-is_nan.true)

pub returns-else-is_nan : goal.returns-else-is_nan
unfolding number_of
returns-else-is_nan c = rw (← c.is_nan.ensures, c.if-is_nan.false)
