-- `arithmetic::plain::is_nan` meets its contract.
use Rattle.arithmetic.proofs.PlainLaws.{nan-test}
use Rattle.arithmetic.proofs.plain.is_nan.Goals as goal

pub returns : goal.returns
returns c = nan-test _
