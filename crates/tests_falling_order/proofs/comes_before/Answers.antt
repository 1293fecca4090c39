-- `tests_falling_order::comes_before` meets its contract.
use mathlib.Core.Path.{refl}
use Rattle.tests.specs.Order.{comes_before}
use borrow.Author.Rules.{rules}
use Rattle.tests_falling_order.proofs.comes_before.Goals as goal

pub returns : goal.returns
unfolding comes_before
returns c = refl
