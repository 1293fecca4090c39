-- `tests_ddf::variance::gradient_seen` meets its contract.
use Rattle.tests.specs.VarianceDf.{gradient_seen}
use borrow.Author.Rules.{rules}
use Rattle.tests_ddf.proofs.variance.gradient_seen.Goals as goal

pub returns-then-is_positive : goal.returns-then-is_positive
unfolding gradient_seen
returns-then-is_positive c = rw (← c.is_positive.ensures, c.if-is_positive.true, ← c.relative_gradient-g.ensures) c.row_seen.ensures

pub returns : goal.returns
unfolding gradient_seen
returns c = rw (← c.is_positive.ensures, c.if-is_positive.false)
