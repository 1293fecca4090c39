-- `adjustment_covariance::blocks::later` meets its contract.
use borrow.Author.Tests.{le-leb, lt-leb}
use Rattle.adjustment_covariance.proofs.blocks.later.Goals as goal

pub returns-then-first-r : goal.returns-then-first-r
returns-then-first-r c = rw (le-leb _ _ c.if-first-r.true)

pub returns : goal.returns
returns c = rw (lt-leb _ _ c.if-first-r.false)
