-- `adjustment_stacks::upper_cell` meets its contract.
use Rattle.adjustment_work.specs.joints.Steps.{upper_cell}
use borrow.Author.Tests.{le-leb, lt-leb}
use lib.Ieee.{of_bits}
use native.Mathlib.Omega.{arith}
use borrow.Author.Rules.{rules}
use Rattle.adjustment_stacks.proofs.upper_cell.Goals as goal

pub returns-then-r-t : goal.returns-then-r-t
unfolding upper_cell
returns-then-r-t c = rw (le-leb _ _ c.if-r-t.true) c.ie_at.ensures

pub returns : goal.returns
unfolding upper_cell of_bits
returns c = rw (lt-leb _ _ c.if-r-t.false)
