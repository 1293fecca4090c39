-- `adjustment_covariance::blocks::theta_cell` meets its contract.
use lib.Ieee.{of_bits}
use borrow.Author.Tests.{le-leb, lt-leb}
use Rattle.adjustment.specs.Blocks.{theta_cell}
use native.Mathlib.Omega.{arith}
use borrow.Author.Rules.{rules}
use Rattle.adjustment_covariance.proofs.blocks.theta_cell.Goals as goal

pub overflow_add-at : goal.overflow_add-at
overflow_add-at c = omega (arith, c.ordered_place.ensures.2, c.requires.1)

pub bounds-theta-at : goal.bounds-theta-at
bounds-theta-at c = omega (arith, c.ordered_place.ensures.2, c.requires.1)

pub returns-then-c-i : goal.returns-then-c-i
unfolding theta_cell
returns-then-c-i c = rw (le-leb _ _ c.if-c-i.true, ← c.ordered_place.ensures.0)

pub returns : goal.returns
unfolding theta_cell of_bits
returns c = rw (lt-leb _ _ c.if-c-i.false)
