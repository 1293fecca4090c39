-- `tests_moments::weight` meets its contract.
use lib.Ieee.{of_bits}
use borrow.Author.Tests.{eq-eqb, ne_eqb}
use Rattle.tests.specs.Moments.{weight}
use borrow.Author.Rules.{rules}
use Rattle.tests_moments.proofs.weight.Goals as goal

pub returns-then-i-j : goal.returns-then-i-j
unfolding weight of_bits
returns-then-i-j c = rw (eq-eqb _ _ c.if-i-j.true)

pub returns : goal.returns
unfolding weight of_bits
returns c = rw (ne_eqb _ _ c.if-i-j.false)
