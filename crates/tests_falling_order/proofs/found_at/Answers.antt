-- `tests_falling_order::found_at` meets its contract.
use borrow.Author.Tests.{eq-eqb, ne_eqb}
use native.Mathlib.Omega.{arith}
use borrow.Author.Rules.{rules}
use Rattle.tests_falling_order.proofs.found_at.Goals as goal

pub returns-then-place_in-k : goal.returns-then-place_in-k
returns-then-place_in-k c = (rw (← c.place_in.ensures.0, eq-eqb _ _ c.if-place_in-k.true), omega arith)

pub returns-else-place_in-k : goal.returns-else-place_in-k
returns-else-place_in-k c = (rw (← c.place_in.ensures.0, ne_eqb _ _ c.if-place_in-k.false), omega arith)
