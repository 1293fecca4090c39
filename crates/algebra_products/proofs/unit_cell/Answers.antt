-- `algebra_products::unit_cell` meets its contract.
use lib.Ieee.{of_bits}
use borrow.Author.Tests.{eq-eqb, ne_eqb}
use Rattle.algebra_products.proofs.unit_cell.Goals as goal

pub returns-then-i-j : goal.returns-then-i-j
unfolding of_bits
returns-then-i-j g c = rw (c.of.ensures, eq-eqb _ _ c.if-i-j.true)

pub returns : goal.returns
unfolding of_bits
returns g c = rw (c.of-2.ensures, ne_eqb _ _ c.if-i-j.false)
