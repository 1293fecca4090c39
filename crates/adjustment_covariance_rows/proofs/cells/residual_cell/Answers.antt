-- `adjustment_covariance_rows::cells::residual_cell` meets its contract.
use lib.Ieee.{of_bits}
use borrow.Author.Tests.{eq-eqb, ne_eqb}
use Rattle.adjustment.specs.Covariance.{residual_cell}
use native.Mathlib.Omega.{arith}
use Rattle.adjustment_covariance_rows.proofs.cells.residual_cell.Goals as goal

pub returns-then-i-j : goal.returns-then-i-j
unfolding residual_cell of_bits
returns-then-i-j c = rw (ne_eqb _ _ c.if-i-j.true)

pub inverse_weight-requires : goal.inverse_weight-requires
inverse_weight-requires c = grind (arith, c.in-Some.is, c.requires)

pub returns-in-Some : goal.returns-in-Some
unfolding residual_cell of_bits
returns-in-Some c = rw (c.inverse_weight.ensures, eq-eqb _ _ c.if-i-j.false, c.in-Some.is)

pub returns-in-None : goal.returns-in-None
unfolding residual_cell of_bits
returns-in-None c = rw (eq-eqb _ _ c.if-i-j.false, c.in-None.is)
