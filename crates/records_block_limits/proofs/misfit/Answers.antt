-- `records_block_limits::misfit` meets its contract.
use borrow.Author.Tests.{eq-eqb, ne_eqb}
use Rattle.records_block_limits.specs.joints.Checks.{misfit_in}
use Rattle.records_block_limits.proofs.misfit.Reads as reads
use Rattle.records_block_limits.proofs.misfit.Lts as lts
use Rattle.records_block_limits.proofs.columns_of.Reads as columns-of-reads
use Rattle.records_block_limits.proofs.parameters_of.Reads as parameters-of-reads
use Rattle.records_block_limits.proofs.misfit.Goals as goal

pub columns_of-columns-requires : goal.columns_of-columns-requires
columns_of-columns-requires c = (c.requires.0, c.requires.1)

pub returns-then-columns-z : goal.returns-then-columns-z
unfolding misfit_in
returns-then-columns-z c = rw (← c.columns_of-columns.ensures, ne_eqb _ _ c.if-columns-z.true)

pub parameters_of-parameters-requires : goal.parameters_of-parameters-requires
parameters_of-parameters-requires c = (c.requires.0, c.requires.1)

pub returns : goal.returns
unfolding misfit_in
returns c = rw (← c.columns_of-columns.ensures, eq-eqb _ _ c.if-columns-z.false, ← c.parameters_of-parameters.ensures)
