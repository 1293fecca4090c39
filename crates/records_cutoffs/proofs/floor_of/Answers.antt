-- `records_cutoffs::floor_of` meets its contract.
use lib.Ieee.{of_bits}
use borrow.Author.Tests.{eq-eqb, ne_eqb}
use Rattle.records.specs.readers.CutoffTable.{floor_of}
use Rattle.records_cutoffs.proofs.floor_of.Goals as goal

pub returns-then-i-eq8 : goal.returns-then-i-eq8
unfolding floor_of of_bits
returns-then-i-eq8 c = rw (eq-eqb c.args.i 8 c.if-i-eq8.true)

pub returns-else-i-eq8 : goal.returns-else-i-eq8
unfolding floor_of of_bits
returns-else-i-eq8 c = rw (ne_eqb c.args.i 8 c.if-i-eq8.false)
