-- `records_archive_reader::in_units` meets its contract.
use Rattle.records_archive_reader.specs.joints.Checks.{in_units}
use Rattle.records_archive_reader.proofs.in_units.Goals as goal

pub returns-then-over : goal.returns-then-over
unfolding in_units
returns-then-over c = rw c.if-over.true

pub returns : goal.returns
unfolding in_units
returns c = rw c.if-over.false
