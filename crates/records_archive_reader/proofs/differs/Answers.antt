-- `records_archive_reader::differs` meets its contract.
use Rattle.records_archive_reader.specs.joints.Checks.{differs}
use Rattle.records_archive_reader.proofs.differs.Goals as goal

pub returns : goal.returns
unfolding differs
returns c = rw (c.to_bits.ensures, c.to_bits-2.ensures)
