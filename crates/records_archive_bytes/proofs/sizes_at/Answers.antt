-- `records_archive_bytes::sizes_at` meets its contract.
use mathlib.Core.Path.{refl}
use Rattle.records.specs.readers.Archive.{sizes_at}
use Rattle.records_archive_bytes.proofs.sizes_at.Goals as goal

pub returns : goal.returns
unfolding sizes_at
returns c = refl
