-- `records_archive_bytes::put_record` meets its contract.
use mathlib.Core.Path.{refl}
use Rattle.records_archive_bytes.proofs.StoredLaws.{record-stored}
use Rattle.records_archive_bytes.proofs.put_record.Goals as goal

pub returns : goal.returns
returns c =
    let g = c.args in
    record-stored g.out.now _ _ g.at g.kind g.row g.column g.count g.bits _ _ _ c.requires.3 refl refl refl c.put8.ensures c.put_long.ensures
