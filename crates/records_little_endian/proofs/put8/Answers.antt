-- `records_little_endian::put8` meets its contract.
use Rattle.std.proofs.Common.{arith}
use Rattle.records_little_endian.proofs.StoreLaws.{put_run}
use Rattle.records_little_endian.proofs.put8.Goals as goal

pub returns : goal.returns
returns c = put_run _ _ _ _ _ c.copy_from_slice.ensures.after (omega arith) (omega (arith, c.requires))
