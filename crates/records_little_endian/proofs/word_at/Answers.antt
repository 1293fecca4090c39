-- `records_little_endian::word_at` meets its contract.
use Rattle.std.proofs.Common.{arith}
use Rattle.records.specs.format.Bytes.{word}
use Rattle.records_little_endian.proofs.word_at.Goals as goal

pub returns : goal.returns
unfolding word
returns c = (omega (arith, c.from.ensures, c.from_le_bytes.ensures), omega (arith, c.from.ensures))
