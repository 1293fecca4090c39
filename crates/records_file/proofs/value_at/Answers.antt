-- `records_file::value_at` meets its contract.
use Rattle.records_file.proofs.value_at.Goals as goal

pub returns : goal.returns
returns c = cc
