-- `records_file::not_finite` meets its contract.
use Rattle.records.specs.format.File.{not_finite}
use Rattle.records_file.proofs.not_finite.Goals as goal

pub returns : goal.returns
unfolding not_finite
returns c = cc
