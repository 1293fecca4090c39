-- `records_file::any_not_finite` meets its contract.
use Rattle.std.proofs.Common.{rules, tests, refl}
use Rattle.records.specs.format.File.{not_finite}
use Rattle.records.proofs.format.RangeScans.{any_in_range}
use Rattle.records_file.proofs.any_not_finite.Goals as goal

pub returns : goal.returns
returns c = any_in_range _ (not_finite c.args.s.now) c.any.ensures.ran refl (λ x b q k. search (rules, tests))
