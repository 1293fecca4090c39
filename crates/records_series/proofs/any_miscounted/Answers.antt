-- `records_series::any_miscounted` meets its contract.
use Rattle.std.proofs.Common.{rules, tests, refl}
use Rattle.records.specs.readers.Series.{miscounted}
use Rattle.records.proofs.format.RangeScans.{any_in_range}
use Rattle.records_series.proofs.any_miscounted.Goals as goal

pub returns : goal.returns
returns c = any_in_range _ (miscounted c.args.s.now) c.any.ensures.ran refl (λ x b q k. search (rules, tests))
