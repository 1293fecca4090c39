-- `records_sizes::columns_of` meets its contract.
use Rattle.std.proofs.Common.{rules}
use Rattle.records.specs.format.File.{column_of, columns}
use Rattle.records_sizes.proofs.columns_of.Goals as goal

pub returns : goal.returns
unfolding columns
returns c = c.tops_of.ensures (column_of c.args.s.now) (λ i x h. search rules)
