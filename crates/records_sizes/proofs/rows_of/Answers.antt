-- `records_sizes::rows_of` meets its contract.
use Rattle.std.proofs.Common.{rules}
use Rattle.records.specs.format.File.{row_of, rows}
use Rattle.records_sizes.proofs.rows_of.Goals as goal

pub returns : goal.returns
unfolding rows
returns c = c.tops_of.ensures (row_of c.args.s.now) (λ i x h. search rules)
