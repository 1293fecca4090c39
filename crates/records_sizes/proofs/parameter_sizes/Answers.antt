-- `records_sizes::parameter_sizes` meets its contract.
use lib.Dec.{lit<}
use Rattle.records_sizes.proofs.SizeLaws.{row-cell}
use Rattle.records.specs.readers.Parameters.{sizes}
use borrow.Author.Rules.{rules}
use Rattle.records_sizes.proofs.parameter_sizes.Goals as goal

pub returns : goal.returns
unfolding sizes
returns c =
    let r = row-cell _ _ _ _ c.rows_of-rows.ensures in
    let k = row-cell _ _ _ _ c.columns_of-columns.ensures in
    rw (c.at_least_one.ensures, c.at_least_one-2.ensures, c.at_least_one-3.ensures, c.larger-parameters.ensures, r 8 (lit< tt), r 9 (lit< tt), r 32 (lit< tt), k 32 (lit< tt), r 10 (lit< tt))
