-- `records_sizes::series_sizes` meets its contract.
use lib.Dec.{lit<}
use Rattle.records_sizes.proofs.SizeLaws.{row-cell}
use Rattle.records.specs.readers.Series.{sizes}
use borrow.Author.Rules.{rules}
use Rattle.records_sizes.proofs.series_sizes.Goals as goal

pub returns : goal.returns
unfolding sizes
returns c =
    let r = row-cell _ _ _ _ c.rows_of-rows.ensures in
    let k = row-cell _ _ _ _ c.columns_of-columns.ensures in
    rw (c.at_least_one.ensures, c.at_least_one-2.ensures, r 1 (lit< tt), k 1 (lit< tt), k 2 (lit< tt), r 3 (lit< tt), r 4 (lit< tt), r 9 (lit< tt), r 5 (lit< tt), r 10 (lit< tt))
