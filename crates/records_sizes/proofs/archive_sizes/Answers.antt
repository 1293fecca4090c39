-- `records_sizes::archive_sizes` meets its contract.
use lib.Dec.{lit<}
use Rattle.records_sizes.proofs.SizeLaws.{row-cell}
use Rattle.records.specs.readers.Archive.{sizes_at, sizes}
use borrow.Author.Rules.{rules}
use Rattle.records_sizes.proofs.archive_sizes.Goals as goal

pub returns : goal.returns
unfolding sizes sizes_at
returns c =
    let r = row-cell _ _ _ _ c.rows_of-rows.ensures in
    let k = row-cell _ _ _ _ c.columns_of-columns.ensures in
    rw (c.at_least_one.ensures, c.at_least_one-2.ensures, c.larger-coefficients.ensures, c.larger-parameters.ensures, r 11 (lit< tt), k 11 (lit< tt), r 14 (lit< tt), k 14 (lit< tt))
