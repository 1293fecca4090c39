-- `records_sizes::second_sizes` meets its contract.
use lib.Dec.{lit<}
use Rattle.records_sizes.proofs.SizeLaws.{row-cell}
use Rattle.records.specs.readers.SecondFile.{sizes}
use borrow.Author.Rules.{rules}
use Rattle.records_sizes.proofs.second_sizes.Goals as goal

pub returns : goal.returns
unfolding sizes
returns c =
    let r = row-cell _ _ _ _ c.rows_of-rows.ensures in
    rw (c.at_least_one.ensures, r 8 (lit< tt), r 9 (lit< tt), r 10 (lit< tt))
