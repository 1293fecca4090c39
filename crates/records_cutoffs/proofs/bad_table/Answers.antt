-- `records_cutoffs::bad_table` meets its contract.
use Rattle.std.proofs.Common.{rules, tests, refl, length}
use borrow.Author.Tests.{ne_eqb}
use Rattle.records.specs.readers.CutoffTable.{bad_cutoff, bad_table}
use Rattle.records.proofs.format.RangeScans.{any_in_range}
use Rattle.records_cutoffs.proofs.bad_table.Goals as goal

pub returns-then-table-ne144 : goal.returns-then-table-ne144
unfolding bad_table
returns-then-table-ne144 c = rw (ne_eqb (length c.args.table.now) 144 c.if-table-ne144.true)

pub returns-else-table-ne144 : goal.returns-else-table-ne144
unfolding bad_table
returns-else-table-ne144 c = rw c.if-table-ne144.false (any_in_range 9 (bad_cutoff c.args.table.now) c.any.ensures.ran refl (λ x b q k. search (rules, tests)))
