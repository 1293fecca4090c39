-- `records_archiving::archive_with` meets its contract.
use mathlib.Core.Path.{sym, ◌∙◌}
use Rattle.records.proofs.readers.CutoffLaws.{table-length}
use Rattle.records_archiving.proofs.ArchivingLaws.{other-lent, refused-table, own-call}
use Rattle.records_archiving.proofs.archive_with.Goals as goal

pub returns-then-archive-ne-ARCHIVE_LENGTH : goal.returns-then-archive-ne-ARCHIVE_LENGTH
returns-then-archive-ne-ARCHIVE_LENGTH c =
    let a = c.args in
    let all = other-lent a.table.now a.records.now a.archive.now c.if-archive-ne-ARCHIVE_LENGTH.true in
    record { value = all.0; told = all.1; archive_after = all.2 }

pub returns-then-bad_table : goal.returns-then-bad_table
returns-then-bad_table c =
    let a = c.args in
    let all = refused-table a.table.now a.records.now a.archive.now c.if-archive-ne-ARCHIVE_LENGTH.false (sym c.bad_table.ensures ∙ c.if-bad_table.true) in
    record { value = all.0; told = all.1; archive_after = all.2 }

pub cutoffs_in-requires : goal.cutoffs_in-requires
cutoffs_in-requires c = table-length c.args.table.now (sym c.bad_table.ensures ∙ c.if-bad_table.false)

pub returns : goal.returns
returns c =
    let a = c.args in
    let f = c.archive_panel.ensures in
    let table = sym c.bad_table.ensures ∙ c.if-bad_table.false in
    let all = own-call a.table.now a.records.now a.archive.now c.if-archive-ne-ARCHIVE_LENGTH.false table _ c.cutoffs_in.ensures _ _ _ f.value f.told f.archive_after in
    record { value = all.0; told = all.1; archive_after = all.2 }
