-- `records_archiving::archive` meets its contract.
use mathlib.Core.Path.{sym, ◌∙◌}
use Rattle.records.specs.readers.CutoffTable.{built_in_table}
use Rattle.records.proofs.readers.CutoffLaws.{built-in-accepted, built-in-numbers}
use Rattle.records_archiving.proofs.ArchivingLaws.{other-lent, own-call}
use Rattle.records_archiving.proofs.archive.Goals as goal

pub returns-then-lent-ne-ARCHIVE_LENGTH : goal.returns-then-lent-ne-ARCHIVE_LENGTH
returns-then-lent-ne-ARCHIVE_LENGTH c =
    let a = c.args in
    let all = other-lent built_in_table a.records.now a.archive.now c.if-lent-ne-ARCHIVE_LENGTH.true in
    record { value = all.0; told = all.1; archive_after = all.2 }

pub returns : goal.returns
returns c =
    let a = c.args in
    let f = c.archive_panel.ensures in
    let cutoffs = c.document_cutoffs.ensures ∙ sym built-in-numbers in
    let all = own-call built_in_table a.records.now a.archive.now c.if-lent-ne-ARCHIVE_LENGTH.false built-in-accepted _ cutoffs _ _ _ f.value f.told f.archive_after in
    record { value = all.0; told = all.1; archive_after = all.2 }
