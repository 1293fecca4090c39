-- `records_archiving::archive_series` meets its contract.
use mathlib.Core.Path.{◌∙◌}
use Rattle.records.proofs.format.RefusalNumbers.{no-zero}
use Rattle.records_archiving.proofs.ArchivingLaws.{reader-refuses, told-same}
use Rattle.records_archiving.proofs.archive_series.Goals as goal

pub returns-in_err-refusal : goal.returns-in_err-refusal
returns-in_err-refusal c =
    let a = c.args in
    let passed = told-same _ _ c.from_residual.ensures.1 in
    let all = reader-refuses a.limit a.c a.s.now a.archive.now _ c.in_err-refusal.ensures.value (no-zero _) in
    record { value = passed.0 ∙ all.0; told = passed.1 ∙ all.1; archive_after = all.2 }
