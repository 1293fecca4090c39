-- `records_archiving::put_series` meets its contract.
use native.Mathlib.Omega.{arith}
use Prim.Native.Nat.{◌+◌, ◌≤◌}
use mathlib.Core.Path.{ap, ◌∙◌}
use lib.ListN.{length}
use lib.Seq.{sets}
use Rattle.records.specs.readers.Archive.{Archive, archive_bytes}
use Rattle.records_kenward_roger.proofs.Calls.{few-blocks, few-coefficients, start-within, sigma2-place, phi-ends, lent-sound, matrices-are, matrices-few, coefficients-read, phi-read, sigma2-read}
use Rattle.records_archiving.proofs.ArchivingLaws.{series-archive-is, archive-short}
use Rattle.records_refusals.specs.joints.Room.{SeriesShort}
use Rattle.records_archiving.proofs.put_series.Goals as goal

pub blocks_of-blocks-requires : goal.blocks_of-blocks-requires
blocks_of-blocks-requires c =
    let lent : SeriesShort c.args.limit c.args.s.now c.args.z c.args.firsts.now c.args.sheet.now = c.requires.series_short.0 in
    few-blocks _ _ _ _ _ lent

pub places_before-n-requires : goal.places_before-n-requires
places_before-n-requires c =
    let lent : SeriesShort c.args.limit c.args.s.now c.args.z c.args.firsts.now c.args.sheet.now = c.requires.series_short.0 in
    lent-sound _ _ _ _ _ lent _ c.blocks_of-blocks.ensures.0

pub overflow_add-n : goal.overflow_add-n
overflow_add-n c =
    let lent : SeriesShort c.args.limit c.args.s.now c.args.z c.args.firsts.now c.args.sheet.now = c.requires.series_short.0 in
    let h = matrices-few _ _ _ _ _ lent _ c.blocks_of-blocks.ensures.0 _ c.places_before-n.ensures in
    omega arith

pub cells_at-phi-requires : goal.cells_at-phi-requires
cells_at-phi-requires c =
    let lent : SeriesShort c.args.limit c.args.s.now c.args.z c.args.firsts.now c.args.sheet.now = c.requires.series_short.0 in
    let h = lent in let few = few-coefficients _ _ _ _ _ h in (few, few, phi-ends _ _ _ _ _ h)

pub offset_bounds-sheet-variance : goal.offset_bounds-sheet-variance
offset_bounds-sheet-variance c =
    let lent : SeriesShort c.args.limit c.args.s.now c.args.z c.args.firsts.now c.args.sheet.now = c.requires.series_short.0 in
    let x = start-within _ _ _ _ _ lent 7 (omega arith) in
    let y = x.1 in
    omega arith

pub bounds-sheet-variance : goal.bounds-sheet-variance
bounds-sheet-variance c =
    let lent : SeriesShort c.args.limit c.args.s.now c.args.z c.args.firsts.now c.args.sheet.now = c.requires.series_short.0 in
    sigma2-place _ _ _ _ _ lent

pub put_archive-requires : goal.put_archive-requires
put_archive-requires c =
    let lent : SeriesShort c.args.limit c.args.s.now c.args.z c.args.firsts.now c.args.sheet.now = c.requires.series_short.0 in
    let few-matrices : c.places_before-n.result + 1 ≤ 4 = matrices-few _ _ _ _ _ lent _ c.blocks_of-blocks.ensures.0 _ c.places_before-n.ensures in
    (few-coefficients _ _ _ _ _ lent, few-matrices, omega (arith, c.requires.series_short.1))

pub told-requires : goal.told-requires
told-requires c =
    let lent : SeriesShort c.args.limit c.args.s.now c.args.z c.args.firsts.now c.args.sheet.now = c.requires.series_short.0 in
    let few-matrices : c.places_before-n.result + 1 ≤ 4 = matrices-few _ _ _ _ _ lent _ c.blocks_of-blocks.ensures.0 _ c.places_before-n.ensures in
    archive-short _ _ _ _ _ _ _ _ (few-coefficients _ _ _ _ _ lent) few-matrices c.put_archive.ensures.value

pub returns : goal.returns
returns c =
    let lent : SeriesShort c.args.limit c.args.s.now c.args.z c.args.firsts.now c.args.sheet.now = c.requires.series_short.0 in
    let h = lent in
    let q = c.put_archive.ensures in
    let m = matrices-are _ _ _ _ _ h _ c.blocks_of-blocks.ensures.0 _ c.places_before-n.ensures in
    let f = c.cells_at-phi.ensures ∙ phi-read _ _ _ _ _ h in
    let v = sigma2-read _ _ _ _ _ h in
    let e = series-archive-is c.args.c c.args.s.now _ _ _ _ _ _ _ (coefficients-read _ _ _ _ _ h) m f c.requires.phi_a_value.0 c.requires.phi_a_value.1 c.requires.phi_a_value.2 v in
    record { value = c.told.ensures ∙ q.value ∙ ap (λ (x : Archive). length (archive_bytes x)) e; archive_after = q.out_after ∙ ap (λ (x : Archive). sets c.args.archive.now 0 (archive_bytes x)) e }
