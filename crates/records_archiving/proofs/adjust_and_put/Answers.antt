-- `records_archiving::adjust_and_put` meets its contract.
use mathlib.Core.Path.{◌≡◌, refl, sym, ap, ◌∙◌, subst}
use Rattle.adjustment.specs.declared.AdjustedPhi.{AdjustedPhi}
use Rattle.records.specs.readers.Series.{design}
use Rattle.records_sheet.specs.joints.Sheet.{Small}
use Rattle.records_refusals.specs.joints.Room.{SeriesRead, SeriesShort}
use Rattle.records_refusals.proofs.RoomLaws.{at-hand, accepted-small, can-shorten, kept_run, series-short}
use Rattle.adjustment_kr_vcov_adj.proofs.CallLaws.{accepted-yes, refusal-above}
use Rattle.records_archiving.proofs.ArchivingLaws.{adjustment-refuses, archives, told-passed}
use Rattle.records_archiving.proofs.adjust_and_put.Goals as goal

pub first_slots-firsts-requires : goal.first_slots-firsts-requires
first_slots-firsts-requires c =
    let a = c.args in
    let g = c.requires.series_read.0 in
    subst Small (sym c.series_sizes-z.ensures) (accepted-small a.limit g.some a.s.now g.taken g.most)

pub shorten-n-requires : goal.shorten-n-requires
shorten-n-requires c =
    let as_read : let a = c.args in SeriesRead a.limit a.s.now c.series_sizes-z.result c.first_slots-firsts.result a.sheet.now = let a = c.args in
    at-hand a.limit a.s.now _ _ a.sheet.now c.requires.series_read.0 c.series_sizes-z.ensures c.first_slots-firsts.ensures in
    can-shorten _ _ _ _ _ as_read

pub kenward_roger_modcomp_data-requires : goal.kenward_roger_modcomp_data-requires
kenward_roger_modcomp_data-requires c =
    let as_read : let a = c.args in SeriesRead a.limit a.s.now c.series_sizes-z.result c.first_slots-firsts.result a.sheet.now = let a = c.args in
    at-hand a.limit a.s.now _ _ a.sheet.now c.requires.series_read.0 c.series_sizes-z.ensures c.first_slots-firsts.ensures in
    let as_short : let a = c.args in SeriesShort a.limit a.s.now c.series_sizes-z.result c.first_slots-firsts.result c.shorten-n.new.sheet = series-short _ _ _ _ _ as_read _ c.shorten-n.ensures.sheet_after in
    let left-run : c.shorten-n.result ≡ (design c.args.s.now).n = kept_run _ _ _ _ _ as_read _ c.shorten-n.ensures.value.0 in
    let g = c.requires in (as_short, left-run, g.limit_in_bounds.0, g.limit_in_bounds.1)

pub returns-in_err-adjusted : goal.returns-in_err-adjusted
returns-in_err-adjusted c =
    let a = c.args in
    let early = c.in_err-adjusted.ensures.number in
    let passed = told-passed _ _ c.from_residual.ensures.1 in
    let all = adjustment-refuses a.limit a.c a.s.now a.archive.now c.requires.series_read.0.taken _ early (refusal-above _) in
    record { value = passed.0 ∙ all.0; told = passed.1 ∙ all.1; archive_after = all.2 }

pub put_series-requires : goal.put_series-requires
put_series-requires c =
    let as_read : let a = c.args in SeriesRead a.limit a.s.now c.series_sizes-z.result c.first_slots-firsts.result a.sheet.now = let a = c.args in
    at-hand a.limit a.s.now _ _ a.sheet.now c.requires.series_read.0 c.series_sizes-z.ensures c.first_slots-firsts.ensures in
    let as_short : let a = c.args in SeriesShort a.limit a.s.now c.series_sizes-z.result c.first_slots-firsts.result c.shorten-n.new.sheet = series-short _ _ _ _ _ as_read _ c.shorten-n.ensures.sheet_after in
    let q = c.in_ok-adjusted.ensures in
    record { series_short = (as_short, c.requires.series_read.1); phi_a_value = (ap (λ (t : AdjustedPhi). t.phi_a) q.value, q.ps ∙ accepted-yes _ _ _ refl, ap (λ (t : AdjustedPhi). t.w) q.value) }

pub returns : goal.returns
returns c =
    let a = c.args in
    let z = sym c.in_ok-adjusted.ensures.number in
    let q = c.put_series.ensures in
    let all = archives a.limit a.c a.s.now a.archive.now c.requires.series_read.0.taken _ _ z q.value q.archive_after in
    record { value = all.0; told = all.1; archive_after = all.2 }
