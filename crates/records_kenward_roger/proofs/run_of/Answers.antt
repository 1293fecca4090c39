-- `records_kenward_roger::run_of` meets its contract.
use mathlib.Core.Path.{◌≡◌, refl, sym, ap, ◌∙◌, subst}
use lib.ListN.{length}
use Rattle.adjustment.specs.declared.AdjustedPhi.{AdjustedPhi}
use Rattle.tests.specs.declared.Run.{Run}
use Rattle.tests_entries.proofs.AnswerLaws.{pivot-told, none-told, own-entries}
use Rattle.records.specs.readers.Series.{design}
use Rattle.records_sheet.specs.joints.Sheet.{Small}
use Rattle.records_torn.proofs.ShortSheet.{length-short}
use Rattle.records_refusals.specs.joints.Room.{SeriesRead, SeriesShort}
use Rattle.records_refusals.proofs.RoomLaws.{at-hand, accepted-small, can-shorten, kept_run, series-short}
use Rattle.adjustment_kr_vcov_adj.proofs.CallLaws.{accepted-yes}
use Rattle.records.proofs.format.RefusalNumbers.{no-zero}
use Rattle.records_kenward_roger.proofs.Numbers.{late-number, judged-refused, judged-pivot, judged-run}
use Rattle.records_kenward_roger.proofs.run_of.Goals as goal

pub first_slots-firsts-requires : goal.first_slots-firsts-requires
first_slots-firsts-requires c =
    let a = c.args in
    let g = c.requires.0 in
    subst Small (sym c.series_sizes-z.ensures) (accepted-small a.limit g.some a.s.now g.taken g.most)

pub shorten-n-requires : goal.shorten-n-requires
shorten-n-requires c =
    let as_read : let a = c.args in SeriesRead a.limit a.s.now c.series_sizes-z.result c.first_slots-firsts.result a.sheet.now = let a = c.args in
    at-hand a.limit a.s.now _ _ a.sheet.now c.requires.0 c.series_sizes-z.ensures c.first_slots-firsts.ensures in
    can-shorten _ _ _ _ _ as_read

pub kenward_roger_modcomp_data-requires : goal.kenward_roger_modcomp_data-requires
kenward_roger_modcomp_data-requires c =
    let as_read : let a = c.args in SeriesRead a.limit a.s.now c.series_sizes-z.result c.first_slots-firsts.result a.sheet.now = let a = c.args in
    at-hand a.limit a.s.now _ _ a.sheet.now c.requires.0 c.series_sizes-z.ensures c.first_slots-firsts.ensures in
    let as_short : let a = c.args in SeriesShort a.limit a.s.now c.series_sizes-z.result c.first_slots-firsts.result c.shorten-n.new.sheet = series-short _ _ _ _ _ as_read _ c.shorten-n.ensures.sheet_after in
    let left-run : c.shorten-n.result ≡ (design c.args.s.now).n = kept_run _ _ _ _ _ as_read _ c.shorten-n.ensures.value.0 in
    let g = c.requires in (as_short, left-run, g.1, g.2)

pub tests_of-run-requires : goal.tests_of-run-requires
tests_of-run-requires c =
    let as_read : let a = c.args in SeriesRead a.limit a.s.now c.series_sizes-z.result c.first_slots-firsts.result a.sheet.now = let a = c.args in
    at-hand a.limit a.s.now _ _ a.sheet.now c.requires.0 c.series_sizes-z.ensures c.first_slots-firsts.ensures in
    let as_short : let a = c.args in SeriesShort a.limit a.s.now c.series_sizes-z.result c.first_slots-firsts.result c.shorten-n.new.sheet = series-short _ _ _ _ _ as_read _ c.shorten-n.ensures.sheet_after in
    let q = c.in_ok-adjusted.ensures in
    record { series_short = as_short; phi_a_value = (ap (λ (t : AdjustedPhi). t.phi_a) q.value, q.ps ∙ accepted-yes _ _ _ refl, ap (λ (t : AdjustedPhi). t.w) q.value) }

pub shape_of-sheet : goal.shape_of-sheet
shape_of-sheet c = ap length c.shorten-n.ensures.sheet_after ∙ length-short _ _

pub returns-in_err-adjusted : goal.returns-in_err-adjusted
returns-in_err-adjusted c =
    let a = c.args in
    let n = c.in_err-adjusted.ensures.number in
    judged-refused a.limit a.c a.s.now _ _ c.from_residual.ensures.1 (λ e q. late-number a.limit a.c a.s.now c.requires.0.taken _ (q ∙ n) (no-zero e))

pub returns-in_default : goal.returns-in_default
returns-in_default c =
    let a = c.args in
    judged-pivot a.limit a.c a.s.now c.requires.0.taken (sym c.in_ok-adjusted.ensures.number) _ (ap (λ (r : Run). r.refused) c.tests_of-run.ensures) (pivot-told _ c.in_default.ensures.told)

pub returns : goal.returns
returns c =
    let as_read : let a = c.args in SeriesRead a.limit a.s.now c.series_sizes-z.result c.first_slots-firsts.result a.sheet.now = let a = c.args in
    at-hand a.limit a.s.now _ _ a.sheet.now c.requires.0 c.series_sizes-z.ensures c.first_slots-firsts.ensures in
    let left-run : c.shorten-n.result ≡ (design c.args.s.now).n = kept_run _ _ _ _ _ as_read _ c.shorten-n.ensures.value.0 in
    let t = c.tests_of-run.ensures in
    let a = c.args in
    let d = c.in_ok-adjusted.ensures in
    let e = c.in-Some.ensures in
    judged-run a.limit a.c a.s.now c.requires.0.taken (sym d.number) _ (ap (λ (r : Run). r.refused) t) (none-told _ e.told) _ (own-entries _ _ _ e.told e.value ∙ ap (λ (r : Run). r.entries) t) (ap (λ (p : AdjustedPhi). p.rotations) d.value) left-run
