-- `records_arrived::judge_arrived` meets its contract.
use Prim.Native.Nat.{◌*◌}
use mathlib.Core.Path.{refl, sym, ◌∙◌}
use lib.Seq.{length-take-le}
use Rattle.arithmetic_cutoffs.specs.Cutoffs.{document_cutoffs}
use Rattle.tests.specs.Answer.{no_entry}
use Rattle.records.proofs.format.RefusalNumbers.{no-zero, number-passed}
use Rattle.records_arrived.proofs.ArrivedLaws.{none-passed, number-unkept, entries-unkept, arrived-kept}
use Rattle.records_arrived.proofs.judge_arrived.Goals as goal

pub returns-in_err-unkept_refusal : goal.returns-in_err-unkept_refusal
returns-in_err-unkept_refusal c =
    let a = c.args in
    let passed = c.from_residual.ensures.1 in
    let early = c.in_err-unkept_refusal.ensures in
    record { value = number-passed _ _ passed ∙ number-unkept document_cutoffs a.a a.kept.now _ early (no-zero _); answered = none-passed _ _ _ passed ∙ entries-unkept document_cutoffs a.a a.kept.now _ early no_entry refl (no-zero _) }

pub slice_bounds-judge_panel-end : goal.slice_bounds-judge_panel-end
slice_bounds-judge_panel-end c = sym (length-take-le (16 * c.args.a.records) c.args.kept.now c.requires)

pub returns-in_err-judged : goal.returns-in_err-judged
returns-in_err-judged c =
    let a = c.args in
    let passed = c.from_residual-in_err-judged.ensures.1 in
    let k = c.in_err-judged.ensures in
    let both = arrived-kept a.a a.kept.now _ c.in_ok-unkept_refusal.ensures c.document_cutoffs.ensures in
    record { value = number-passed _ _ passed ∙ k.told ∙ both.0; answered = none-passed _ _ _ passed ∙ k.listed ∙ both.1 }

pub returns : goal.returns
returns c =
    let a = c.args in
    let k = c.in_ok-judged.ensures in
    let both = arrived-kept a.a a.kept.now _ c.in_ok-unkept_refusal.ensures c.document_cutoffs.ensures in
    record { value = k.told ∙ both.0; answered = k.listed ∙ both.1 }
