-- `records_archive_test::judge` meets its contract.
use Prim.Native.Nat.{ℕ}
use mathlib.Core.Path.{◌≡◌, refl, sym, ap, ◌∙◌}
use lib.Ieee.{of_bits}
use Rattle.tests.specs.declared.Run.{Run}
use Rattle.tests_entries.proofs.AnswerLaws.{pivot-told, none-told, own-entries}
use Rattle.records.specs.readers.Archive as archive
use Rattle.records.specs.readers.SecondFile as second
use Rattle.records.proofs.format.RefusalNumbers.{no-zero, number-passed}
use Rattle.records_archive_test.proofs.TestLaws.{archive-sheet, tests-sheet, archive-taken, second-taken, archive-p}
use Rattle.records_archive_test.proofs.NumberLaws.{archive-refuses, second-refuses, tests-refuse, tests-answer, passed-over}
use Rattle.records_archive_test.proofs.judge.Goals as goal

pub refusal-requires : goal.refusal-requires
unfolding of_bits
refusal-requires c = record { flags_value = (refl, archive-sheet); sheet_value = (refl, archive-sheet) }

pub returns-in_err-refusal : goal.returns-in_err-refusal
returns-in_err-refusal c =
    let a = c.args in
    let passed = c.from_residual.ensures.1 in
    let both = archive-refuses a.c a.s.now a.t.now _ c.in_err-refusal.ensures.value (no-zero _) in
    record { value = number-passed _ _ passed ∙ both.1; answered = passed-over _ _ passed ∙ both.0 }

pub refusal-requires-2 : goal.refusal-requires-2
unfolding of_bits
refusal-requires-2 c = record { flags_value = (refl, tests-sheet); sheet_value = (refl, tests-sheet) }

pub returns-in_err-refusal-2 : goal.returns-in_err-refusal-2
returns-in_err-refusal-2 c =
    let a = c.args in
    let passed = c.from_residual-in_err-refusal-2.ensures.1 in
    let both = second-refuses a.c a.s.now a.t.now (sym c.in_ok-refusal.ensures.value) _ _ (archive-p a.s.now _ c.archive_sizes-z.ensures) c.in_err-refusal-2.ensures.value (no-zero _) in
    record { value = number-passed _ _ passed ∙ both.1; answered = passed-over _ _ passed ∙ both.0 }

pub tests_from-run-requires : goal.tests_from-run-requires
tests_from-run-requires c =
    let archive-accepted : archive.refusal c.args.s.now ≡ 0 = sym c.in_ok-refusal.ensures.value in
    let second-accepted : second.refusal (archive.coefficients c.args.s.now) c.args.t.now ≡ 0 = let a = c.args in
    ap (λ (p : ℕ). second.refusal p a.t.now) (sym (archive-p a.s.now _ c.archive_sizes-z.ensures)) ∙ sym c.in_ok-refusal-2.ensures.value in
    let a = c.args in
    (archive-taken a.s.now 512 _ archive-sheet archive-accepted c.in_ok-refusal.ensures.sheet_after, second-taken (archive.coefficients a.s.now) a.t.now 64 _ tests-sheet second-accepted c.in_ok-refusal-2.ensures.sheet_after)

pub returns-in_default : goal.returns-in_default
returns-in_default c =
    let a = c.args in
    let archive-accepted : archive.refusal a.s.now ≡ 0 = sym c.in_ok-refusal.ensures.value in
    let second-accepted : second.refusal (archive.coefficients a.s.now) a.t.now ≡ 0 = ap (λ (p : ℕ). second.refusal p a.t.now) (sym (archive-p a.s.now _ c.archive_sizes-z.ensures)) ∙ sym c.in_ok-refusal-2.ensures.value in
    let both = tests-refuse a.c a.s.now a.t.now archive-accepted second-accepted (sym (ap (λ (r : Run). r.refused) c.tests_from-run.ensures) ∙ pivot-told _ c.in_default.ensures.told) in
    record { value = both.1; answered = both.0 }

pub returns : goal.returns
returns c =
    let a = c.args in
    let archive-accepted : archive.refusal a.s.now ≡ 0 = sym c.in_ok-refusal.ensures.value in
    let second-accepted : second.refusal (archive.coefficients a.s.now) a.t.now ≡ 0 = ap (λ (p : ℕ). second.refusal p a.t.now) (sym (archive-p a.s.now _ c.archive_sizes-z.ensures)) ∙ sym c.in_ok-refusal-2.ensures.value in
    let e = c.tests_from-run.ensures in
    let t = c.in-Some.ensures in
    let both = tests-answer a.c a.s.now a.t.now archive-accepted second-accepted _ (sym (ap (λ (r : Run). r.refused) e) ∙ none-told _ t.told) (own-entries _ _ _ t.told t.value ∙ ap (λ (r : Run). r.entries) e) in
    record { value = both.1; answered = both.0 }
