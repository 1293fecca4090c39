-- The number of the test from an archive: the archive's reasons before the second file's, and these before the tests'; and its entries.
use Prim.Native.Nat.{ℕ}
use mathlib.Core.Path.{◌≡◌, refl, sym, ap, ◌∙◌}
use mathlib.Core.Bool.{true, false, cond}
use mathlib.Core.List.{List, ◌++◌}
use native.Mathlib.Omega.{arith}
use lib.Dec.{eqb}
use lib.ListN.{replicate}
use borrow.Author.Tests.{ne_eqb}
use Rattle.std.specs.Prelude.{Result, Ok, Err, IsErrAnd}
use Rattle.std.specs.Result.{result_unwrap_or}
use Rattle.arithmetic_cutoffs.specs.declared.Cutoffs.{Cutoffs}
use Rattle.algebra.specs.Reasons.{first}
use Rattle.algebra.proofs.ReasonLaws.{first-append}
use Rattle.tests.specs.declared.Entry.{Entry}
use Rattle.tests.specs.Answer.{no_entry}
use Rattle.records.specs.declared.refusal.Refusal.{Refusal}
use Rattle.records.specs.format.File.{length_reasons, form_reasons}
use Rattle.records.specs.format.Order.{order_reasons}
use Rattle.records.specs.readers.Archive as archive
use Rattle.records.specs.readers.SecondFile as second
use Rattle.records.specs.calls.ArchiveCall.{archive_run, archive_test_reasons, from_archive_reasons, from_archive_number, from_archive_entries}

module _ (c : Cutoffs) (s t : List ℕ) where
  -- the second file's number, for the archive's coefficients
  abbrev second_number : ℕ
  second_number = second.refusal (archive.coefficients s) t

  after-archive : first (second.reasons (archive.coefficients s) t ++ archive_test_reasons c s t) ≡ cond (eqb second_number 0) (cond (archive_run c s t).refused 10 0) second_number
  unfolding archive_test_reasons second.refusal second.reasons second.formed_for second.value_reasons length_reasons order_reasons form_reasons first
  after-archive = first-append (second.reasons (archive.coefficients s) t) (archive_test_reasons c s t) refl

  -- the number, from the archive's, the second file's and the run's
  archive-number-is : from_archive_number c s t ≡ cond (eqb (archive.refusal s) 0) (cond (eqb second_number 0) (cond (archive_run c s t).refused 10 0) second_number) (archive.refusal s)
  unfolding from_archive_number from_archive_reasons archive.refusal archive.reasons archive.value_reasons archive.scaled_reasons length_reasons order_reasons form_reasons
  archive-number-is =
      first-append (archive.reasons s) (second.reasons (archive.coefficients s) t ++ archive_test_reasons c s t) refl
      ∙ ap (λ (n : ℕ). cond (eqb (first (archive.reasons s)) 0) n (first (archive.reasons s))) after-archive

  -- a refused call has no entry in use
  none-in-use : (k : ℕ) → from_archive_number c s t ≡ k → (k ≡ 0 → ⊥) → from_archive_entries c s t ≡ replicate 7 no_entry
  unfolding from_archive_entries
  none-in-use k e h = rw (e, ne_eqb k 0 h)

  -- ---- the number and the entries, by who refuses: the archive's reader
  pub archive-refuses : (k : ℕ) → k ≡ archive.refusal s → (k ≡ 0 → ⊥) → (replicate 7 no_entry ≡ from_archive_entries c s t) × (k ≡ from_archive_number c s t)
  archive-refuses k q h =
      let x : from_archive_number c s t ≡ k = archive-number-is ∙ rw (← q, ne_eqb k 0 h) in
      (sym (none-in-use k x h), sym x)

  module _ (a : archive.refusal s ≡ 0) where
    -- the second file's, for p coefficients
    pub second-refuses : (k p : ℕ) → p ≡ archive.coefficients s → k ≡ second.refusal p t → (k ≡ 0 → ⊥) → (replicate 7 no_entry ≡ from_archive_entries c s t) × (k ≡ from_archive_number c s t)
    second-refuses k p ep q h =
        let f : k ≡ second_number = q ∙ ap (λ (m : ℕ). second.refusal m t) ep in
        let x : from_archive_number c s t ≡ k = archive-number-is ∙ rw (a, ← f, ne_eqb k 0 h) in
        (sym (none-in-use k x h), sym x)

    module _ (b : second_number ≡ 0) where
      -- a test
      pub tests-refuse : (archive_run c s t).refused ≡ true → (replicate 7 no_entry ≡ from_archive_entries c s t) × (10 ≡ from_archive_number c s t)
      tests-refuse r =
          let x : from_archive_number c s t ≡ 10 = archive-number-is ∙ rw (a, b, r) in
          (sym (none-in-use 10 x (omega arith)), sym x)

      -- nobody
      pub tests-answer : (es : List Entry) → (archive_run c s t).refused ≡ false → es ≡ (archive_run c s t).entries → (es ≡ from_archive_entries c s t) × (0 ≡ from_archive_number c s t)
      unfolding from_archive_entries
      tests-answer es r f =
          let x : from_archive_number c s t ≡ 0 = archive-number-is ∙ rw (a, b, r) in
          (f ∙ rw x, sym x)

-- what `?` passes on has no entry in use
pub passed-over : (r : Result (List Entry) Refusal) (e : Refusal) → IsErrAnd r (λ d. d ≡ e) → result_unwrap_or r (replicate 7 no_entry) ≡ replicate 7 no_entry
passed-over (Ok x) e h = absurd h
passed-over (Err d) e h = refl
