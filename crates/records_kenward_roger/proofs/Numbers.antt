-- The number of a call: the first reason that holds, the reader's before those that come after it.
use Prim.Native.Nat.{ℕ}
use mathlib.Core.Path.{◌≡◌, refl, sym, ap, ◌∙◌}
use mathlib.Core.Bool.{Bool, true, false}
use mathlib.Core.List.{List}
use lib.ListN.{replicate}
use borrow.Author.Tests.{eq-eqb, ne_eqb}
use Rattle.std.specs.Prelude.{Result, Ok, Err, IsErrAnd}
use Rattle.arithmetic_cutoffs.specs.declared.Cutoffs.{Cutoffs}
use Rattle.tests.specs.declared.Entry.{Entry}
use Rattle.tests.specs.Answer.{no_entry}
use Rattle.records.specs.readers.Series.{refusal, design}
use Rattle.records.specs.calls.KenwardRogerCall.{adjusted, run, number, entries, rotations, specimens_run}
use Rattle.records.proofs.calls.CallLaws.{file_adjustment_refusal, number_is}
use Rattle.records.specs.declared.refusal.Refusal.{Refusal}
use Rattle.records.specs.declared.refusal.Refusal.TheVariants.{ZeroPivot}
use Rattle.records.specs.format.RefusalNumbers.{refusal_number}
use Rattle.records.proofs.format.RefusalNumbers.{no-zero}
use Rattle.records_kenward_roger.specs.declared.JudgedSeries.{JudgedSeries}
use Rattle.records_kenward_roger.specs.joints.Left.{Judges}

-- ---- the number and the entries, by who refuses
module _ (w : ℕ) (c : Cutoffs) (s : List ℕ) where
  -- the reader
  pub early-number : (k : ℕ) → k ≡ refusal w s → (k ≡ 0 → ⊥) → k ≡ number w c s
  early-number k e h = e ∙ sym (number_is c s w ∙ rw (ne_eqb (refusal w s) 0 (λ q. h (e ∙ q))))

  module _ (r : refusal w s ≡ 0) where
    -- the adjustment
    pub late-number : (k : ℕ) → k ≡ file_adjustment_refusal c s → (k ≡ 0 → ⊥) → k ≡ number w c s
    late-number k e h = e ∙ sym (number_is c s w ∙ rw (r, ne_eqb (file_adjustment_refusal c s) 0 (λ q. h (e ∙ q))))

    module _ (a : file_adjustment_refusal c s ≡ 0) where
      -- a test
      pub pivot-number : (b : Bool) → b ≡ (run c s).refused → b ≡ true → 10 ≡ number w c s
      pivot-number b e h = sym (number_is c s w ∙ rw (r, a, ← e, h))

      -- nobody
      pub no_number : (b : Bool) → b ≡ (run c s).refused → b ≡ false → 0 ≡ number w c s
      no_number b e h = sym (number_is c s w ∙ rw (r, a, ← e, h))

  -- a refused file has no entry in use
  pub no-entries : (e : Entry) → e ≡ no_entry → (k : ℕ) → k ≡ number w c s → (k ≡ 0 → ⊥) → replicate 7 e ≡ entries w c s
  unfolding entries
  no-entries e q k f h = rw (q, ne_eqb (number w c s) 0 (λ z. h (f ∙ z)))

  -- nor a rotation, nor a specimen of a run
  no-rotations : (k : ℕ) → k ≡ number w c s → (k ≡ 0 → ⊥) → 0 ≡ rotations w c s
  unfolding rotations
  no-rotations k f h = rw (ne_eqb (number w c s) 0 (λ z. h (f ∙ z)))

  no-specimens : (k : ℕ) → k ≡ number w c s → (k ≡ 0 → ⊥) → 0 ≡ specimens_run w c s
  unfolding specimens_run
  no-specimens k f h = rw (ne_eqb (number w c s) 0 (λ z. h (f ∙ z)))

  -- so it is judged by what refuses it
  pub judged-refused : (r : Result JudgedSeries Refusal) (P : Refusal → Type 0) → IsErrAnd r P → ((e : Refusal) → P e → refusal_number e ≡ number w c s) → Judges w c s r
  judged-refused (Ok j) P p f = absurd p
  judged-refused (Err e) P p f =
      let n = f e p in
      record { listed = no-entries no_entry refl _ n (no-zero e); told = n; made = no-rotations _ n (no-zero e); pulled = no-specimens _ n (no-zero e) }

  pub run-entries : (es : List Entry) → es ≡ (run c s).entries → 0 ≡ number w c s → es ≡ entries w c s
  unfolding entries
  run-entries es e z = e ∙ rw (eq-eqb (number w c s) 0 (sym z))

  -- an accepted file's rotations are the adjustment's
  pub own-rotations : (n : ℕ) → n ≡ (adjusted c s).rotations → 0 ≡ number w c s → n ≡ rotations w c s
  unfolding rotations
  own-rotations n e z = e ∙ rw (eq-eqb (number w c s) 0 (sym z))

  own-specimens : (n : ℕ) → n ≡ (design s).n → 0 ≡ number w c s → n ≡ specimens_run w c s
  unfolding specimens_run
  own-specimens n e z = e ∙ rw (eq-eqb (number w c s) 0 (sym z))

  -- a run whose tests were made: a zero pivot in one refuses it, and where there is none it is the file's
  module _ (r : refusal w s ≡ 0) (a : file_adjustment_refusal c s ≡ 0) where
    pub judged-pivot : (b : Bool) → b ≡ (run c s).refused → b ≡ true → Judges w c s (Err ZeroPivot)
    judged-pivot b e h = judged-refused (Err ZeroPivot) (λ d. d ≡ ZeroPivot) refl (λ d q. ap refusal_number q ∙ pivot-number r a b e h)

    pub judged-run : (b : Bool) → b ≡ (run c s).refused → b ≡ false → (j : JudgedSeries) → j.entries ≡ (run c s).entries → j.rotations ≡ (adjusted c s).rotations → j.specimens ≡ (design s).n → Judges w c s (Ok j)
    judged-run b e h j x y z =
        let n = no_number r a b e h in
        record { listed = run-entries j.entries x n; told = n; made = own-rotations j.rotations y n; pulled = own-specimens j.specimens z n }
