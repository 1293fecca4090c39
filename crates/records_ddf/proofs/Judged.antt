-- What the numbers say: of a file's length, order, form and values, of a file that is not refused, of the number with the test's own refusal, and of the lent bytes.
use Prim.Native.Nat.{ℕ, ◌≤◌}
use mathlib.Core.Path.{◌≡◌, refl, ap, sym, ◌∙◌}
use mathlib.Core.Bool.{Bool, true, false, cond}
use mathlib.Core.List.{List}
use native.Mathlib.Omega.{arith}
use lib.Dec.{eqb}
use lib.ListN.{length}
use lib.Seq.{sets}
use borrow.Author.Tests.{ne_eqb}
use Rattle.std.specs.Prelude.{Result, Ok, Err, IsErrAnd}
use Rattle.std.specs.Result.{result_unwrap_or}
use Rattle.arithmetic_cutoffs.specs.declared.Cutoffs.{Cutoffs}
use Rattle.algebra.specs.Reasons.{first}
use Rattle.tests.specs.declared.Entry.{Entry}
use Rattle.tests.specs.Answer.{no_entry}
use Rattle.records.specs.declared.refusal.Refusal.{Refusal}
use Rattle.records.specs.declared.Sizes.{Sizes}
use Rattle.records.specs.format.Layout.{entry_bytes}
use Rattle.records.specs.format.Scan.{any}
use Rattle.records.specs.format.File.{count, not_finite}
use Rattle.records.specs.readers.Reader.{formed_number}
use Rattle.records.specs.readers.Parameters.{reader, contrast_rows, sizes, value_reasons, reasons, refusal}
use Rattle.records.specs.readers.CutoffTable.{bad_table, cutoffs_in}
use Rattle.records.specs.calls.SatterthwaiteCall.{outcome, number, entry}
use Rattle.records.proofs.readers.ReaderLaws.{own-decides, accepted-formed}
use Rattle.records.proofs.calls.CallLaws.{satterthwaite-number-is}
use Rattle.records_answer_bytes.proofs.LayoutLaws.{length-entry}
use Rattle.records_little_endian.proofs.StoreLaws.{sets-all}
use Rattle.records_form.proofs.FormLaws.{FormedSizes, formed-sizes}
use Rattle.records.specs.declared.Shape.TheVariants.{Test}

-- ---- the refusals before anything is computed: of a file of good form, its values
module _ (s : List ℕ) (formed : formed_number reader s ≡ 0) where
  pub value-refused : any (count s) (not_finite s) ≡ true → 4 ≡ refusal s
  unfolding refusal reasons value_reasons first
  value-refused h = sym (own-decides reader s formed ∙ rw h)

  pub reader-accepts : any (count s) (not_finite s) ≡ false → 0 ≡ refusal s
  unfolding refusal reasons value_reasons first
  reader-accepts h = sym (own-decides reader s formed ∙ rw h)

-- ---- a file that is not refused: its sizes; z are those at hand
pub accepted-sizes : (s : List ℕ) (z : Sizes) → refusal s ≡ 0 → z ≡ sizes s → FormedSizes Test 1 s z
unfolding refusal reasons
accepted-sizes s z h e = formed-sizes Test 1 (omega arith) (omega arith) s z (accepted-formed reader s h) e

pub contrast-rows-within : (s : List ℕ) → refusal s ≡ 0 → (1 ≤ contrast_rows s) × (contrast_rows s ≤ 6)
unfolding sizes
contrast-rows-within s h = let a = (accepted-sizes s (sizes s) h refl).contrasts in (omega arith, a)

-- ---- with the test's own refusal
module _ (c : Cutoffs) (s : List ℕ) where
  entry_of : (n : ℕ) → number c s ≡ n → entry c s ≡ cond (eqb n 0) (outcome c s).entry no_entry
  unfolding entry
  entry_of n e = rw e

  -- refused before anything is computed; by the test; not refused
  pub judged-early : (n : ℕ) (e : Entry) → n ≡ refusal s → (n ≡ 0 → ⊥) → e ≡ no_entry → (e ≡ entry c s) × (n ≡ number c s)
  judged-early n e q h p =
      let x : number c s ≡ n = satterthwaite-number-is c s ∙ ap (λ (m : ℕ). cond (eqb m 0) (cond (outcome c s).refused 11 0) m) (sym q) ∙ ap (λ (b : Bool). cond b (cond (outcome c s).refused 11 0) n) (ne_eqb n 0 h) in
      (p ∙ sym (entry_of n x ∙ ap (λ (b : Bool). cond b (outcome c s).entry no_entry) (ne_eqb n 0 h)), sym x)

  pub judged-late : (e : Entry) → refusal s ≡ 0 → (outcome c s).refused ≡ true → e ≡ no_entry → (e ≡ entry c s) × (11 ≡ number c s)
  judged-late e q h p =
      let x : number c s ≡ 11 = satterthwaite-number-is c s ∙ rw (q, h) in
      (p ∙ sym (entry_of 11 x), sym x)

  pub judged-taken : (e : Entry) → refusal s ≡ 0 → (outcome c s).refused ≡ false → e ≡ (outcome c s).entry → (e ≡ entry c s) × (0 ≡ number c s)
  judged-taken e q h p =
      let x : number c s ≡ 0 = satterthwaite-number-is c s ∙ rw (q, h) in
      (p ∙ sym (entry_of 0 x), sym x)

-- what `?` passes on has no entry
pub passed-over : (r : Result Entry Refusal) (e : Refusal) → IsErrAnd r (λ d. d ≡ e) → result_unwrap_or r no_entry ≡ no_entry
passed-over (Ok x) e h = absurd h
passed-over (Err d) e h = refl

-- an entry put into 24 bytes is all of them
pub entry-fills : (a : List ℕ) (e f : Entry) → length a ≡ 24 → e ≡ f → sets a 0 (entry_bytes e) ≡ entry_bytes f
entry-fills a e f l q = sets-all a (entry_bytes e) (length-entry e ∙ sym l) ∙ ap entry_bytes q
