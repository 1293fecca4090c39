-- A file whose reading and whose run are computed: what the Kenward–Roger call at the panel says of it, and of the converted file. An example gives the parts, as literals.
use Prim.Native.Nat.{ℕ, ◌<◌, ◌≤◌}
use mathlib.Core.Path.{◌≡◌, ap, ◌∙◌, subst}
use mathlib.Core.Bool.{true, false}
use mathlib.Core.List.{List, map}
use lib.IntN.{ℤ, nat_abs}
use lib.ListN.{get_or}
use Rattle.records.specs.readers.CutoffTable.{built_in_table}
use Rattle.arithmetic_cutoffs.specs.Cutoffs.{document_cutoffs}
use Rattle.algebra.specs.Small.{Rows}
use Rattle.adjustment.specs.Covariance.{Design, matrices}
use Rattle.adjustment.specs.Adjusted.{Adjustment, adjustment, adjustment_refusal}
use Rattle.tests.specs.declared.Entry.{Entry}
use Rattle.tests.specs.Answer.{no_entry}
use Rattle.tests.specs.declared.Run.{Run}
use Rattle.tests.specs.Verdict.{Verdict, verdict}
use Rattle.records.specs.readers.Series.{coefficients, contrast_rows, reasons, design, phi, sigma2}
use Rattle.records.specs.calls.KenwardRogerCall.{run, number, entries}
use Rattle.converter_run.specs.joints.ConvertedInput.{Input, run_on}
use Rattle.converter.specs.Converted.{kenward_roger_change, converted}
use Rattle.converter.specs.SeriesDemand.{AllInside, SameVerdicts, SameAnswers}
use Rattle.converter_theorems.proofs.SeriesCall.{input_of, whole, listed, run_is, number_is, entries-are}
use Rattle.converter_theorems.proofs.Theorems.{within-kenward-roger, built-in-answer}
use Rattle.algebra.specs.Reasons.{first}

-- what the file says, and that no refusal comes before the computing
pub record Reads (s : List ℕ) (d : Design) (f : Rows) (rows : ℕ) (x : Input) : Type 0 where
  pub design : Rattle.records.specs.readers.Series.design s ≡ d
  pub phi : Rattle.records.specs.readers.Series.phi s ≡ f
  pub input : input_of s ≡ x
  pub contrast : contrast_rows s ≡ rows
  pub passes : first (listed (reasons 24 s) 0 false) ≡ 0

-- what the adjustment and the run make of it
pub record Runs (d : Design) (f : Rows) (rows : ℕ) (x : Input) (a : Adjustment) (es : List Entry) : Type 0 where
  pub refusal : adjustment_refusal document_cutoffs d f x.sigma2 ≡ 0
  pub adjusted : adjustment document_cutoffs d f ≡ a
  pub run : run_on document_cutoffs d.p (matrices d) rows f a x ≡ record { refused = false; entries = es }

module _ {s : List ℕ} {d : Design} {f : Rows} {rows : ℕ} {x : Input} {a : Adjustment} {es : List Entry} (reads : Reads s d f rows x) (runs : Runs d f rows x a es) where
  read-run : run document_cutoffs s ≡ record { refused = false; entries = es }
  read-run =
      run_is document_cutoffs s
      ∙ ap (λ (d : Design). whole document_cutoffs d (phi s) (contrast_rows s) (input_of s)) reads.design
      ∙ ap (λ (f : Rows). whole document_cutoffs d f (contrast_rows s) (input_of s)) reads.phi
      ∙ ap (λ (n : ℕ). whole document_cutoffs d f n (input_of s)) reads.contrast
      ∙ ap (λ (x : Input). whole document_cutoffs d f rows x) reads.input
      ∙ ap (λ (a : Adjustment). run_on document_cutoffs d.p (matrices d) rows f a x) runs.adjusted
      ∙ runs.run

  pub read-accepted : number 24 document_cutoffs s ≡ 0
  read-accepted =
      number_is document_cutoffs s 24
      ∙ ap (λ (n : ℕ). first (listed (reasons 24 s) n (run document_cutoffs s).refused))
      (ap (λ (d : Design). adjustment_refusal document_cutoffs d (phi s) (sigma2 s)) reads.design
      ∙ ap (λ (f : Rows). adjustment_refusal document_cutoffs d f (sigma2 s)) reads.phi
      ∙ ap (λ (x : Input). adjustment_refusal document_cutoffs d f x.sigma2) reads.input
      ∙ runs.refusal)
      ∙ ap (λ (r : Run). first (listed (reasons 24 s) 0 r.refused)) read-run
      ∙ reads.passes

  pub read-entries : entries 24 document_cutoffs s ≡ es
  read-entries = entries-are document_cutoffs s 24 read-accepted ∙ ap (λ (r : Run). r.entries) read-run

  -- the entries in use are inside
  pub read-inside : (p : ℕ) → coefficients s ≡ p → ((i : ℕ) → i < p → (get_or es i no_entry).inside ≡ true) → (get_or es 6 no_entry).inside ≡ true → AllInside 24 document_cutoffs s
  read-inside p e each last = record {
    coefficient = λ i h. ap (λ (es : List Entry). (get_or es i no_entry).inside) read-entries ∙ each i (subst (λ (n : ℕ). i < n) e h);
    contrast = λ h. ap (λ (es : List Entry). (get_or es 6 no_entry).inside) read-entries ∙ last;
  }

-- DEMAND 3 IS NOT EMPTY: its premises hold of the file s, which has the verdicts vs; the converted file is s', another file, accepted with the same verdicts, and its answer has every byte
-- but the marks
pub record Witness (s : List ℕ) (k : ℤ) (m : ℕ → ℤ) (s' : List ℕ) (vs : List Verdict) : Type 0 where
  pub accepted : number 24 document_cutoffs s ≡ 0
  pub inside : AllInside 24 document_cutoffs s
  pub verdicts : map verdict (entries 24 document_cutoffs s) ≡ vs
  pub other : converted (kenward_roger_change k m) s ≡ s'
  pub accepted_again : number 24 document_cutoffs s' ≡ 0
  pub same_verdicts : map verdict (entries 24 document_cutoffs s') ≡ vs
  pub same_answer : SameAnswers 24 built_in_table s s'

pub witness : (s : List ℕ) (k : ℤ) (m : ℕ → ℤ) (s' : List ℕ) (vs : List Verdict)
    → nat_abs k ≤ 32 → ((r : ℕ) → nat_abs (m r) ≤ 32) → number 24 document_cutoffs s ≡ 0 → AllInside 24 document_cutoffs s → map verdict (entries 24 document_cutoffs s) ≡ vs
    → converted (kenward_roger_change k m) s ≡ s' → Witness s k m s' vs
witness s k m s' vs near nears e inside v other =
    let same : SameVerdicts 24 document_cutoffs s s' =
    subst (λ (t : List ℕ). SameVerdicts 24 document_cutoffs s t) other (within-kenward-roger 24 document_cutoffs s k m near (λ r h. nears r) e inside) in
    record {
      accepted = e;
      inside = inside;
      verdicts = v;
      other = other;
      accepted_again = same.accepted;
      same_verdicts = same.verdicts ∙ v;
      same_answer = subst (λ (t : List ℕ). SameAnswers 24 built_in_table s t) other
          (built-in-answer s k m near (λ r h. nears r) e inside);
    }
