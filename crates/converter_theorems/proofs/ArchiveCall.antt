-- The test from an archive and a second file, and from the converted two: the marks of its run, where they bear t, say that each number that the change rewrites scales exactly and that
-- each scaled record keeps to sigma2, so that neither file is refused and all verdicts stay.
use Prim.Native.Nat.{ℕ, ◌*◌, ◌<◌, ◌≤◌}
use mathlib.Core.Path.{◌≡◌, refl, sym, ap, ◌∙◌, subst}
use mathlib.Core.Bool.{Bool}
use mathlib.Core.List.{List, [], ◌∷◌, ◌++◌, map}
use native.Mathlib.Omega.{arith}
use lib.Dec.{T, eqb, lit≤}
use lib.IntN.{ℤ, nat_abs, ◌+ℤ◌}
use lib.ListN.{get_or}
use lib.Ieee.{Float, nan, binary64, fits}
use borrow.Author.Tests.{eqb-true, not-false}
use Rattle.arithmetic.specs.Numbers.{plus_zero}
use Rattle.arithmetic.specs.Scale.{scale}
use Rattle.arithmetic.specs.Marks.{MarkBears}
use Rattle.algebra.specs.Reasons.{first}
use Rattle.algebra.specs.Small.{Rows}
use Rattle.algebra.specs.Table.{table}
use Rattle.algebra.proofs.ReasonLaws.{first-none, first-front}
use Rattle.algebra.proofs.TableLaws.{table_at}
use Rattle.arithmetic_cutoffs.specs.declared.Cutoffs.{Cutoffs}
use Rattle.adjustment.specs.Adjusted.{Adjustment}
use Rattle.adjustment.proofs.WrittenLaws.{stack_at}
use Rattle.tests.specs.declared.Entry.{Entry}
use Rattle.tests.specs.Answer.{no_entry}
use Rattle.tests.specs.declared.Run.{Run}
use Rattle.tests.specs.KenwardRoger.{scaled_by}
use Rattle.tests.specs.Verdict.{verdict, verdicts, RunBears, RunSurvives}
use Rattle.records.specs.format.Kinds.{limits}
use Rattle.records.specs.format.File.{length_reasons, form_reasons}
use Rattle.records.specs.format.Order.{order_reasons}
use Rattle.records.specs.readers.Archive as archive
use Rattle.records.specs.readers.Archive.{Archive, archive_of}
use Rattle.records.specs.readers.SecondFile as second
use Rattle.records.specs.calls.ArchiveCall.{in_response_units, archive_run, archive_test_reasons, from_archive_reasons, from_archive_number, from_archive_entries}
use Rattle.records.proofs.calls.CallLaws.{first_next}
use Rattle.records.proofs.format.CellLaws.{cell-fits}
use Rattle.records.proofs.readers.AcceptedArchive.{AcceptedArchive, accepted-archive, ArchiveSized, archive-sized}
use Rattle.records.proofs.readers.Limits.{second_below}
use Rattle.records.proofs.readers.ReaderLaws.{WellFormed, accepted-formed, accepted-own, well-formed}
use Rattle.converter_run.specs.joints.ConvertedInput.{Input, run_on, ConvertedInput, Multiplied, RunSizes, WrittenCells, Written, WrittenUnits, ScalingMoves}
use Rattle.converter_run.proofs.MovingInput.{multiplied-is-converted}
use Rattle.converter_run.proofs.MovingRun.{run-survives, scaling-moves}
use Rattle.converter.specs.Converted.{kenward_roger_change, archive_change, converted}
use Rattle.converter.specs.ArchiveDemand.{PairBears, SamePairVerdicts}
use Rattle.converter.proofs.Archive as changed
use Rattle.converter.proofs.Archive.{ArchiveMoves}
use Rattle.converter.proofs.SecondFile as asked
use Rattle.converter.proofs.Asked.{AskedExact}
use Rattle.converter_theorems.proofs.SeriesCall.{asked-exact}

-- ---- the call's parts, as demand 3's law on runs in memory has them
-- what an archive holds of the adjustment; the rotations that made it are not archived
abbrev adjustment_in : Archive → Adjustment
adjustment_in a = record { phi_a = a.phi_a; ps = a.ps; w = a.w; rotations = 0 }

abbrev pub pair_input : Archive → List ℕ → Input
pair_input a u = record { sigma2 = a.sigma2; beta = second.beta u; beta_h = second.beta_h u; contrast = second.contrast u }

-- the run on an input, with the archive's sizes, Φ and adjustment: it does not see the archive's sigma2
abbrev pub run_from : Cutoffs → Archive → ℕ → Input → Run
run_from c a rows x = run_on c a.coefficients a.parameters rows a.phi (adjustment_in a) x

-- the archive's reasons, the second file's, and whether a zero pivot refuses
abbrev pub pair_listed : List (ℕ × Bool) → List (ℕ × Bool) → Bool → List (ℕ × Bool)
pair_listed rs qs b = rs ++ (qs ++ ((10, b) ∷ []))

module _ (c : Cutoffs) (s u : List ℕ) where
  pub pair-run : archive_run c s u ≡ run_from c (archive_of s) (second.contrast_rows u) (pair_input (archive_of s) u)
  unfolding archive_run in_response_units scaled_by
  pair-run = refl

  -- the second file's reasons, and the tests' after them
  abbrev later_reasons : List (ℕ × Bool)
  later_reasons = second.reasons (archive.coefficients s) u ++ archive_test_reasons c s u

  pub pair-number : from_archive_number c s u ≡ first (pair_listed (archive.reasons s) (second.reasons (archive.coefficients s) u) (archive_run c s u).refused)
  unfolding from_archive_number from_archive_reasons archive_test_reasons
  pair-number = refl

  module _ (e : from_archive_number c s u ≡ 0) where
    -- the entries of two files that are accepted are the run's
    pub pair-entries : from_archive_entries c s u ≡ (archive_run c s u).entries
    unfolding from_archive_entries
    pair-entries = rw e

    pub archive-taken : archive.refusal s ≡ 0
    unfolding from_archive_number from_archive_reasons archive.refusal
    archive-taken = first-front (archive.reasons s) later_reasons e

    second-taken : second.refusal (archive.coefficients s) u ≡ 0
    unfolding from_archive_number from_archive_reasons archive.refusal archive.reasons archive.value_reasons archive.scaled_reasons second.refusal length_reasons order_reasons form_reasons
    second-taken =
        first-front (second.reasons (archive.coefficients s) u) (archive_test_reasons c s u)
        (sym (first_next (archive.reasons s) later_reasons refl archive-taken) ∙ e)

-- ---- two files that are accepted with entries that bear t, and k and each row's m that t covers
module _ {t : ℕ} (c : Cutoffs) (s u : List ℕ) (k : ℤ) (m : ℕ → ℤ) (near : 2 * nat_abs k ≤ t) (nears : (r : ℕ) → r < second.contrast_rows u → nat_abs (m r) ≤ t) (e : from_archive_number c s u ≡ 0)
    (bears : PairBears t c s u) where
  abbrev s' : List ℕ
  s' = converted (archive_change k) s

  abbrev u' : List ℕ
  u' = converted (kenward_roger_change k m) u

  abbrev p : ℕ
  p = archive.coefficients s

  abbrev N : ℕ
  N = archive.parameters s

  abbrev rows : ℕ
  rows = second.contrast_rows u

  abbrev a : Archive
  a = archive_of s

  -- ---- what the archive and the second file give to the run
  taken : AcceptedArchive s
  taken = accepted-archive s (archive-taken c s u e)

  sized : ArchiveSized s
  sized = archive-sized s taken

  formed : WellFormed (second.reader (archive.coefficients s)) u
  unfolding second.refusal second.reasons
  formed = well-formed (second.reader p) u (accepted-formed (second.reader p) u (second-taken c s u e))

  p-is : second.coefficients u ≡ archive.coefficients s
  unfolding second.refusal second.reasons second.formed_for second.value_reasons
  p-is =
      let q = second.reader p in
      let none = first-none (q.own u) refl (accepted-own q u (second-taken c s u e)) 0 (lit≤ tt) in
      eqb-true (second.coefficients u) p (not-false (eqb (second.coefficients u) p) none)

  hp : second.coefficients u ≤ 6
  hp = let b = sized.coefficients_below in let q = p-is in omega arith

  hr : second.contrast_rows u ≤ 6
  unfolding second.sizes limits
  hr = (second_below u formed.good).contrasts

  of-p : {i : ℕ} → i < archive.coefficients s → i < second.coefficients u
  of-p {i} l = subst (λ (n : ℕ). i < n) (sym p-is) l

  sizes : RunSizes (archive.coefficients s) (archive.parameters s) (second.contrast_rows u)
  sizes = record { some = sized.some_coefficients; coefficients = sized.coefficients_below; matrices = sized.parameters_below; contrast = hr }

  abbrev square : ℕ → ℕ → Rows
  square kind n = table plus_zero 6 6 p p (archive.cell_value s kind n)

  square-written : (kind n : ℕ) → WrittenCells p p (square kind n)
  square-written kind n i j h l =
      let b = sized.coefficients_below in
      rw (table_at plus_zero 6 6 p p (archive.cell_value s kind n) i j nan h l b b) (cell-fits (archive.kinds s) s kind n i j)

  units : WrittenUnits p N a.phi (adjustment_in a)
  unfolding archive_of
  units = record {
    phi = square-written 15 0;
    phi_a = square-written 16 0;
    ps = λ r h. rw (stack_at 4 N (square 17) r h sized.parameters_below) (square-written 17 r);
  }

  sigma2-fits : (v : List ℕ) → T (fits binary64 (archive_of v).sigma2)
  unfolding archive_of
  sigma2-fits v = cell-fits (archive.kinds v) v 18 0 0 0

  -- a number of the second file
  fine : {x : Float} (kind i j : ℕ) → x ≡ second.cell_value u kind i j → T (fits binary64 x)
  fine kind i j q = subst (λ (x : Float). T (fits binary64 x)) (sym q) (cell-fits (second.kinds u) u kind 0 i j)

  written : Written p rows (pair_input a u)
  written = record {
    sigma2 = sigma2-fits s;
    beta = λ i h. fine 8 i 0 (asked.beta-at u hp i (of-p h));
    beta_h = λ r i h. fine 10 i 0 (asked.beta_h-at u hp i (of-p h));
    contrast = λ i j h l. fine 9 i j (asked.contrast-at u hp hr i j h (of-p l));
  }

  run-bears : RunBears t p rows (run_from c a rows (pair_input a u))
  run-bears =
      let same : from_archive_entries c s u ≡ (run_from c a rows (pair_input a u)).entries = pair-entries c s u e ∙ ap (λ (r : Run). r.entries) (pair-run c s u) in
      record {
        coefficient = λ i h. subst (λ (es : List Entry). MarkBears t (get_or es i no_entry).inside) same (bears.coefficient i h);
        contrast = λ h. subst (λ (es : List Entry). MarkBears t (get_or es 6 no_entry).inside) same (bears.contrast h);
      }

  -- ---- the converted files' input is the files', multiplied, and so scaled exactly
  abbrev x : Input
  x = pair_input a u

  abbrev x' : Input
  x' = pair_input (archive_of s') u'

  multiplied : Multiplied k m p rows x x'
  multiplied = record {
    sigma2 = changed.sigma2-product k s taken.formed.within;
    beta = λ i h. asked.beta-product k m u formed.within hp hr i (of-p h);
    beta_h = λ r i h. asked.beta_h-product k m u formed.within hp hr i (of-p h);
    contrast = λ i j h l. asked.contrast-product k m u formed.within hp hr i j h (of-p l);
  }

  scaled-input : ConvertedInput k m p rows x x'
  unfolding archive_of
  scaled-input = multiplied-is-converted c p N rows k m a.phi (adjustment_in a) x sizes near nears units.phi written run-bears x' multiplied

  -- what the archive's sigma2 scales moves with it
  scaling : ScalingMoves k p N a.phi (adjustment_in a) a.sigma2 (scale (k +ℤ k) a.sigma2)
  unfolding archive_of
  scaling =
      subst (ScalingMoves k p N a.phi (adjustment_in a) a.sigma2) scaled-input.sigma2
      (scaling-moves c p N rows k m a.phi (adjustment_in a) x x' sizes near units written scaled-input run-bears)

  pub archive-moves : ArchiveMoves k (archive_of s)
  unfolding archive_of
  archive-moves = record { again = subst (λ (y : Float). T (fits binary64 y)) scaled-input.sigma2 (sigma2-fits s'); phi = scaling.phi; phi_a = scaling.phi_a; ps = scaling.ps }

  tests-exact : AskedExact k m (second.coefficients u) (second.contrast_rows u) (second.beta u) (second.beta_h u) (second.contrast u)
  tests-exact = subst (λ (n : ℕ). AskedExact k m n rows (second.beta u) (second.beta_h u) (second.contrast u)) (sym p-is) (asked-exact k m p rows x x' multiplied scaled-input)

  -- ---- so the refusals stay, and the run survives
  survives : RunSurvives (run_from c a rows x) (run_from c a rows x')
  unfolding archive_of
  survives = run-survives c p N rows k m a.phi (adjustment_in a) x x' sizes near units written scaled-input run-bears

  run-after : archive_run c s' u' ≡ run_from c a rows x'
  run-after =
      pair-run c s' u'
      ∙ ap (λ (b : Archive). run_from c b (second.contrast_rows u') x') (changed.archive-same k s)
      ∙ ap (λ (n : ℕ). run_from c a n x') (asked.r-same k m u)

  refused-after : (archive_run c s' u').refused ≡ (archive_run c s u).refused
  refused-after = ap (λ (r : Run). r.refused) run-after ∙ survives.refusal ∙ sym (ap (λ (r : Run). r.refused) (pair-run c s u))

  pair-after : from_archive_number c s' u' ≡ 0
  pair-after =
      pair-number c s' u'
      ∙ ap (λ (rs : List (ℕ × Bool)). first (pair_listed rs (second.reasons (archive.coefficients s') u') (archive_run c s' u').refused)) (changed.reasons-same s taken k archive-moves)
      ∙ ap (λ (n : ℕ). first (pair_listed (archive.reasons s) (second.reasons n u') (archive_run c s' u').refused)) (changed.coefficients-same k s)
      ∙ ap (λ (qs : List (ℕ × Bool)). first (pair_listed (archive.reasons s) qs (archive_run c s' u').refused)) (asked.reasons-same k m u p formed hp hr tests-exact)
      ∙ ap (λ (b : Bool). first (pair_listed (archive.reasons s) (second.reasons p u) b)) refused-after
      ∙ sym (pair-number c s u) ∙ e

  verdicts-after : map verdict (archive_run c s' u').entries ≡ map verdict (archive_run c s u).entries
  unfolding verdicts
  verdicts-after = ap (λ (r : Run). map verdict r.entries) run-after ∙ survives.same ∙ sym (ap (λ (r : Run). map verdict r.entries) (pair-run c s u))

  pub pair_same : SamePairVerdicts c s u (converted (archive_change k) s) (converted (kenward_roger_change k m) u)
  pair_same = record {
    accepted = pair-after;
    verdicts = ap (map verdict) (pair-entries c s' u' pair-after) ∙ verdicts-after ∙ sym (ap (map verdict) (pair-entries c s u e));
  }
