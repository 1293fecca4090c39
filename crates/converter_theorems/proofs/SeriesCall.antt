-- The Kenward–Roger call on a file and on the converted file, with any limit of specimens w: the marks of a run, where they bear t, say that each multiplied number scales exactly, so that no refusal comes and all verdicts stay.
use Prim.Native.Nat.{ℕ, ◌*◌, ◌<◌, ◌≤◌}
use mathlib.Core.Path.{◌≡◌, refl, sym, ap, ◌∙◌, subst}
use mathlib.Core.Bool.{Bool, not, cond}
use mathlib.Core.List.{List, [], ◌∷◌, ◌++◌, map}
use lib.Dec.{T, eqb}
use lib.IntN.{ℤ, nat_abs}
use lib.ListN.{get_or}
use lib.Ieee.{Float, nan, binary64, fits, mul}
use lib.Ieee.Fits.{mul-fits}
use Rattle.arithmetic.specs.Scale.{scale, power_of_two}
use Rattle.arithmetic.specs.Marks.{MarkBears}
use Rattle.algebra.specs.Kind.{floats}
use Rattle.algebra.specs.Product.{at}
use Rattle.arithmetic_cutoffs.specs.declared.Cutoffs.{Cutoffs}
use Rattle.algebra.specs.Small.{Rows}
use Rattle.adjustment.specs.Covariance.{Design, matrices}
use Rattle.adjustment.specs.Adjusted.{adjustment, adjustment_refusal}
use Rattle.tests.specs.declared.Entry.{Entry}
use Rattle.tests.specs.Answer.{no_entry}
use Rattle.tests.specs.declared.Run.{Run}
use Rattle.algebra.specs.Reasons.{first}
use Rattle.records.specs.format.File.{length_reasons, form_reasons}
use Rattle.records.specs.format.Order.{order_reasons}
use Rattle.records.specs.readers.Shortened.{shortened}
use Rattle.records.specs.readers.Series.{coefficients, contrast_rows, as_sent, design, phi, sigma2, beta, beta_h, contrast, block_reasons, size_reasons, value_reasons, reasons, refusal}
use Rattle.records.specs.calls.KenwardRogerCall.{adjusted, scaled, run, number, entries}
use Rattle.tests.specs.Verdict.{verdict, verdicts, RunBears}
use Rattle.converter_run.specs.joints.ConvertedInput.{Input, run_on, ConvertedInput, Multiplied, RunSizes, WrittenCells, Written, ScalingMoves, SeriesSurvives}
use Rattle.converter_run.proofs.MovingInput.{multiplied-is-converted}
use Rattle.converter_run.proofs.MovingRun.{scaling-moves}
use Rattle.converter_run.proofs.MovingSeries.{adjustment-written, series-survives}
use Rattle.converter.specs.Converted.{kenward_roger_change, converted}
use Rattle.records.proofs.readers.AcceptedSeries.{AcceptedSeries, accepted-series}
use Rattle.records.proofs.readers.SeriesInput.{series-sized, matrices-bound, beta-fits, beta_h-fits, contrast-fits, phi-fits, sigma2-fits}
use Rattle.records.proofs.calls.CallLaws.{number_is as call-number, other_way}
use Rattle.algebra.proofs.ReasonLaws.{first-append, first-front}
use Rattle.converter.proofs.Asked.{AskedExact}
use Rattle.converter.proofs.Series.{design-same, phi-same}
use Rattle.converter.proofs.Input.{InputExact, r-same, sigma2-product, beta-product, beta_h-product, contrast-product, reasons-converted}
use Rattle.converter.specs.SeriesDemand.{AllBear, SameVerdicts}

-- ---- the call's parts, as demand 3's law on series in memory has them
abbrev pub input_of : List ℕ → Input
input_of s = record { sigma2 = sigma2 s; beta = beta s; beta_h = beta_h s; contrast = contrast s }

abbrev pub whole : Cutoffs → Design → Rows → ℕ → Input → Run
whole c d f rows x = run_on c d.p (matrices d) rows f (adjustment c d f) x

abbrev pub listed : List (ℕ × Bool) → ℕ → Bool → List (ℕ × Bool)
listed rs n b = rs ++ ((n, not (eqb n 0)) ∷ (10, b) ∷ [])

-- ---- an input that is multiplied, and so scaled exactly, is an f64 input again when scaled
again : (v : ℤ) (y : Float) {y' : Float} → y' ≡ mul binary64 y (power_of_two v) → y' ≡ scale v y → T (fits binary64 (scale v y))
again v y q r = subst (λ (z : Float). T (fits binary64 z)) (sym q ∙ r) (mul-fits binary64 y (power_of_two v))

pub asked-exact : (k : ℤ) (m : ℕ → ℤ) (p rows : ℕ) (x x' : Input) → Multiplied k m p rows x x' → ConvertedInput k m p rows x x' → AskedExact k m p rows x.beta x.beta_h x.contrast
asked-exact k m p rows x x' a b = record {
  estimates = λ i l. again k (get_or x.beta i nan) (a.beta i l) (b.beta i l);
  hypotheses = λ r i l. again k (get_or x.beta_h i nan) (a.beta_h r i l) (b.beta_h r i l);
  lines = λ i j h l. again (m i) (at floats x.contrast i j) (a.contrast i j h l) (b.contrast i j h l);
}

module _ (c : Cutoffs) (s : List ℕ) where
  pub run_is : run c s ≡ whole c (design s) (phi s) (contrast_rows s) (input_of s)
  unfolding run scaled adjusted design as_sent shortened
  run_is = refl

  module _ (w : ℕ) where
    pub number_is : number w c s ≡ first (listed (reasons w s) (adjustment_refusal c (design s) (phi s) (sigma2 s)) (run c s).refused)
    unfolding refusal reasons length_reasons order_reasons form_reasons block_reasons size_reasons value_reasons first
    number_is =
        let n : ℕ = adjustment_refusal c (design s) (phi s) (sigma2 s) in
        call-number c s w
        ∙ ap (λ (k : ℕ). cond (eqb (refusal w s) 0) k (refusal w s)) (sym (other_way (eqb n 0) n (cond (run c s).refused 10 0)))
        ∙ sym (first-append (reasons w s) ((n, not (eqb n 0)) ∷ (10, (run c s).refused) ∷ []) refl)

    -- an accepted file's entries are the run's
    pub entries-are : number w c s ≡ 0 → entries w c s ≡ (run c s).entries
    unfolding entries
    entries-are e = rw e

    not-refused : number w c s ≡ 0 → refusal w s ≡ 0
    unfolding refusal
    not-refused e =
        let n : ℕ = adjustment_refusal c (design s) (phi s) (sigma2 s) in
        first-front (reasons w s) ((n, not (eqb n 0)) ∷ (10, (run c s).refused) ∷ []) (sym number_is ∙ e)

-- ---- a file that is accepted with entries that bear t, and k and each row's m that t covers
module _ {t : ℕ} (w : ℕ) (c : Cutoffs) (s : List ℕ) (k : ℤ) (m : ℕ → ℤ) (near : 2 * nat_abs k ≤ t) (nears : (r : ℕ) → r < contrast_rows s → nat_abs (m r) ≤ t) (e : number w c s ≡ 0)
    (bears : AllBear t w c s) where
  abbrev s' : List ℕ
  s' = converted (kenward_roger_change k m) s

  taken : AcceptedSeries w s
  taken = accepted-series w s (not-refused c s w e)

  hp : coefficients s ≤ 6
  hp = (series-sized w s taken).coefficients

  hr : contrast_rows s ≤ 6
  hr = (series-sized w s taken).contrast

  sizes : RunSizes (coefficients s) (matrices (design s)) (contrast_rows s)
  sizes = record { some = (series-sized w s taken).some; coefficients = hp; matrices = matrices-bound w s taken; contrast = hr }

  cells-written : WrittenCells (coefficients s) (coefficients s) (phi s)
  cells-written = phi-fits s hp

  written : Written (coefficients s) (contrast_rows s) (input_of s)
  written = record { sigma2 = sigma2-fits s; beta = beta-fits s hp; beta_h = λ r. beta_h-fits s hp; contrast = contrast-fits s hp hr }

  run-bears : RunBears t (coefficients s) (contrast_rows s) (whole c (design s) (phi s) (contrast_rows s) (input_of s))
  run-bears =
      let same : entries w c s ≡ (whole c (design s) (phi s) (contrast_rows s) (input_of s)).entries = entries-are c s w e ∙ ap (λ (r : Run). r.entries) (run_is c s) in
      record {
        coefficient = λ i h. subst (λ (es : List Entry). MarkBears t (get_or es i no_entry).inside) same (bears.coefficient i h);
        contrast = λ h. subst (λ (es : List Entry). MarkBears t (get_or es 6 no_entry).inside) same (bears.contrast h);
      }

  -- the converted file's input is the file's, multiplied, and so scaled exactly
  multiplied : Multiplied k m (coefficients s) (contrast_rows s) (input_of s) (input_of s')
  multiplied = record {
    sigma2 = sigma2-product k m s taken.formed.within hp hr;
    beta = beta-product k m s taken.formed.within hp hr;
    beta_h = λ r. beta_h-product k m s taken.formed.within hp hr;
    contrast = contrast-product k m s taken.formed.within hp hr;
  }

  pub scaled-input : ConvertedInput k m (coefficients s) (contrast_rows s) (input_of s) (input_of s')
  unfolding design as_sent shortened
  scaled-input =
      multiplied-is-converted c (coefficients s) (matrices (design s)) (contrast_rows s) k m (phi s) (adjustment c (design s) (phi s)) (input_of s) sizes near nears cells-written written
      run-bears (input_of s') multiplied

  exact : InputExact k m s
  exact = record {
    variance = subst (λ (x : Float). T (fits binary64 x)) scaled-input.sigma2 (sigma2-fits s');
    asked = asked-exact k m (coefficients s) (contrast_rows s) (input_of s) (input_of s') multiplied scaled-input;
  }

  -- and what sigma2 scales moves with it
  pub scaling : ScalingMoves k (coefficients s) (matrices (design s)) (phi s) (adjustment c (design s) (phi s)) (sigma2 s) (sigma2 (converted (kenward_roger_change k m) s))
  unfolding design as_sent shortened
  scaling =
      scaling-moves c (coefficients s) (matrices (design s)) (contrast_rows s) k m (phi s) (adjustment c (design s) (phi s)) (input_of s) (input_of s') sizes near
      (adjustment-written c (design s) (phi s) hp (matrices-bound w s taken) cells-written) written scaled-input run-bears

  survives : SeriesSurvives c (design s) (phi s) (contrast_rows s) (input_of s) (input_of s')
  unfolding design as_sent shortened
  survives = series-survives c (design s) (phi s) (contrast_rows s) k m (input_of s) (input_of s') sizes near cells-written written scaled-input run-bears

  -- the converted file's design, Φ and sizes are the file's
  run-after : run c s' ≡ whole c (design s) (phi s) (contrast_rows s) (input_of s')
  run-after =
      run_is c s'
      ∙ ap (λ (d : Design). whole c d (phi s') (contrast_rows s') (input_of s')) (design-same k m s)
      ∙ ap (λ (f : Rows). whole c (design s) f (contrast_rows s') (input_of s')) (phi-same k m s)
      ∙ ap (λ (n : ℕ). whole c (design s) (phi s) n (input_of s')) (r-same k m s taken.formed.within hp hr)

  adjustment-after : adjustment_refusal c (design s') (phi s') (sigma2 s') ≡ adjustment_refusal c (design s) (phi s) (sigma2 s)
  adjustment-after =
      ap (λ (d : Design). adjustment_refusal c d (phi s') (sigma2 s')) (design-same k m s)
      ∙ ap (λ (f : Rows). adjustment_refusal c (design s) f (sigma2 s')) (phi-same k m s)
      ∙ survives.number

  refused-after : (run c s').refused ≡ (run c s).refused
  refused-after =
      ap (λ (r : Run). r.refused) run-after ∙ survives.run.refusal ∙ sym (ap (λ (r : Run). r.refused) (run_is c s))

  number-after : number w c s' ≡ 0
  number-after =
      number_is c s' w
      ∙ ap (λ (rs : List (ℕ × Bool)). first (listed rs (adjustment_refusal c (design s') (phi s') (sigma2 s')) (run c s').refused)) (reasons-converted w k m s taken exact)
      ∙ ap (λ (n : ℕ). first (listed (reasons w s) n (run c s').refused)) adjustment-after
      ∙ ap (λ (b : Bool). first (listed (reasons w s) (adjustment_refusal c (design s) (phi s) (sigma2 s)) b)) refused-after
      ∙ sym (number_is c s w) ∙ e

  verdicts-after : map verdict (run c s').entries ≡ map verdict (run c s).entries
  unfolding verdicts
  verdicts-after =
      ap (λ (r : Run). map verdict r.entries) run-after ∙ survives.run.same ∙ sym (ap (λ (r : Run). map verdict r.entries) (run_is c s))

  pub series-same : SameVerdicts w c s (converted (kenward_roger_change k m) s)
  series-same = record {
    accepted = number-after;
    verdicts = ap (map verdict) (entries-are c s' w number-after) ∙ verdicts-after ∙ sym (ap (map verdict) (entries-are c s w e));
  }
