-- The Satterthwaite call on a file and on the converted file: the mark of a test, where it bears t, says that each multiplied number scales exactly, so that no refusal comes and the verdict stays.
use Prim.Native.Nat.{ℕ, ◌*◌, ◌<◌, ◌≤◌}
use native.Mathlib.Omega.{arith}
use mathlib.Core.Path.{◌≡◌, refl, sym, ap, ◌∙◌, subst}
use mathlib.Core.Bool.{Bool, true, false, cond}
use mathlib.Core.List.{List, [], ◌∷◌, ◌++◌}
use lib.Dec.{T}
use lib.IntN.{ℤ, nat_abs, ◌+ℤ◌}
use lib.Ieee.{Float, binary64, fits}
use Rattle.arithmetic.specs.Scale.{scale}
use Rattle.arithmetic.specs.Marks.{MarkBears}
use Rattle.arithmetic.proofs.ScaleLaws.{scale-zero}
use Rattle.arithmetic.proofs.MarkLaws.{Bears}
use Rattle.algebra.specs.Kind.{floats, marks}
use Rattle.algebra.specs.Product.{at}
use Rattle.algebra.proofs.MovingCells.{abs-twice}
use Rattle.arithmetic_cutoffs.specs.declared.Cutoffs.{Cutoffs}
use Rattle.arithmetic_cutoffs.specs.Cutoffs.{document_cutoffs}
use Rattle.std.specs.Prelude.{Option}
use Rattle.tests.specs.declared.Entry.{Entry}
use Rattle.algebra.specs.Reasons.{first}
use Rattle.records.specs.format.Kinds.{kind_at, width, satterthwaite_kinds}
use Rattle.records.specs.format.File.{present}
use Rattle.tests.specs.Satterthwaite.{start_seen, satterthwaite as test}
use Rattle.tests.proofs.SatterthwaiteSurvives.{InputSizes, ConvertedInputs, SameOutcome, satterthwaite-survives}
use Rattle.records.specs.readers.Parameters.{coefficients, contrast_rows, parameters, sizes, kinds, reasons, refusal, cell_value, inputs}
use Rattle.records.specs.calls.SatterthwaiteCall.{outcome, test_reasons, all_reasons, number, entry}
use Rattle.tests.specs.Verdict.{verdict}
use Rattle.algebra.proofs.ReasonLaws.{first-front}
use Rattle.records.proofs.readers.AcceptedParameters.{AcceptedParameters, accepted-parameters}
use Rattle.converter.specs.Converted.{satterthwaite_shift, satterthwaite_change, converted}
use Rattle.records.proofs.format.Slots.{Inside}
use Rattle.converter.specs.ReadAlike.{Exact}
use Rattle.converter.proofs.Among.{among}
use Rattle.converter.proofs.ReadAlike.{exact-cells}
use Rattle.converter.proofs.Satterthwaite.{parameters-numbered, p-same, q-same, n-same, stays, scales, reasons-same}
use Rattle.converter.specs.ParametersDemand.{SameVerdict}
use Rattle.converter_theorems.proofs.Operands.{start-bears, beta-again, beta_h-again, v-again, js-again}
use Rattle.converter_theorems.proofs.Parameters.{inputs-sized, l-at, beta-at, beta_h-at, v-at, js-at, a_at, inputs-written}

-- ---- the numbers in all cells that the sizes leave the multiplied kinds
-- x times 2 ^ u is an f64 number
abbrev Again : ℤ → Float → Type 0
Again u x = T (fits binary64 (scale u x))

record InputExact (k : ℤ) (s : List ℕ) : Type 0 where
  pub estimates : (i : ℕ) → i < coefficients s → Again k (cell_value s 8 0 i 0)
  pub hypotheses : (i : ℕ) → i < coefficients s → Again k (cell_value s 10 0 i 0)
  pub variance : (i j : ℕ) → i < coefficients s → j < coefficients s → Again (k +ℤ k) (cell_value s 30 0 i j)
  pub jacobian : (r i j : ℕ) → r < parameters s → i < coefficients s → j < coefficients s → Again (k +ℤ k) (cell_value s 31 r i j)

guarded : (b : Bool) (r p : ℕ) → r < cond b p 0 → r < p
guarded true r p h = h
guarded false r p h = absurd (omega arith)

none : (n : ℕ) → n < 1 → n ≡ 0
none n h = omega arith

module _ (k : ℤ) (s : List ℕ) (c : AcceptedParameters s) (h : InputExact k s) where
  -- cell (n, r, j) of a kind, scaled by what the change does to it, is an f64 number
  abbrev CellsAgain : ℕ → Type 0
  CellsAgain kind = (n r j : ℕ) → Inside (kind_at (kinds s) kind) n r j → Again (satterthwaite_shift k kind n r j) (cell_value s kind n r j)

  estimates-again : CellsAgain 8
  unfolding kind_at satterthwaite_kinds width sizes satterthwaite_shift
  estimates-again n r j i = rw (none n i.number, none j i.column) (h.estimates r i.row)

  hypotheses-again : CellsAgain 10
  unfolding kind_at satterthwaite_kinds width sizes satterthwaite_shift
  hypotheses-again n r j i = rw (none n i.number, none j i.column) (h.hypotheses r (guarded (present s 10) r (coefficients s) i.row))

  variance-again : CellsAgain 30
  unfolding kind_at satterthwaite_kinds width sizes satterthwaite_shift
  variance-again n r j i = rw (none n i.number) (h.variance r j i.row i.column)

  jacobian-again : CellsAgain 31
  unfolding kind_at satterthwaite_kinds width sizes satterthwaite_shift
  jacobian-again n r j i = h.jacobian n r j i.number i.row i.column

  input-exact : Exact (satterthwaite_change k) s
  input-exact =
      exact-cells (satterthwaite_change k) (kinds s) s c.formed.once c.formed.within (parameters-numbered k (sizes s))
      (λ kind n r j e. among 8 10 30 31 CellsAgain estimates-again hypotheses-again variance-again jacobian-again kind e n r j)

-- ---- the call's parts
module _ (c : Cutoffs) (s : List ℕ) where
  pub number_is : number c s ≡ first (reasons s ++ ((11, (test marks c (inputs s)).refused) ∷ []))
  unfolding number all_reasons test_reasons outcome
  number_is = refl

  -- an accepted file's entry is the test's
  pub entry-is : number c s ≡ 0 → entry c s ≡ (test marks c (inputs s)).entry
  unfolding entry outcome
  entry-is e = rw e

  not-refused : number c s ≡ 0 → refusal s ≡ 0
  unfolding refusal
  not-refused e = first-front (reasons s) ((11, (test marks c (inputs s)).refused) ∷ []) (sym number_is ∙ e)

-- ---- a file that is accepted with an entry that bears t, and a k that t covers
module _ {t : ℕ} (c : Cutoffs) (rotation : T (fits binary64 c.rotation)) (s : List ℕ) (k : ℤ) (near : 4 * nat_abs k ≤ t) (e : number c s ≡ 0) (bears : MarkBears t (entry c s).inside) where
  abbrev s' : List ℕ
  s' = converted (satterthwaite_change k) s

  taken : AcceptedParameters s
  taken = accepted-parameters s (not-refused c s e)

  z : InputSizes (inputs s)
  z = inputs-sized s taken

  test-bears : MarkBears t (test marks c (inputs s)).entry.inside
  test-bears = subst (λ (x : Entry). MarkBears t x.inside) (entry-is c s e) bears

  start : Bears t (start_seen marks c (inputs s))
  start = start-bears c (inputs s) z test-bears

  once : nat_abs k ≤ t
  once = omega arith

  twice : nat_abs (k +ℤ k) ≤ t
  twice = omega (arith, abs-twice k)

  numbers-exact : InputExact k s
  unfolding inputs
  numbers-exact = record {
    estimates = λ i h. subst (Again k) (beta-at s z i h) (beta-again c (inputs s) z start (inputs-written s z) k once i h);
    hypotheses = λ i h. subst (Again k) (beta_h-at s z i h) (beta_h-again c (inputs s) z start (inputs-written s z) k once i h);
    variance = λ i j h o. subst (Again (k +ℤ k)) (v-at s z i j h o) (v-again c (inputs s) z start (inputs-written s z) (k +ℤ k) twice i j h o);
    jacobian = λ r i j l h o. subst (Again (k +ℤ k)) (js-at s z r i j l h o) (js-again c (inputs s) z start (inputs-written s z) (k +ℤ k) twice r i j l h o);
  }

  exact : Exact (satterthwaite_change k) s
  exact = input-exact k s taken numbers-exact

  -- the refusals before any computing stay, and so the converted file's sizes are within the limits
  reasons-after : reasons s' ≡ reasons s
  reasons-after = reasons-same k s exact

  z' : InputSizes (inputs s')
  unfolding refusal
  z' = inputs-sized s' (accepted-parameters s' (ap first reasons-after ∙ not-refused c s e))

  of-p : {i : ℕ} → i < coefficients s → i < coefficients s'
  of-p {i} l = subst (λ (n : ℕ). i < n) (sym (p-same k s)) l

  of-q : {i : ℕ} → i < contrast_rows s → i < contrast_rows s'
  of-q {i} l = subst (λ (n : ℕ). i < n) (sym (q-same k s)) l

  of-n : {i : ℕ} → i < parameters s → i < parameters s'
  of-n {i} l = subst (λ (n : ℕ). i < n) (sym (n-same k s)) l

  moved : (kind n r j : ℕ) → (satterthwaite_change k).rewrites kind ≡ true → cell_value s' kind n r j ≡ scale (satterthwaite_shift k kind n r j) (cell_value s kind n r j)
  moved = scales k s exact taken.formed.within

  -- the test's input is the file's, scaled exactly
  scaled-input : ConvertedInputs k (inputs s) (inputs s')
  unfolding inputs satterthwaite_shift
  scaled-input = record {
    p = p-same k s;
    q = q-same k s;
    n = n-same k s;
    l = λ i j h o. record {
      fine = (inputs-written s z).l i j h o;
      moved = l-at s' z' i j (of-q h) (of-p o) ∙ stays k s 9 0 i j refl ∙ sym (l-at s z i j h o) ∙ sym (scale-zero (at floats (inputs s).l i j));
    };
    beta = λ i h. record {
      fine = (inputs-written s z).beta i h;
      moved = beta-at s' z' i (of-p h) ∙ moved 8 0 i 0 refl ∙ ap (scale k) (sym (beta-at s z i h));
    };
    beta_h = λ i h. record {
      fine = (inputs-written s z).beta_h i h;
      moved = beta_h-at s' z' i (of-p h) ∙ moved 10 0 i 0 refl ∙ ap (scale k) (sym (beta_h-at s z i h));
    };
    v = λ i j h o. record {
      fine = (inputs-written s z).v i j h o;
      moved = v-at s' z' i j (of-p h) (of-p o) ∙ moved 30 0 i j refl ∙ ap (scale (k +ℤ k)) (sym (v-at s z i j h o));
    };
    js = λ r i j l h o. record {
      fine = (inputs-written s z).js r l i j h o;
      moved = js-at s' z' r i j (of-n l) (of-p h) (of-p o) ∙ moved 31 r i j refl ∙ ap (scale (k +ℤ k)) (sym (js-at s z r i j l h o));
    };
    a = λ i j h o. a_at s' z' i j (of-n h) (of-n o) ∙ stays k s 32 0 i j refl ∙ sym (a_at s z i j h o);
  }

  survives : SameOutcome (test marks c (inputs s)) (test marks c (inputs s'))
  survives = satterthwaite-survives c rotation k near (inputs s) (inputs s') z scaled-input test-bears

  number-after : number c s' ≡ 0
  number-after =
      number_is c s'
      ∙ ap (λ (rs : List (ℕ × Bool)). first (rs ++ ((11, (test marks c (inputs s')).refused) ∷ []))) reasons-after
      ∙ ap (λ (b : Bool). first (reasons s ++ ((11, b) ∷ []))) survives.refused
      ∙ sym (number_is c s) ∙ e

  three : (x y : Entry) → y.f ≡ x.f → y.df ≡ x.df → y.rank ≡ x.rank → verdict y ≡ verdict x
  three x y f d r =
      ap (λ (n : Option Float). record { f = n; df = y.df; rank = y.rank }) f ∙ ap (λ (n : Option Float). record { f = x.f; df = n; rank = y.rank }) d
      ∙ ap (λ (n : ℕ). record { f = x.f; df = x.df; rank = n }) r

  pub parameters-same : SameVerdict c s (converted (satterthwaite_change k) s)
  parameters-same = record {
    accepted = number-after;
    same = ap verdict (entry-is c s' number-after)
        ∙ three (test marks c (inputs s)).entry (test marks c (inputs s')).entry survives.f survives.df survives.rank
        ∙ sym (ap verdict (entry-is c s e));
  }

-- document 01's cutoff of Jacobi's rotation test is an f64 number
pub document-rotation : T (fits binary64 document_cutoffs.rotation)
unfolding document_cutoffs fits
document-rotation = tt
