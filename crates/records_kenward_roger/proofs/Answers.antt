-- The answer of an accepted file: which entries are in use, what is printed of them, and that the answer bytes give every entry back. Acceptance, with a limit of at least one specimen, is the one premise.
use Prim.Native.Nat.{ℕ, zero, suc, ◌<◌, ◌≤◌}
use native.Mathlib.Omega.{arith}
use native.Mathlib.Decide.{ℕ_discrete}
use mathlib.Core.Path.{◌≡◌, refl, sym, ap, ◌∙◌}
use mathlib.Core.Bool.{Bool, true, false, not, cond}
use mathlib.Core.List.{List, [], ◌∷◌}
use lib.Dec.{eqb}
use lib.ListN.{length, get_or, replicate, set, length-set}
use lib.Seq.{ext_get_or}
use lib.Ieee.{Float, binary64, add, sub, mul, div, lt}
use lib.Ieee.Fits.{add-fits, mul-fits, div-fits}
use Rattle.arithmetic.specs.declared.Marked.{Marked}
use Rattle.arithmetic.specs.Numbers.{plus_zero, one, magnitude, of_count}
use Rattle.arithmetic_cutoffs.specs.declared.Cutoffs.{Cutoffs}
use Rattle.algebra.specs.Kind.{marks}
use Rattle.algebra.specs.Jacobi.{two}
use Rattle.algebra.specs.Small.{Rows}
use Rattle.algebra.proofs.FoldLaws.{fold-keeps}
use Rattle.std.specs.Prelude.{Option, Some, None}
use Rattle.tests.specs.declared.Entry.{Entry}
use Rattle.tests.specs.Answer.{no_entry}
use Rattle.tests.specs.declared.Basis.{Basis}
use Rattle.tests.specs.Basis.{contrast_basis}
use Rattle.tests.specs.Moments.{four, positive, rho_of, general_df, rank_one, df_of, f_of}
use Rattle.tests.specs.declared.Run.{Run}
use Rattle.tests.specs.KenwardRoger.{Scaled, scaled_by, tested, unit_row, coefficient_test, contrast_test, with_test, coefficients_to, run_of}
use Rattle.tests.specs.Used.{in_use}
use Rattle.tests_run.proofs.Used.{all_alike, unused-entry, in-use-is}
use Rattle.records.specs.readers.Series.{coefficients, contrast_rows, refusal, beta, beta_h, contrast}
use Rattle.records.specs.format.Layout.{entry_bytes, answer_bytes, entry_from}
use Rattle.records.specs.readers.CutoffTable.{cutoffs_in}
use Rattle.records.specs.text.Text.{text_of, series_text}
use Rattle.records.proofs.calls.CallLaws.{accepted-fills}
use Rattle.records.specs.calls.KenwardRogerCall.{series_call, scaled, run, number, entries, returned, written}
use Rattle.records.proofs.readers.AcceptedSeries.{AcceptedSeries, accepted-series}
use Rattle.records_series.proofs.Accepted.{limits}
use Rattle.records_answer_bytes.proofs.LayoutLaws.{Held, number-held, unused-zero, read_back, determined}
use Rattle.records_answer_text.proofs.TextLaws.{text-accepted}
use Rattle.records_answer_text.proofs.SeriesLaws.{lines_are}
use Rattle.records_kenward_roger.proofs.Numbers.{early-number, run-entries}
use Rattle.records_kenward_roger.proofs.Contrasts.{contrast-given}

-- ---- every F and df is an f64: a sum, a product or a quotient
f-held : (q : ℕ) (scaling wald : Option Float) → Held (f_of q scaling wald)
unfolding f_of
f-held q None wald = tt
f-held q (Some s) None = tt
f-held q (Some s) (Some x) = number-held _ (mul-fits binary64 _ _)

module _ (c : Cutoffs) (q : ℕ) (a1 a2 : Float) where
  sum-held : (x y : Float) (b : Bool) → Held (cond b (positive (add binary64 x y)) None)
  unfolding positive
  sum-held x y true = go (lt plus_zero (add binary64 x y))
    where
      go : (b : Bool) → Held (cond b (Some (add binary64 x y)) None)
      go true = add-fits binary64 x y
      go false = tt
  sum-held x y false = tt

  general-held : Held (general_df c q a1 a2)
  unfolding general_df
  general-held =
      let e : Float = sub binary64 (mul binary64 (of_count q) (rho_of c q a1 a2)) one in
      sum-held four (div binary64 (add binary64 (of_count q) two) e) (lt c.excess (magnitude e))

  df-held : Held (df_of c q a1 a2)
  unfolding df_of
  df-held = go (rank_one q a2)
    where
      go : (b : Bool) → Held (cond b (Some (div binary64 two a2)) (general_df c q a1 a2))
      go true = div-fits binary64 two a2
      go false = general-held

-- an entry whose numbers an f64 holds
abbrev EntryHeld : Entry → Type 0
EntryHeld e = Held e.f × Held e.df

tested-held : (c : Cutoffs) (s : Scaled Marked) (beta beta_h : List Float) (b : Basis Marked) → EntryHeld (tested marks c s beta beta_h b).entry
unfolding tested
tested-held c s beta beta_h b = (f-held _ _ _, df-held c _ _ _)

-- ---- what holds of an entry that is not in use, and of each test's, holds of every entry of a run
set-every : {A : Type 0} (P : A → Type 0) (d a : A) → P a → (l : List A) (k : ℕ) → ((i : ℕ) → P (get_or l i d)) → (i : ℕ) → P (get_or (set l k a) i d)
set-every P d a h [] k f i = f i
set-every P d a h (x ∷ l) zero f zero = h
set-every P d a h (x ∷ l) zero f (suc i) = f (suc i)
set-every P d a h (x ∷ l) (suc k) f zero = f zero
set-every P d a h (x ∷ l) (suc k) f (suc i) = set-every P d a h l k (λ j. f (suc j)) i

-- seven entries of such numbers
record Seven (es : List Entry) : Type 0 where
  long : length es ≡ 7
  held : (i : ℕ) → EntryHeld (get_or es i no_entry)

none-seven : Seven (replicate 7 no_entry)
none-seven = record { long = refl; held = λ i. rw (all_alike 7 i no_entry) (tt, tt) }

set-seven : (es : List Entry) (k : ℕ) (e : Entry) → Seven es → EntryHeld e → Seven (set es k e)
set-seven es k e h w = record { long = length-set es k e ∙ h.long; held = set-every EntryHeld no_entry e w es k h.held }

run-seven : (c : Cutoffs) (s : Scaled Marked) (beta beta_h : List Float) (rows : ℕ) (l : Rows) → Seven (run_of marks c s beta beta_h rows l).entries
unfolding run_of coefficients_to with_test coefficient_test contrast_test
run-seven c s beta beta_h rows l = go (eqb rows 0)
  where
    alone : Seven (coefficients_to marks s.p c s beta).entries
    alone =
        fold-keeps (λ (r : Run). Seven r.entries) 0 s.p (λ i r. with_test i (coefficient_test marks c s beta i) r) (record { refused = false; entries = replicate 7 no_entry }) none-seven
        (λ i _ _ r h. set-seven r.entries i (coefficient_test marks c s beta i).entry h (tested-held c s beta (replicate 6 plus_zero) (contrast_basis marks 1 s.p (unit_row s.p i))))

    go : (b : Bool) → Seven (cond b (coefficients_to marks s.p c s beta) (with_test 6 (contrast_test marks c s beta beta_h rows l) (coefficients_to marks s.p c s beta))).entries
    go true = alone
    go false = set-seven (coefficients_to marks s.p c s beta).entries 6 (contrast_test marks c s beta beta_h rows l).entry alone (tested-held c s beta beta_h (contrast_basis marks rows s.p l))

-- ---- for every limit of specimens and every cutoffs
module _ (w : ℕ) (c : Cutoffs) (s : List ℕ) where
  entries-seven : Seven (entries w c s)
  unfolding entries run
  entries-seven = go (eqb (number w c s) 0)
    where
      go : (b : Bool) → Seven (cond b (run c s).entries (replicate 7 no_entry))
      go true = run-seven c (scaled c s) (beta s) (beta_h s) (contrast_rows s) (contrast s)
      go false = none-seven

  -- EACH ENTRY IS READ BACK from the answer bytes whole: F, df, the rank and the mark
  pub file-read-back : (i : ℕ) → i < 7 → entry_from (answer_bytes (entries w c s)) i ≡ get_or (entries w c s) i no_entry
  file-read-back i l = let e = entries-seven.long in let k = entries-seven.held i in read_back (entries w c s) i no_entry (omega arith) k.0 k.1

  module _ (some : 1 ≤ w) (h : number w c s ≡ 0) where
    taken : refusal w s ≡ 0
    taken = go (ℕ_discrete (refusal w s) 0)
      where
        go : Dec (refusal w s ≡ 0) → refusal w s ≡ 0
        go (yes e) = e
        go (no n) = early-number w c s (refusal w s) refl n ∙ h

    facts : AcceptedSeries w s
    facts = accepted-series w s taken

    -- AN ENTRY IS IN USE EXACTLY WHERE ITS RANK IS NOT 0: those of the file's coefficients, and entry 6 where the file has a contrast
    pub file-in-use : (i : ℕ) → in_use (coefficients s) (contrast_rows s) i ≡ not (eqb (get_or (entries w c s) i no_entry).rank 0)
    unfolding run scaled scaled_by
    file-in-use i =
        in-use-is c (scaled c s) (beta s) (beta_h s) (contrast_rows s) (contrast s) (limits w some s facts).coefficients (limits w some s facts).contrasts (contrast-given w some s facts) i
        ∙ ap (λ (es : List Entry). not (eqb (get_or es i no_entry).rank 0)) (run-entries w c s (run c s).entries refl (sym h))

    -- WHAT IS PRINTED: a `coef` line for each coefficient, and a `test` line exactly where the file has a contrast
    pub text-is : text_of (number w c s) (entries w c s) ≡ series_text (coefficients s) (contrast_rows s) (entries w c s)
    text-is = sym (text-accepted (number w c s) (entries w c s) h) ∙ lines_are (coefficients s) (contrast_rows s) (entries w c s) (limits w some s facts).coefficients file-in-use

    -- "Unused entries are zero."
    pub unused-bytes : (i : ℕ) → in_use (coefficients s) (contrast_rows s) i ≡ false → entry_bytes (get_or (entries w c s) i no_entry) ≡ replicate 24 0
    unfolding run scaled scaled_by
    unused-bytes i e =
        ap (λ (es : List Entry). entry_bytes (get_or es i no_entry)) (sym (run-entries w c s (run c s).entries refl (sym h)))
        ∙ ap entry_bytes (unused-entry c (scaled c s) (beta s) (beta_h s) (contrast_rows s) (contrast s) i e) ∙ unused-zero

-- the same of the 168 bytes that an accepting call with a table has filled
pub call-read-back : (w : ℕ) (lab s answer : List ℕ) → returned w lab s answer ≡ 0 → (i : ℕ) → i < 7 → entry_from (written w lab s answer) i ≡ get_or (entries w (cutoffs_in lab) s) i no_entry
call-read-back w lab s answer h i l = rw (accepted-fills (series_call w s) lab answer h) (file-read-back w (cutoffs_in lab) s i l)

-- SO THE BYTES DETERMINE THE ANSWER: equal bytes are equal entries
pub file-determined : (w v : ℕ) (c d : Cutoffs) (s t : List ℕ) → answer_bytes (entries w c s) ≡ answer_bytes (entries v d t) → entries w c s ≡ entries v d t
file-determined w v c d s t same =
    let a = entries-seven w c s in
    let b = entries-seven v d t in
    let m = a.long in
    let n = b.long in
    ext_get_or no_entry (entries w c s) (entries v d t) (m ∙ sym n)
    (λ i l. determined (entries w c s) (entries v d t) i no_entry l (omega arith) (a.held i).0 (a.held i).1 (b.held i).0 (b.held i).1 same)
