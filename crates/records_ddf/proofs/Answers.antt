-- The answer of the Satterthwaite call: its entry is in use exactly where the file is accepted, and its 24 bytes give it back. No premise is left.
use Prim.Native.Nat.{ℕ, ◌<◌, ◌≤◌}
use native.Mathlib.Omega.{arith}
use native.Mathlib.Decide.{ℕ_discrete}
use mathlib.Core.Path.{◌≡◌, refl, sym, ap, ◌∙◌, subst}
use mathlib.Core.Bool.{Bool, true, false, not, cond, ◌||◌}
use mathlib.Core.List.{List, [], ◌∷◌, append-nil}
use lib.Dec.{T, eqb}
use lib.ListN.{get_or}
use lib.Ieee.{Float, nan, binary64, fits, sub, mul, div, lt}
use lib.Ieee.Fits.{cond-fits, nan-fits, mul-fits, div-fits}
use borrow.Author.Tests.{eq-eqb, ne_eqb}
use Rattle.arithmetic.specs.Numbers.{plus_zero, of_count}
use Rattle.arithmetic.specs.declared.Marked.{Marked}
use Rattle.arithmetic.specs.Marks.{marked_mul, marked_div}
use Rattle.arithmetic.proofs.MarkLaws.{mul-value, div_value}
use Rattle.arithmetic_cutoffs.specs.declared.Cutoffs.{Cutoffs}
use Rattle.algebra.specs.Kind.{floats, marks}
use Rattle.algebra.specs.Jacobi.{two}
use Rattle.algebra.specs.Small.{Rows}
use Rattle.algebra.proofs.TableLaws.{row_at}
use Rattle.std.specs.Prelude.{Option, Some, None}
use Rattle.tests.specs.declared.Entry.{Entry}
use Rattle.tests.specs.Answer.{number_of, float_of, no_entry}
use Rattle.tests.specs.VarianceDf.{entry_at, relative_gradient, gradient_values, relative_variance, df_of_relative, variance_df}
use Rattle.tests.specs.PooledDf.{tolerance, all_within, any_low, expected, pooled, get_fstat_ddf}
use Rattle.tests.specs.Satterthwaite.{Inputs, squares_over, gradient_at, capped, component_df, component_dfs, any_none, several_df, variances, directions, jx_stack, f_one, f_several, df_one, df_several, one_row, several_rows, satterthwaite}
use Rattle.records.specs.format.Layout.{entry_bytes, answer_bytes, entry_from}
use Rattle.records.specs.readers.Parameters.{contrast_rows, refusal, inputs}
use Rattle.records.specs.readers.CutoffTable.{cutoffs_in}
use Rattle.records.proofs.calls.CallLaws.{accepted-fills}
use Rattle.records.specs.calls.SatterthwaiteCall.{test_call, outcome, number, entry, returned, written}
use Rattle.records.proofs.readers.CutoffLaws.{cap-fits}
use Rattle.records_answer_bytes.proofs.LayoutLaws.{Held, number-held, read_back}
use Rattle.records_ddf.proofs.Judged.{judged-early, contrast-rows-within}
use Rattle.tests.specs.Both.{is_positive, square_one}

-- ---- every F and df is an f64: a product, a quotient, 2, or the cap
float_fits : (n : Option Float) → Held n → T (fits binary64 (float_of n))
float_fits (Some x) h = h
float_fits None h = nan-fits binary64

relative-held : (r : Float) → Held (df_of_relative r)
unfolding df_of_relative
relative-held r = go (is_positive r)
  where
    go : (b : Bool) → Held (cond b (Some (div binary64 two r)) None)
    go true = div-fits binary64 two r
    go false = tt

variance-held : (n : ℕ) (a : Rows) (v : Marked) (g : List Marked) → Held (variance_df marks n a v g)
unfolding variance_df
variance-held n a v g = go (is_positive v.value)
  where
    go : (b : Bool) → Held (cond b (df_of_relative (relative_variance floats n (gradient_values marks n (relative_gradient marks n v g)) a)) None)
    go true = relative-held (relative_variance floats n (gradient_values marks n (relative_gradient marks n v g)) a)
    go false = tt

capped-held : (c : Cutoffs) → T (fits binary64 c.cap) → (n : Option Float) → Held n → Held (capped c n)
unfolding capped
capped-held c h None k = tt
capped-held c h (Some x) k = cond-fits binary64 (lt c.cap x) c.cap x h k

pooled-fits : (n : ℕ) (nu : List Float) (tol : Float) → T (fits binary64 (get_or nu 0 nan)) → T (fits binary64 (get_fstat_ddf n nu tol))
unfolding get_fstat_ddf pooled fits
pooled-fits n nu tol h =
    cond-fits binary64 (eqb n 1 || all_within n nu tol) (get_or nu 0 nan) (cond (any_low n nu) two (pooled n (expected n nu))) h
    (cond-fits binary64 (any_low n nu) two (pooled n (expected n nu)) tt (div-fits binary64 (mul binary64 two (expected n nu)) (sub binary64 (expected n nu) (of_count n))))

several-held : (q : ℕ) (nu : List Float) → T (fits binary64 (get_or nu 0 nan)) → Held (several_df q nu)
unfolding several_df
several-held q nu h = go (any_none q nu)
  where
    go : (b : Bool) → Held (cond b None (number_of (get_fstat_ddf q nu tolerance)))
    go true = tt
    go false = number-held (get_fstat_ddf q nu tolerance) (pooled-fits q nu tolerance h)

product-fits : (a b : Marked) → T (fits binary64 (marked_mul a b).value)
product-fits a b = subst (λ (x : Float). T (fits binary64 x)) (sym (mul-value a b)) (mul-fits binary64 a.value b.value)

quotient_fits : (a b : Marked) → T (fits binary64 (marked_div a b).value)
quotient_fits a b = subst (λ (x : Float). T (fits binary64 x)) (sym (div_value a b)) (div-fits binary64 a.value b.value)

module _ (c : Cutoffs) (s : Inputs) where
  one-f-held : Held (one_row marks c s).entry.f
  unfolding one_row f_one square_one
  one-f-held = number-held _ (product-fits _ _)

  one-df-held : Held (one_row marks c s).entry.df
  unfolding one_row df_one
  one-df-held = variance-held _ _ _ _

  several-f-held : Held (several_rows marks c s).entry.f
  unfolding several_rows f_several squares_over
  several-f-held = number-held _ (quotient_fits _ _)

  module _ (cap : T (fits binary64 c.cap)) (some : 0 < s.q) (few : s.q ≤ 6) where
    component-fits : (k : ℕ) → T (fits binary64 (float_of (component_df marks c s.n s.q s.a (variances marks c s) (directions marks c s) (jx_stack marks c s) k)))
    unfolding component_df
    component-fits k =
        let n : Option Float = variance_df marks s.n s.a (entry_at marks (variances marks c s) k) (gradient_at marks s.n s.q (directions marks c s) (jx_stack marks c s) k) in
        float_fits (capped c n) (capped-held c cap n (variance-held _ _ _ _))

    first_fits : T (fits binary64 (get_or (component_dfs marks c s.n s.q s.a (variances marks c s) (directions marks c s) (jx_stack marks c s)) 0 nan))
    unfolding component_dfs
    first_fits =
        subst (λ (x : Float). T (fits binary64 x))
        (sym (row_at plus_zero 6 s.q (λ k. float_of (component_df marks c s.n s.q s.a (variances marks c s) (directions marks c s) (jx_stack marks c s) k)) 0 nan some few))
        (component-fits 0)

    several-df-held : Held (several_rows marks c s).entry.df
    unfolding several_rows df_several
    several-df-held = several-held s.q (component_dfs marks c s.n s.q s.a (variances marks c s) (directions marks c s) (jx_stack marks c s)) first_fits

    test-held : Held (satterthwaite marks c s).entry.f × Held (satterthwaite marks c s).entry.df
    unfolding satterthwaite
    test-held = go (eqb s.q 1)
      where
        go : (b : Bool) → Held (cond b (one_row marks c s) (several_rows marks c s)).entry.f × Held (cond b (one_row marks c s) (several_rows marks c s)).entry.df
        go true = (one-f-held, one-df-held)
        go false = (several-f-held, several-df-held)

  -- "Rank is q"
  test-rank : (satterthwaite marks c s).entry.rank ≡ s.q
  unfolding satterthwaite one_row several_rows
  test-rank = go (eqb s.q 1)
    where
      go : (b : Bool) → (cond b (one_row marks c s) (several_rows marks c s)).entry.rank ≡ s.q
      go true = refl
      go false = refl

-- ---- the entry of a file
module _ (c : Cutoffs) (s : List ℕ) where
  accepted-entry : number c s ≡ 0 → entry c s ≡ (satterthwaite marks c (inputs s)).entry
  unfolding entry outcome
  accepted-entry h = rw (eq-eqb (number c s) 0 h)

  refused-entry : (number c s ≡ 0 → ⊥) → entry c s ≡ no_entry
  unfolding entry
  refused-entry h = rw (ne_eqb (number c s) 0 h)

  taken : number c s ≡ 0 → refusal s ≡ 0
  taken h = go (ℕ_discrete (refusal s) 0)
    where
      go : Dec (refusal s ≡ 0) → refusal s ≡ 0
      go (yes e) = e
      go (no n) = (judged-early c s (refusal s) no_entry refl n refl).1 ∙ h

  accepted-rank : number c s ≡ 0 → (entry c s).rank ≡ contrast_rows s
  unfolding inputs
  accepted-rank h = ap (λ (e : Entry). e.rank) (accepted-entry h) ∙ test-rank c (inputs s)

  rows-within : number c s ≡ 0 → (0 < (inputs s).q) × ((inputs s).q ≤ 6)
  unfolding inputs
  rows-within h = contrast-rows-within s (taken h)

  -- THE ENTRY IS IN USE EXACTLY WHERE THE FILE IS ACCEPTED: its rank is not 0
  pub file-in-use : not (eqb (entry c s).rank 0) ≡ eqb (number c s) 0
  file-in-use = go (ℕ_discrete (number c s) 0)
    where
      go : Dec (number c s ≡ 0) → not (eqb (entry c s).rank 0) ≡ eqb (number c s) 0
      go (yes h) = let e = accepted-rank h in rw (eq-eqb (number c s) 0 h, ne_eqb (entry c s).rank 0 (λ z. omega arith))
      go (no n) = rw (refused-entry n, ne_eqb (number c s) 0 n)

  module _ (cap : T (fits binary64 c.cap)) where
    entry-held : Held (entry c s).f × Held (entry c s).df
    entry-held = go (ℕ_discrete (number c s) 0)
      where
        go : Dec (number c s ≡ 0) → Held (entry c s).f × Held (entry c s).df
        go (no n) = rw (refused-entry n) (tt, tt)
        go (yes h) = rw (accepted-entry h) (test-held c (inputs s) cap (rows-within h).0 (rows-within h).1)

    entry-back : entry_from (entry_bytes (entry c s)) 0 ≡ entry c s
    unfolding answer_bytes
    entry-back =
        ap (λ (b : List ℕ). entry_from b 0) (sym (append-nil (entry_bytes (entry c s))))
        ∙ read_back (entry c s ∷ []) 0 no_entry (omega arith) entry-held.0 entry-held.1

-- ---- with every table: its cap is an f64 number, read from bits
-- THE ENTRY IS READ BACK from the 24 bytes whole: F, df, the rank and the mark
pub file-read-back : (lab s : List ℕ) → entry_from (entry_bytes (entry (cutoffs_in lab) s)) 0 ≡ entry (cutoffs_in lab) s
file-read-back lab s = entry-back (cutoffs_in lab) s (cap-fits lab)

-- the same of the bytes that an accepting call has filled
pub call-read-back : (lab s answer : List ℕ) → returned lab s answer ≡ 0 → entry_from (written lab s answer) 0 ≡ entry (cutoffs_in lab) s
call-read-back lab s answer h = rw (accepted-fills (test_call s) lab answer h) (file-read-back lab s)

-- SO THE BYTES DETERMINE THE ANSWER: equal bytes are equal entries
pub file-determined : (lab lab' s t : List ℕ) → entry_bytes (entry (cutoffs_in lab) s) ≡ entry_bytes (entry (cutoffs_in lab') t) → entry (cutoffs_in lab) s ≡ entry (cutoffs_in lab') t
file-determined lab lab' s t same = sym (file-read-back lab s) ∙ ap (λ (b : List ℕ). entry_from b 0) same ∙ file-read-back lab' t
