-- "Every F and df is a number, or none where the Rust has NaN": the F that an entry of a run gives is no NaN.
use Prim.Native.Nat.{ℕ, zero, suc, ◌<◌}
use native.Mathlib.Omega.{arith}
use native.Mathlib.Decide.{dec_lt, ℕ_discrete}
use mathlib.Core.Path.{◌≡◌, refl, sym, ap, ◌∙◌, subst}
use mathlib.Core.Bool.{Bool, true, false, cond}
use mathlib.Core.List.{List}
use lib.Dec.{eqb}
use lib.ListN.{length, get_or, set, replicate}
use lib.Seq.{set_out, get_or-set_same, get_or-set_other}
use lib.Ieee.{Float, is_nan}
use Rattle.algebra.specs.Kind.{Arith}
use Rattle.algebra.specs.Small.{Rows}
use Rattle.algebra.proofs.FoldLaws.{fold-keeps}
use Rattle.arithmetic_cutoffs.specs.declared.Cutoffs.{Cutoffs}
use Rattle.std.specs.Prelude.{Option, Some, None}
use Rattle.tests.specs.declared.Entry.{Entry}
use Rattle.tests.specs.Answer.{number_of, no_entry}
use Rattle.tests.specs.declared.Basis.{Basis}
use Rattle.tests.specs.Moments.{f_of}
use Rattle.tests.specs.declared.Tested.{Tested}
use Rattle.tests.specs.declared.Run.{Run}
use Rattle.tests.specs.KenwardRoger.{Scaled, tested, coefficient_test, contrast_test, with_test, coefficients_to, run_of}

-- a number that is given is no NaN
abbrev pub NoNan : Option Float → Type 0
NoNan n = (x : Float) → n ≡ Some x → is_nan x ≡ false

pub none-given : NoNan None
none-given x e = absurd (let z : ◌≡◌ {A = ℕ} 0 1 = cc in omega arith)

number_of-given : (y : Float) → NoNan (number_of y)
unfolding number_of
number_of-given y = go (is_nan y) refl
  where
    go : (b : Bool) → is_nan y ≡ b → NoNan (cond b None (Some y))
    go true e = none-given
    go false e = λ x q. let z : y ≡ x = cc in subst (λ (v : Float). is_nan v ≡ false) z e

f_of-given : (q : ℕ) (a b : Option Float) → NoNan (f_of q a b)
unfolding f_of
f_of-given q None b = none-given
f_of-given q (Some s) None = none-given
f_of-given q (Some s) (Some x) = number_of-given _

-- one of the replicated entries, or none
no-entry-given : (n i : ℕ) → NoNan (get_or (replicate n no_entry) i no_entry).f
no-entry-given n i = subst (λ (e : Entry). NoNan e.f) (sym (same n i)) none-given
  where
    same : (n i : ℕ) → get_or (replicate n no_entry) i no_entry ≡ no_entry
    same zero i = refl
    same (suc n) zero = refl
    same (suc n) (suc i) = same n i

-- ---- a test, and a run
abbrev AllGiven : List Entry → Type 0
AllGiven es = (i : ℕ) → NoNan (get_or es i no_entry).f

set_given : (es : List Entry) (k : ℕ) (e : Entry) → AllGiven es → NoNan e.f → AllGiven (set es k e)
set_given es k e h g i = go (ℕ_discrete i k) (dec_lt k (length es))
  where
    go : Dec (i ≡ k) → Dec (k < length es) → NoNan (get_or (set es k e) i no_entry).f
    go (no n) d = subst (λ (x : Entry). NoNan x.f) (sym (get_or-set_other es k i e no_entry n)) (h i)
    go (yes q) (yes l) = subst (λ (x : Entry). NoNan x.f) (sym (ap (λ (j : ℕ). get_or (set es k e) j no_entry) q ∙ get_or-set_same es k e no_entry l)) g
    go (yes q) (no l) = subst (λ (x : List Entry). NoNan (get_or x i no_entry).f) (sym (set_out es k e (omega arith))) (h i)

module _ {A : Type 0} (N : Arith A) (c : Cutoffs) (s : Scaled A) where
  tested-given : (beta beta_h : List Float) (b : Basis A) → NoNan (tested N c s beta beta_h b).entry.f
  unfolding tested
  tested-given beta beta_h b = f_of-given _ _ _

  with-given : (i : ℕ) (t : Tested) (r : Run) → AllGiven r.entries → NoNan t.entry.f → AllGiven (with_test i t r).entries
  unfolding with_test
  with-given i t r h g = set_given r.entries i t.entry h g

  coefficients-given : (k : ℕ) (beta : List Float) → AllGiven (coefficients_to N k c s beta).entries
  unfolding coefficients_to coefficient_test
  coefficients-given k beta = fold-keeps (λ (r : Run). AllGiven r.entries) 0 k _ _ (no-entry-given 7) (λ i a b r h. with-given i _ r h (tested-given beta _ _))

  -- THE F OF EACH ENTRY
  pub run-given : (beta beta_h : List Float) (rows : ℕ) (l : Rows) (i : ℕ) → NoNan (get_or (run_of N c s beta beta_h rows l).entries i no_entry).f
  unfolding run_of contrast_test
  run-given beta beta_h rows l i = go (eqb rows 0)
    where
      go : (b : Bool) → NoNan (get_or (cond b (coefficients_to N s.p c s beta) (with_test 6 (contrast_test N c s beta beta_h rows l) (coefficients_to N s.p c s beta))).entries i no_entry).f
      go true = coefficients-given s.p beta i
      go false = with-given 6 _ _ (coefficients-given s.p beta) (tested-given beta beta_h _) i
