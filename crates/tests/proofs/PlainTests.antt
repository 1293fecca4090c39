-- THE VALUES OF A MARKED RUN ARE THOSE OF THE PLAIN RUN, for both whole tests: a mark never changes F, df, rank or a refusal.
use Prim.Native.Nat.{ℕ, ◌≤◌}
use mathlib.Core.Path.{◌≡◌, refl, sym}
use mathlib.Core.Bool.{Bool}
use mathlib.Core.List.{List}
use lib.Ieee.{Float}
use Rattle.arithmetic.specs.declared.Marked.{Marked}
use Rattle.algebra.specs.Kind.{floats, marks}
use Rattle.algebra.specs.Small.{Rows}
use Rattle.algebra.proofs.ValueLaws.{each_map, marks-floats, sum_cells-alike}
use Rattle.arithmetic_cutoffs.specs.declared.Cutoffs.{Cutoffs}
use Rattle.adjustment.specs.Adjusted.{Adjustment}
use Rattle.tests.specs.declared.Entry.{Entry}
use Rattle.tests.specs.VarianceDf.{gradient_values, relative_variance}
use Rattle.tests.specs.KenwardRoger.{scaled_by, run_of}
use Rattle.tests.specs.Satterthwaite.{Inputs, satterthwaite}
use Rattle.tests.specs.Verdict.{verdict, verdicts, RunSurvives}
use Rattle.tests.proofs.VarianceLaws.{gradient_values-at}
use Rattle.tests.proofs.TestsAlike.{EntriesAlike, scaled_by-alike, run_of-alike}
use Rattle.tests.proofs.SatterthwaiteAlike.{satterthwaite-alike}
use Rattle.tests.proofs.SatterthwaiteSurvives.{SameOutcome}

-- plain numbers have no mark to compare with
abbrev unmarked : Bool → Bool → Type 0
unmarked x y = Unit {0}

verdict-is : (e e' : Entry) → EntriesAlike unmarked e e' → verdict e ≡ verdict e'
verdict-is e e' h = λ i. record { f = h.f i; df = h.df i; rank = h.rank i }

-- from the same p, number of matrices, Φ, sigma2 and adjustment, and the same β, β_H and contrast
pub plain-run : (c : Cutoffs) (p n : ℕ) (phi : Rows) (sigma2 : Float) (a : Adjustment) (beta beta_h : List Float) (rows : ℕ) (l : Rows)
    → RunSurvives (run_of floats c (scaled_by floats p n phi sigma2 a) beta beta_h rows l) (run_of marks c (scaled_by marks p n phi sigma2 a) beta beta_h rows l)
unfolding verdicts
plain-run c p n phi sigma2 a beta beta_h rows l =
    let r = run_of-alike marks-floats c unmarked (λ x y e. tt) tt (scaled_by-alike marks-floats p n phi sigma2 a) beta beta_h rows l in
    record { refusal = r.refused; same = each_map verdict verdict verdict-is r.entries }

pub plain-satterthwaite : (c : Cutoffs) (s : Inputs) → SameOutcome (satterthwaite floats c s) (satterthwaite marks c s)
plain-satterthwaite c s =
    let t = satterthwaite-alike marks-floats c s unmarked (λ x y e. tt) in
    record { refused = t.refused; f = t.entry.f; df = t.entry.df; rank = t.entry.rank }

-- and r, which the test makes of plain numbers, is the value that marked steps would give it
pub plain_form : (n : ℕ) → n ≤ 6 → (g : List Marked) (a : Rows) → (relative_variance marks n g a).value ≡ relative_variance floats n (gradient_values marks n g) a
unfolding relative_variance
plain_form n h g a =
    sum_cells-alike marks-floats n n _ _ (λ i j l m. marks-floats.times (marks-floats.times (sym (gradient_values-at marks n g i l h)) refl) (sym (gradient_values-at marks n g j m h)))
