-- The contrast of a file that the reader does not refuse has finite cells that are not all zero, so that its rank is at least 1.
use Prim.Native.Nat.{ℕ, ◌<◌, ◌≤◌}
use mathlib.Core.Path.{◌≡◌, refl, sym, ap, ◌∙◌, subst}
use mathlib.Core.Bool.{Bool, true, false, not, true≢false, ◌&&◌}
use mathlib.Core.List.{List}
use lib.Dec.{T, eqb}
use borrow.Author.Tests.{ne_eqb}
use Rattle.arithmetic.specs.Numbers.{is_zero, is_finite}
use Rattle.algebra.specs.Kind.{floats}
use Rattle.algebra.specs.Product.{at}
use Rattle.tests_basis.proofs.RankStart.{Contrast}
use Rattle.records.specs.format.Scan.{any}
use Rattle.records.specs.readers.Series.{coefficients, contrast_rows, kinds, cell_value, zero_contrast, contrast}
use Rattle.records.proofs.format.ScanLaws.{any_found}
use Rattle.records.proofs.format.CellLaws.{cell-finite}
use Rattle.records.proofs.readers.AcceptedSeries.{AcceptedSeries}
use Rattle.records.proofs.readers.SeriesInput.{contrast-at, contrast-fits}
use Rattle.records_series.proofs.Accepted.{limits}

module _ (w : ℕ) (some : 1 ≤ w) (s : List ℕ) (facts : AcceptedSeries w s) where
  contrast-cell : (i j : ℕ) → i < contrast_rows s → j < coefficients s → at floats (contrast s) i j ≡ cell_value s 9 i j
  contrast-cell = contrast-at s (limits w some s facts).coefficients (limits w some s facts).contrasts

  some-cell : (contrast_rows s ≡ 0 → ⊥) → any (contrast_rows s) (λ r. any (coefficients s) (λ c. not (is_zero (cell_value s 9 r c)))) ≡ true
  unfolding zero_contrast
  some-cell h = go (eqb (contrast_rows s) 0) (any (contrast_rows s) (λ r. any (coefficients s) (λ c. not (is_zero (cell_value s 9 r c))))) (ne_eqb (contrast_rows s) 0 h) facts.nonzero
    where
      go : (a b : Bool) → a ≡ false → (not a && not b) ≡ false → b ≡ true
      go a true e f = refl
      go true false e f = absurd (true≢false e)
      go false false e f = absurd (true≢false f)

  pub contrast-given : (contrast_rows s ≡ 0 → ⊥) → Contrast (contrast_rows s) (coefficients s) (contrast s)
  contrast-given h =
      let r = any_found (contrast_rows s) (λ r. any (coefficients s) (λ c. not (is_zero (cell_value s 9 r c)))) (some-cell h) in
      let k = any_found (coefficients s) (λ c. not (is_zero (cell_value s 9 r.index c))) r.passes in
      record {
        finite = λ i j a b. subst (λ (x : Bool). T x) (sym (ap is_finite (contrast-cell i j a b) ∙ cell-finite (kinds s) s 9 0 i j facts.finite)) tt;
        fine = contrast-fits s (limits w some s facts).coefficients (limits w some s facts).contrasts;
        i = r.index;
        j = k.index;
        in_rows = r.below;
        in_columns = k.below;
        some = ap is_zero (contrast-cell r.index k.index r.below k.below) ∙ not-true (is_zero (cell_value s 9 r.index k.index)) k.passes;
      }
    where
      not-true : (b : Bool) → not b ≡ true → b ≡ false
      not-true true e = sym e
      not-true false e = refl
