-- The input of a Kenward–Roger run from the file and from the converted file. Each number that a change of converter multiplies is the f64 product with its power of
-- two; where the numbers, scaled, are f64 numbers again, as the marks of a run that is inside say, the refusals before any computing stay.
use Prim.Native.Nat.{ℕ, ◌<◌, ◌≤◌, max}
use mathlib.Core.Path.{◌≡◌, refl, ap, ◌∙◌}
use mathlib.Core.Bool.{true, false}
use mathlib.Core.List.{List}
use lib.Dec.{T}
use lib.IntN.{ℤ, ◌+ℤ◌}
use lib.ListN.{get_or}
use lib.Ieee.{nan, binary64, fits, mul}
use Rattle.arithmetic.specs.Scale.{scale, power_of_two}
use Rattle.algebra.specs.Kind.{floats}
use Rattle.algebra.specs.Product.{at}
use Rattle.records.specs.format.Scan.{any}
use Rattle.records.specs.format.Kinds.{Table, kind_at, kenward_roger_kinds, width}
use Rattle.records.specs.format.File.{count, cell, beyond}
use Rattle.records.specs.readers.Series.{coefficients, contrast_rows, sizes, kinds, sigma2, beta, beta_h, contrast, reasons}
use Rattle.records.proofs.readers.AcceptedSeries.{AcceptedSeries}
use Rattle.records.proofs.readers.SeriesInput.{series-sized}
use Rattle.converter.specs.Converted.{kenward_roger_shift, kenward_roger_change, converted}
use Rattle.converter.specs.ReadAlike.{Exact, numbered, ReadAlike}
use Rattle.converter.proofs.Among.{among}
use Rattle.converter.proofs.Asked.{AskedExact, AskedKinds, AskedAgain, cell-product, column-product, lines-product, estimates-again, lines-again, hypotheses-again, none}
use Rattle.converter.proofs.ReadAlike.{exact-cells}
use Rattle.records.proofs.readers.SameSeries.{kinds-same}
use Rattle.converter.proofs.Series.{series-numbered, series-alike}
use Rattle.converter.proofs.Refusals.{reasons-same}

-- sigma2 and what the tests are asked are, scaled, f64 numbers again
pub record InputExact (k : ℤ) (m : ℕ → ℤ) (s : List ℕ) : Type 0 where
  pub variance : T (fits binary64 (scale (k +ℤ k) (sigma2 s)))
  pub asked : AskedExact k m (coefficients s) (contrast_rows s) (beta s) (beta_h s) (contrast s)

-- ---- so are the numbers in all cells that the sizes leave these kinds, and with them the values of all records that hold them
series-kinds : (s : List ℕ) → AskedKinds (kinds s) s (coefficients s)
unfolding kind_at kenward_roger_kinds sizes
series-kinds s = record { estimates = refl; lines = refl; hypotheses = refl }

module _ (w : ℕ) (k : ℤ) (m : ℕ → ℤ) (s : List ℕ) (c : AcceptedSeries w s) (h : InputExact k m s) where
  variance-again : AskedAgain k m (kinds s) s 7
  unfolding kind_at kenward_roger_kinds width kenward_roger_shift
  variance-again n r j i = rw (none n i.number, none r i.row, none j i.column) h.variance

  pub input-exact : Exact (kenward_roger_change k m) s
  unfolding beta beta_h contrast
  input-exact =
      let p6 : coefficients s ≤ 6 = (series-sized w s c).coefficients in
      let q6 : contrast_rows s ≤ 6 = (series-sized w s c).contrast in
      let a = series-kinds s in
      exact-cells (kenward_roger_change k m) (kinds s) s c.formed.once c.formed.within (series-numbered k m (sizes s))
      (λ kind n r j e. among 7 8 9 10 (AskedAgain k m (kinds s) s) variance-again (estimates-again k m (kinds s) s (coefficients s) a p6 q6 h.asked)
      (lines-again k m (kinds s) s (coefficients s) a p6 q6 h.asked) (hypotheses-again k m (kinds s) s (coefficients s) a p6 q6 h.asked) kind e n r j)

-- ---- the input of the run: each number times its power of two, as f64 multiplication gives it
module _ (k : ℤ) (m : ℕ → ℤ) (s : List ℕ) (within : any (count s) (beyond (kinds s) s) ≡ false) (hp : coefficients s ≤ 6) (hr : contrast_rows s ≤ 6) where
  abbrev s' : List ℕ
  s' = converted (kenward_roger_change k m) s

  alike : ReadAlike (kenward_roger_change k m) (kinds s) (kinds s) s (converted (kenward_roger_change k m) s)
  alike = series-alike k m s (sizes s)

  pub p-same : coefficients s' ≡ coefficients s
  p-same = ap (max 1) (alike.same_columns 1)

  pub r-same : contrast_rows s' ≡ contrast_rows s
  r-same = alike.same_rows 9

  same-kinds : kinds s' ≡ kinds s
  same-kinds = kinds-same alike.alike

  named : (kind : ℕ) → (kenward_roger_change k m).rewrites kind ≡ true → numbered (kind_at (kinds s) kind) ≡ false
  named = series-numbered k m (sizes s)

  pub sigma2-product : sigma2 s' ≡ mul binary64 (sigma2 s) (power_of_two (k +ℤ k))
  unfolding kenward_roger_shift
  sigma2-product = ap (λ (t : Table). cell t s' 7 0 0 0) same-kinds ∙ cell-product k m (kinds s) (kinds s) s alike within named 7 0 0 refl

  pub beta-product : (i : ℕ) → i < coefficients s → get_or (beta s') i nan ≡ mul binary64 (get_or (beta s) i nan) (power_of_two k)
  unfolding beta kenward_roger_shift
  beta-product = column-product k m (kinds s) (kinds s) s alike within named (kinds s') (coefficients s) (coefficients s') same-kinds p-same hp 8 refl

  pub beta_h-product : (i : ℕ) → i < coefficients s → get_or (beta_h s') i nan ≡ mul binary64 (get_or (beta_h s) i nan) (power_of_two k)
  unfolding beta_h kenward_roger_shift
  beta_h-product = column-product k m (kinds s) (kinds s) s alike within named (kinds s') (coefficients s) (coefficients s') same-kinds p-same hp 10 refl

  pub contrast-product : (i j : ℕ) → i < contrast_rows s → j < coefficients s → at floats (contrast s') i j ≡ mul binary64 (at floats (contrast s) i j) (power_of_two (m i))
  unfolding contrast
  contrast-product =
      lines-product k m (kinds s) (kinds s) s alike within named (kinds s') (coefficients s) (coefficients s') same-kinds p-same hp (contrast_rows s) (contrast_rows s') r-same hr

-- ---- together: of a file that is not refused, with an input that scales exactly, the refusals before any computing stay
pub reasons-converted : (w : ℕ) (k : ℤ) (m : ℕ → ℤ) (s : List ℕ) → AcceptedSeries w s → InputExact k m s → reasons w (converted (kenward_roger_change k m) s) ≡ reasons w s
reasons-converted w k m s c h = reasons-same k m s c.formed.within (input-exact w k m s c h) w
