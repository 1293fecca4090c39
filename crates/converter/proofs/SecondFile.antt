-- An archive's second file under another converter, from the one law that it is read alike: the same sizes; β, β_H and the contrast's rows as f64 multiplication gives them; and where they
-- scale exactly the same refusals.
use Prim.Native.Nat.{ℕ, ◌<◌, ◌≤◌, max}
use native.Mathlib.Omega.{arith}
use mathlib.Core.Path.{◌≡◌, refl, ap, ◌∙◌}
use mathlib.Core.Bool.{Bool, true, false, not, ◌&&◌}
use mathlib.Core.List.{List}
use lib.IntN.{ℤ}
use lib.ListN.{get_or}
use lib.Ieee.{nan, binary64, mul}
use Rattle.arithmetic.specs.Numbers.{plus_zero, is_zero}
use Rattle.arithmetic.specs.Scale.{power_of_two}
use Rattle.arithmetic.proofs.PlainLaws.{zero-scale}
use Rattle.algebra.specs.Kind.{floats}
use Rattle.algebra.specs.Product.{at}
use Rattle.algebra.proofs.TableLaws.{row_at, table_at}
use Rattle.records.specs.declared.Sizes.{Sizes}
use Rattle.records.specs.declared.Value.TheVariants.{Float as FloatBits}
use Rattle.records.specs.format.Scan.{any}
use Rattle.records.specs.format.Kinds.{Table, kind_at, width, test_kinds, limits, test_table}
use Rattle.records.specs.format.File.{count, cell, present, beyond, form_reasons}
use Rattle.records.specs.format.Order.{order_reasons}
use Rattle.records.specs.readers.SecondFile.{coefficients, contrast_rows, sizes, kinds, cell_value, zero_contrast, reader, formed_for, value_reasons, reasons, beta, beta_h, contrast}
use Rattle.records.proofs.format.ScanLaws.{any_same}
use Rattle.records.proofs.readers.ReaderLaws.{WellFormed}
use Rattle.converter.specs.Converted.{kenward_roger_shift, kenward_roger_change, converted}
use Rattle.converter.specs.ReadAlike.{Exact, OnFloats, is_number, numbered, ReadAlike}
use Rattle.converter.proofs.Among.{among}
use Rattle.converter.proofs.ReadAlike.{converted-reads-alike, exact-cells}
use Rattle.converter.proofs.Asked.{AskedExact, AskedKinds, AskedAgain, column-product, lines-product, estimates-again, lines-again, hypotheses-again}

-- β, contrast and β_H: f64 bits, in cells that the fields name, at any sizes; a record of kind 7 would be a bad one
tests-floats : (k : ℤ) (m : ℕ → ℤ) (z : Sizes) → OnFloats (kenward_roger_change k m) (test_kinds z)
unfolding kind_at test_kinds
tests-floats k m z = among 7 8 9 10 (λ j. (kind_at (test_kinds z) j).value ≡ FloatBits) refl refl refl refl

tests-numbered : (k : ℤ) (m : ℕ → ℤ) (z : Sizes) (kind : ℕ) → (kenward_roger_change k m).rewrites kind ≡ true → numbered (kind_at (test_kinds z) kind) ≡ false
unfolding kind_at test_kinds is_number
tests-numbered k m z = among 7 8 9 10 (λ j. numbered (kind_at (test_kinds z) j) ≡ false) refl refl refl refl

tests-kinds : (u : List ℕ) → AskedKinds (kinds u) u (coefficients u)
unfolding kind_at test_kinds sizes
tests-kinds u = record { estimates = refl; lines = refl; hypotheses = refl }

-- ---- where the numbers of a second file stand
module _ (u : List ℕ) (hp : coefficients u ≤ 6) where
  pub beta-at : (i : ℕ) → i < coefficients u → get_or (beta u) i nan ≡ cell_value u 8 i 0
  unfolding beta
  beta-at i l = row_at plus_zero 6 (coefficients u) (λ i. cell_value u 8 i 0) i nan l hp

  pub beta_h-at : (i : ℕ) → i < coefficients u → get_or (beta_h u) i nan ≡ cell_value u 10 i 0
  unfolding beta_h
  beta_h-at i l = row_at plus_zero 6 (coefficients u) (λ i. cell_value u 10 i 0) i nan l hp

  pub contrast-at : contrast_rows u ≤ 6 → (i j : ℕ) → i < contrast_rows u → j < coefficients u → at floats (contrast u) i j ≡ cell_value u 9 i j
  unfolding contrast
  contrast-at hr i j o l = table_at plus_zero 6 6 (contrast_rows u) (coefficients u) (cell_value u 9) i j nan o l hr hp

module _ (k : ℤ) (m : ℕ → ℤ) (u : List ℕ) where
  abbrev u' : List ℕ
  u' = converted (kenward_roger_change k m) u

  alike : ReadAlike (kenward_roger_change k m) test_table (kinds u) u (converted (kenward_roger_change k m) u)
  alike = converted-reads-alike (kenward_roger_change k m) test_table (kinds u) u (tests-floats k m (limits 1))

  pub p-same : coefficients (converted (kenward_roger_change k m) u) ≡ coefficients u
  p-same = ap (max 1) (alike.same_rows 8)

  pub r-same : contrast_rows (converted (kenward_roger_change k m) u) ≡ contrast_rows u
  r-same = alike.same_rows 9

  sizes-same : sizes u' ≡ sizes u
  unfolding sizes
  sizes-same = rw (alike.same_rows 8, alike.same_rows 9, alike.same_rows 10)

  kinds-same : kinds u' ≡ kinds u
  kinds-same = ap test_kinds sizes-same

  form-same : form_reasons test_table (kinds u') u' ≡ form_reasons test_table (kinds u) u
  form-same = ap (λ (t : Table). form_reasons test_table t u') kinds-same ∙ alike.same_form

  named : (kind : ℕ) → (kenward_roger_change k m).rewrites kind ≡ true → numbered (kind_at (kinds u) kind) ≡ false
  named = tests-numbered k m (sizes u)

  module _ (within : any (count u) (beyond (kinds u) u) ≡ false) (hp : coefficients u ≤ 6) (hr : contrast_rows u ≤ 6) where
    -- ---- each number times its power of two, as f64 multiplication gives it
    pub beta-product : (i : ℕ) → i < coefficients u → get_or (beta (converted (kenward_roger_change k m) u)) i nan ≡ mul binary64 (get_or (beta u) i nan) (power_of_two k)
    unfolding beta kenward_roger_shift
    beta-product = column-product k m test_table (kinds u) u alike within named (kinds u') (coefficients u) (coefficients u') kinds-same p-same hp 8 refl

    pub beta_h-product : (i : ℕ) → i < coefficients u → get_or (beta_h (converted (kenward_roger_change k m) u)) i nan ≡ mul binary64 (get_or (beta_h u) i nan) (power_of_two k)
    unfolding beta_h kenward_roger_shift
    beta_h-product = column-product k m test_table (kinds u) u alike within named (kinds u') (coefficients u) (coefficients u') kinds-same p-same hp 10 refl

    pub contrast-product : (i j : ℕ) → i < contrast_rows u → j < coefficients u
        → at floats (contrast (converted (kenward_roger_change k m) u)) i j ≡ mul binary64 (at floats (contrast u) i j) (power_of_two (m i))
    unfolding contrast
    contrast-product =
        lines-product k m test_table (kinds u) u alike within named (kinds u') (coefficients u) (coefficients u') kinds-same p-same hp (contrast_rows u) (contrast_rows u') r-same hr

  -- ---- a file of good form whose numbers scale exactly
  module _ (p : ℕ) (formed : WellFormed (reader p) u) (hp : coefficients u ≤ 6) (hr : contrast_rows u ≤ 6) (h : AskedExact k m (coefficients u) (contrast_rows u) (beta u) (beta_h u) (contrast u)) where
    -- there is no record of kind 7
    variance-again : AskedAgain k m (kinds u) u 7
    unfolding kind_at test_kinds width
    variance-again n r j i = let l = i.row in absurd (omega arith)

    tests-exact : Exact (kenward_roger_change k m) u
    unfolding beta beta_h contrast
    tests-exact =
        let a = tests-kinds u in
        exact-cells (kenward_roger_change k m) (kinds u) u formed.once formed.within named
        (λ kind n r j e. among 7 8 9 10 (AskedAgain k m (kinds u) u) variance-again (estimates-again k m (kinds u) u (coefficients u) a hp hr h)
        (lines-again k m (kinds u) u (coefficients u) a hp hr h) (hypotheses-again k m (kinds u) u (coefficients u) a hp hr h) kind e n r j)

    -- the same cells of the contrast are zero
    zero_same : (r c : ℕ) → is_zero (cell_value u' 9 r c) ≡ is_zero (cell_value u 9 r c)
    zero_same r c =
        ap is_zero (ap (λ (t : Table). cell t u' 9 0 r c) kinds-same ∙ alike.scaled_cell tests-exact formed.within 9 0 r c refl (named 9 refl))
        ∙ zero-scale (kenward_roger_shift k m 9 0 r c) (cell_value u 9 r c)

    zero_contrast-same : zero_contrast u' ≡ zero_contrast u
    unfolding zero_contrast
    zero_contrast-same =
        rw (alike.same_rows 9, p-same)
        (ap (λ (b : Bool). present u 9 && not b) (any_same (contrast_rows u) _ _ (λ r l. any_same (coefficients u) _ _ (λ c l. ap not (zero_same r c)))))

    -- so the refusals are, with the same number of coefficients
    pub reasons-same : reasons p (converted (kenward_roger_change k m) u) ≡ reasons p u
    unfolding reasons order_reasons formed_for value_reasons
    reasons-same = rw (alike.same_length, alike.same_order, form-same, p-same, alike.same_finite tests-exact, zero_contrast-same)
