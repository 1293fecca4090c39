-- What the Satterthwaite call reads in the converted file, from the one law that it is read alike: the same sizes, cells that stay or move, and the same refusals before any computing.
use Prim.Native.Nat.{ℕ, max}
use mathlib.Core.Path.{◌≡◌, refl, ap, ◌∙◌}
use mathlib.Core.Bool.{true, false}
use mathlib.Core.List.{List}
use lib.IntN.{ℤ}
use Rattle.arithmetic.specs.Scale.{scale}
use Rattle.records.specs.declared.Sizes.{Sizes}
use Rattle.records.specs.declared.Value.TheVariants.{Float as FloatBits}
use Rattle.records.specs.format.Scan.{any}
use Rattle.records.specs.format.Kinds.{Table, kind_at, satterthwaite_kinds, limits, satterthwaite}
use Rattle.records.specs.format.File.{count, cell, beyond, form_reasons}
use Rattle.records.specs.format.Order.{order_reasons}
use Rattle.records.specs.readers.Parameters.{coefficients, contrast_rows, parameters, sizes, kinds, cell_value, value_reasons, reasons}
use Rattle.converter.specs.Converted.{satterthwaite_shift, satterthwaite_change, converted}
use Rattle.converter.specs.ReadAlike.{Exact, OnFloats, is_number, numbered, ReadAlike}
use Rattle.converter.proofs.Among.{among}
use Rattle.converter.proofs.ReadAlike.{converted-reads-alike}

-- β, β_H, v and the Jacobians: f64 bits, in cells that the fields name, at any sizes
parameters-floats : (k : ℤ) (z : Sizes) → OnFloats (satterthwaite_change k) (satterthwaite_kinds z)
unfolding kind_at satterthwaite_kinds
parameters-floats k z = among 8 10 30 31 (λ j. (kind_at (satterthwaite_kinds z) j).value ≡ FloatBits) refl refl refl refl

pub parameters-numbered : (k : ℤ) (z : Sizes) (kind : ℕ) → (satterthwaite_change k).rewrites kind ≡ true → numbered (kind_at (satterthwaite_kinds z) kind) ≡ false
unfolding kind_at satterthwaite_kinds is_number
parameters-numbered k z = among 8 10 30 31 (λ j. numbered (kind_at (satterthwaite_kinds z) j) ≡ false) refl refl refl refl

module _ (k : ℤ) (s : List ℕ) where
  abbrev s' : List ℕ
  s' = converted (satterthwaite_change k) s

  alike : ReadAlike (satterthwaite_change k) satterthwaite (kinds s) s (converted (satterthwaite_change k) s)
  alike = converted-reads-alike (satterthwaite_change k) satterthwaite (kinds s) s (parameters-floats k (limits 1))

  pub p-same : coefficients (converted (satterthwaite_change k) s) ≡ coefficients s
  p-same = ap (max 1) (alike.same_rows 8)

  pub q-same : contrast_rows (converted (satterthwaite_change k) s) ≡ contrast_rows s
  q-same = ap (max 1) (alike.same_rows 9)

  pub n-same : parameters (converted (satterthwaite_change k) s) ≡ parameters s
  n-same = rw (alike.same_rows 32, alike.same_columns 32)

  sizes-same : sizes s' ≡ sizes s
  unfolding sizes
  sizes-same = rw (alike.same_rows 8, alike.same_rows 9, alike.same_rows 10, alike.same_rows 32, alike.same_columns 32)

  kinds-same : kinds s' ≡ kinds s
  kinds-same = ap satterthwaite_kinds sizes-same

  pub stays : (kind n r c : ℕ) → (satterthwaite_change k).rewrites kind ≡ false → cell_value (converted (satterthwaite_change k) s) kind n r c ≡ cell_value s kind n r c
  stays kind n r c e = ap (λ (t : Table). cell t s' kind n r c) kinds-same ∙ alike.kept_cell kind n r c e

  form-same : form_reasons satterthwaite (kinds s') s' ≡ form_reasons satterthwaite (kinds s) s
  form-same = ap (λ (t : Table). form_reasons satterthwaite t s') kinds-same ∙ alike.same_form

  module _ (h : Exact (satterthwaite_change k) s) where
    pub scales : any (count s) (beyond (kinds s) s) ≡ false → (kind n r c : ℕ) → (satterthwaite_change k).rewrites kind ≡ true
        → cell_value (converted (satterthwaite_change k) s) kind n r c ≡ scale (satterthwaite_shift k kind n r c) (cell_value s kind n r c)
    scales within kind n r c e =
        ap (λ (t : Table). cell t s' kind n r c) kinds-same ∙ alike.scaled_cell h within kind n r c e (parameters-numbered k (sizes s) kind e)

    pub reasons-same : reasons (converted (satterthwaite_change k) s) ≡ reasons s
    unfolding reasons order_reasons value_reasons
    reasons-same = rw (alike.same_length, alike.same_order, form-same, alike.same_finite h)
