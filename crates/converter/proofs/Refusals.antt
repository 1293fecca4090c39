-- The Kenward–Roger call's refusals before any computing are the same for the converted file, where no record lies beyond the sizes and each rewritten value, scaled, is an f64 number.
use Prim.Native.Nat.{ℕ}
use mathlib.Core.Path.{◌≡◌, refl, ap, ◌∙◌}
use mathlib.Core.Bool.{true, false}
use mathlib.Core.List.{List}
use lib.IntN.{ℤ}
use lib.Ieee.{Float, le}
use Rattle.arithmetic.specs.Numbers.{plus_zero, is_zero}
use Rattle.arithmetic.specs.Scale.{scale}
use Rattle.arithmetic.proofs.PlainLaws.{zero-scale}
use Rattle.arithmetic.proofs.ScaleLaws.{le-scale}
use Rattle.records.specs.format.Scan.{any}
use Rattle.records.specs.format.Kinds.{Table, kenward_roger, limits}
use Rattle.records.specs.format.File.{count, cell, beyond, form_reasons}
use Rattle.records.specs.format.Order.{order_reasons}
use Rattle.records.specs.readers.Series.{sizes, kinds, cell_value, sigma2, miscounted, block_reasons, size_reasons, value_reasons, reasons}
use Rattle.records.proofs.readers.SameSeries as same
use Rattle.converter.specs.Converted.{Change, kenward_roger_shift, kenward_roger_change, converted}
use Rattle.converter.specs.ReadAlike.{Exact, ReadAlike}
use Rattle.converter.proofs.Fields.{first-other}
use Rattle.converter.proofs.Series.{series-numbered, series-alike, stays, sent-same}

module _ (k : ℤ) (m : ℕ → ℤ) (s : List ℕ) where
  abbrev g : Change
  g = kenward_roger_change k m

  abbrev s' : List ℕ
  s' = converted (kenward_roger_change k m) s

  alike : ReadAlike (kenward_roger_change k m) (kinds s) (kinds s) s (converted (kenward_roger_change k m) s)
  alike = series-alike k m s (sizes s)

  module _ (within : any (count s) (beyond (kinds s) s) ≡ false) (h : Exact (kenward_roger_change k m) s) where
    scaled : (kind r c : ℕ) → (kenward_roger_change k m).rewrites kind ≡ true → cell_value s' kind r c ≡ scale (kenward_roger_shift k m kind 0 r c) (cell_value s kind r c)
    scaled kind r c e = ap (λ (t : Table). cell t s' kind 0 r c) (same.kinds-same alike.alike) ∙ alike.scaled_cell h within kind 0 r c e (series-numbered k m (sizes s) kind e)

    sigma2-same : le (sigma2 s') plus_zero ≡ le (sigma2 s) plus_zero
    sigma2-same = ap (λ (x : Float). le x plus_zero) (scaled 7 0 0 refl) ∙ le-scale (kenward_roger_shift k m 7 0 0 0) (sigma2 s) plus_zero

    zero_same : (r c : ℕ) → is_zero (cell_value s' 9 r c) ≡ is_zero (cell_value s 9 r c)
    zero_same r c = ap is_zero (scaled 9 r c refl) ∙ zero-scale (kenward_roger_shift k m 9 0 r c) (cell_value s 9 r c)

    form-same : (w : ℕ) → form_reasons (kenward_roger w) (kinds s') s' ≡ form_reasons (kenward_roger w) (kinds s) s
    form-same w = ap (λ (t : Table). form_reasons (kenward_roger w) t s') (same.kinds-same alike.alike) ∙ (series-alike k m s (limits w)).same_form

    -- a block's parameter count stays
    counted_same : any (count s') (miscounted s') ≡ any (count s) (miscounted s)
    counted_same = same.miscounted-same alike.alike (λ i q. first-other (kenward_roger_change k m) s i (ap (kenward_roger_change k m).rewrites q))

    -- with every limit of specimens
    pub reasons-same : (w : ℕ) → reasons w (converted (kenward_roger_change k m) s) ≡ reasons w s
    unfolding reasons order_reasons block_reasons size_reasons value_reasons
    reasons-same w = rw (alike.same_length, alike.same_order, form-same w, counted_same, same.bad_size-same alike.alike, sent-same k m s, alike.same_finite h, sigma2-same, same.bad_weight-same alike.alike (stays k m s 5 refl), same.misfit-same alike.alike, same.zero_contrast-same alike.alike zero_same)
