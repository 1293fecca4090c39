-- A contrast, read off the sheet of any file whose kind 9 has its rows and coefficients, is all zero where the file's cells are.
use Prim.Native.Nat.{ℕ, ◌+◌, ◌*◌, ◌<◌, ◌≤◌}
use native.Mathlib.Omega.{arith}
use mathlib.Core.Path.{◌≡◌, ap, ◌∙◌}
use mathlib.Core.Bool.{Bool, false, not, ◌&&◌}
use mathlib.Core.List.{List}
use lib.Dec.{eqb}
use lib.ListN.{get_or}
use lib.Ieee.{Float, nan}
use Rattle.arithmetic.specs.Numbers.{is_zero}
use Rattle.records.specs.declared.Sizes.{Sizes}
use Rattle.records.specs.format.Scan.{any}
use Rattle.records.specs.format.Kinds.{kind_at, kinds_of}
use Rattle.records.specs.format.Cells.{first_slot, slot_count}
use Rattle.records.specs.format.File.{count, beyond, cell}
use Rattle.records.proofs.format.ScanLaws.{any_same}
use Rattle.records.proofs.format.Slots.{any-flat}
use Rattle.records_sheet.specs.joints.Sheet.{sheet_after}
use Rattle.records_sheet_parts.proofs.Read.{Flat, flat-cell}
use Rattle.records_contrast.specs.joints.Contrast.{nonzeros, zero_contrast_in}
use Rattle.records.specs.declared.Shape.{Shape}

-- call is the file's number, z its sizes
module _ (file : Shape) (z : Sizes) (s : List ℕ) (within : any (count s) (beyond (kinds_of file z) s) ≡ false) (N : ℕ) (room : slot_count (kinds_of file z) ≤ N) (flat : Flat (kind_at (kinds_of file z) 9) z.contrasts z.coefficients) where
  abbrev sheet : List Float
  sheet = sheet_after N (kinds_of file z) s (count s)

  abbrev start : ℕ
  start = first_slot (kinds_of file z) 9

  contrast-cell : (i j : ℕ) → i < z.contrasts → j < z.coefficients → get_or sheet (start + (i * z.coefficients + j)) nan ≡ cell (kinds_of file z) s 9 0 i j
  contrast-cell i j l m = ap (λ (x : ℕ). get_or sheet x nan) (place start i z.coefficients j) ∙ flat-cell file z s within N room 9 z.contrasts z.coefficients i j flat l m
    where
      place : (f i c j : ℕ) → f + (i * c + j) ≡ f + i * c + j
      place f i c j = omega arith

  pub contrast-read : zero_contrast_in z sheet start ≡ not (eqb z.contrasts 0) && not (any z.contrasts (λ r. any z.coefficients (λ c. not (is_zero (cell (kinds_of file z) s 9 0 r c)))))
  unfolding zero_contrast_in nonzeros
  contrast-read =
      ap (λ (b : Bool). not (eqb z.contrasts 0) && not b)
      (any-flat z.contrasts z.coefficients (λ j. not (is_zero (get_or sheet (start + j) nan)))
      ∙ any_same z.contrasts (λ r. any z.coefficients (λ c. not (is_zero (get_or sheet (start + (r * z.coefficients + c)) nan)))) (λ r. any z.coefficients (λ c. not (is_zero (cell (kinds_of file z) s 9 0 r c))))
      (λ r l. any_same z.coefficients (λ c. not (is_zero (get_or sheet (start + (r * z.coefficients + c)) nan))) (λ c. not (is_zero (cell (kinds_of file z) s 9 0 r c))) (λ c m. ap (λ (x : Float). not (is_zero x)) (contrast-cell r c l m))))
