-- Not needed to check document 01: names that join the code to its definitions.
-- The last reasons of an archive, off the sheet of crates/records_sheet/specs/joints/Sheet.antt, by the sizes.
use Rattle.std.specs.Prelude.{ℕ, ◌+◌, ◌*◌, Bool, true, false, not, cond, ◌||◌, List, eqb, get_or, Float}
use Rattle.std.specs.Float.{nan, binary64}
use Rattle.std.specs.Float.Ieee.{mul, div, le, to_bits}
use Rattle.arithmetic.specs.Numbers.{plus_zero}
use Rattle.records.specs.declared.Sizes.{Sizes}
use Rattle.records.specs.format.Scan.{any}
use Rattle.records.specs.format.Kinds.{Table, archive_kinds}
use Rattle.records.specs.format.KindNumbers.{kind_scaled_phi, kind_scaled_phi_a, kind_scaled_p, kind_archived_phi, kind_archived_phi_a, kind_archived_p, kind_archived_sigma2}
use Rattle.records.specs.format.Cells.{first_slot}

unfoldable pub differs : Float → Float → Bool
differs x y = not (eqb (to_bits binary64 x) (to_bits binary64 y))

-- a number in residual units times x, or over x
unfoldable pub in_units : Bool → Float → Float → Float
in_units over y x = cond over (div binary64 y x) (mul binary64 y x)

-- one of m numbers from a place on is not that from another place on, scaled by x
unfoldable pub not_scaled : Bool → List Float → ℕ → ℕ → ℕ → Float → Bool
not_scaled over sheet scaled residual m x = any m (λ j. differs (get_or sheet (scaled + j) nan) (in_units over (get_or sheet (residual + j) nan) x))

-- Φ is kind 11 and 15, Φ_A 12 and 16, P 13 and 17, sigma2 18
unfoldable pub misscaled_in : Sizes → List Float → Bool
misscaled_in z sheet =
    let t : Table = archive_kinds z in
    let square : ℕ = z.coefficients * z.coefficients in
    let sigma2 : Float = get_or sheet (first_slot t kind_archived_sigma2) nan in
    not_scaled false sheet (first_slot t kind_scaled_phi) (first_slot t kind_archived_phi) square sigma2 || not_scaled false sheet (first_slot t kind_scaled_phi_a) (first_slot t kind_archived_phi_a) square sigma2 || not_scaled true sheet (first_slot t kind_scaled_p) (first_slot t kind_archived_p) (z.parameters * square) sigma2

unfoldable pub numbers_refusal : Sizes → List Float → ℕ
numbers_refusal z sheet = cond (le (get_or sheet (first_slot (archive_kinds z) kind_archived_sigma2) nan) plus_zero) 5 (cond (misscaled_in z sheet) 2 0)
