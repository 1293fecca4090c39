-- Not needed to check document 01: names that join the code to its definitions.
-- Refusal 8 as the code makes it, on the sheet of crates/records_sheet/specs/joints/Sheet.antt.
use Rattle.std.specs.Prelude.{ℕ, ◌+◌, ◌*◌, Bool, not, ◌&&◌, List, eqb, get_or, Float}
use Rattle.std.specs.Float.{nan}
use Rattle.arithmetic.specs.Numbers.{is_zero}
use Rattle.records.specs.declared.Sizes.{Sizes}
use Rattle.records.specs.format.Scan.{any}

-- one of the m numbers from a place on is not zero
unfoldable pub nonzeros : List Float → ℕ → ℕ → Bool
nonzeros sheet at m = any m (λ j. not (is_zero (get_or sheet (at + j) nan)))

-- a contrast is there and all zero, by where it starts
unfoldable pub zero_contrast_in : Sizes → List Float → ℕ → Bool
zero_contrast_in z sheet at = not (eqb z.contrasts 0) && not (nonzeros sheet at (z.contrasts * z.coefficients))
