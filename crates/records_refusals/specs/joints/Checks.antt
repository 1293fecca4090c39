-- Not needed to check document 01: names that join the code to its definitions.
-- The refusals that the records give by themselves, and 3, of a series that is all torn, and 5 to 8 as the code makes them, on the sheet of crates/records_sheet/specs/joints/Sheet.antt and on an array of blocks.
use Rattle.std.specs.Prelude.{ℕ, ◌+◌, Bool, not, ◌&&◌, List, [], ◌∷◌, get_or, Float}
use Rattle.std.specs.Float.{nan}
use Rattle.std.specs.Float.Ieee.{lt, le}
use Rattle.arithmetic.specs.Numbers.{plus_zero}
use Rattle.adjustment.specs.declared.Block.{Block}
use Rattle.algebra.specs.Reasons.{first}
use Rattle.records.specs.declared.Sizes.{Sizes}
use Rattle.records.specs.format.Scan.{any}
use Rattle.records.specs.format.Kinds.{Table, kinds_of, kenward_roger_kinds}
use Rattle.records.specs.format.KindNumbers.{kind_weight, kind_sigma2, kind_contrast}
use Rattle.records.specs.format.Cells.{first_slot}
use Rattle.records.specs.readers.Reader.{Reader, reader_reasons}
use Rattle.records.specs.readers.Series.{sizes, block_reasons}
use Rattle.records_block_limits.specs.joints.Checks.{misfit_in}
use Rattle.records_contrast.specs.joints.Contrast.{nonzeros, zero_contrast_in}
use Rattle.records.specs.declared.Shape.TheVariants.{Series}

-- 2, 12, 2 and 13, the first that holds: the length, the order, the form and, of the series' own reasons, the blocks' parameter counts alone
abbrev pub records_reader : ℕ → Reader
records_reader w = record { kinds = kenward_roger_kinds; limit = w; sizes = sizes; own = block_reasons }

unfoldable pub records_refusal : ℕ → List ℕ → ℕ
records_refusal w s = first (reader_reasons (records_reader w) s)

-- one of the m numbers from a place on is below zero
unfoldable pub negatives : List Float → ℕ → ℕ → Bool
negatives sheet at m = any m (λ j. lt (get_or sheet (at + j) nan) plus_zero)

-- refusal 6, by where the weights start
unfoldable pub bad_weight_in : Sizes → List Float → ℕ → Bool
bad_weight_in z sheet at = z.weighted && negatives sheet at z.specimens

-- refusal 3 of a series whose weights are all zero, by where they start
unfoldable pub all_torn_in : Sizes → List Float → ℕ → Bool
all_torn_in z sheet at = z.weighted && not (nonzeros sheet at z.specimens)

-- refusals 5 to 8, lowest number first: sigma2 is kind 7, the weights 5 and the contrast 9
unfoldable pub sheet_refusal : Sizes → List Block → List Float → ℕ
sheet_refusal z blocks sheet =
    let t : Table = kinds_of Series z in
    first
    ((5, le (get_or sheet (first_slot t kind_sigma2) nan) plus_zero)
    ∷ (6, bad_weight_in z sheet (first_slot t kind_weight))
    ∷ (7, misfit_in z blocks)
    ∷ (8, zero_contrast_in z sheet (first_slot t kind_contrast))
    ∷ [])
