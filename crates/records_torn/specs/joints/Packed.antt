-- Not needed to check the documents: names that join the code to its definitions.
-- The shortened series on the sheet of crates/records_sheet/specs/joints/Sheet.antt: the rows of the specimens that are kept stand at the front of the parts of X, of Z and of the weights.
use Rattle.std.specs.Prelude.{ℕ, ◌+◌, ◌*◌, ◌<◌, ◌≤◌, Bool, ◌&&◌, cond, List, length, get_or, Float}
use Rattle.std.specs.Float.{nan}
use Rattle.arithmetic.specs.Numbers.{is_zero}
use Rattle.algebra.specs.Fold.{fold}
use Rattle.algebra_large.specs.joints.Slab.{put_row}
use Rattle.records.specs.declared.Sizes.{Sizes}
use Rattle.records.specs.format.Kinds.{Table, kinds_of}
use Rattle.records.specs.format.KindNumbers.{kind_x, kind_z, kind_weight}
use Rattle.records.specs.format.Cells.{first_slot}
use Rattle.records.specs.readers.Shortened.{kept_below}
use Rattle.records.specs.declared.Shape.TheVariants.{Series}

-- rows ks of the rows of c numbers from a on, one after another from a on
unfoldable pub packed_rows : ℕ → ℕ → List ℕ → List Float → List Float
packed_rows a c ks xs = fold 0 (length ks) (λ i ys. put_row (a + i * c) c (λ j. get_or xs (a + get_or ks i 0 * c + j) nan) ys) xs

-- specimen i is torn, by where the weights start
abbrev pub torn_at : List Float → ℕ → ℕ → Bool
torn_at xs weights i = is_zero (get_or xs (weights + i) nan)

-- n rows of c numbers from a on, and n weights, in a list of len; no row starts after its specimen's weight, so that none is moved onto a weight that is still to be read
pub record Packs (a c weights n len : ℕ) : Type 0 where
  pub rows : a + n * c ≤ len
  pub weighed : weights + n ≤ len
  pub ahead : (i : ℕ) → i < n → a + i * c ≤ weights + i

-- the specimens of a series that are kept, by its sheet
unfoldable pub kept_in : Sizes → List Float → List ℕ
kept_in z xs = kept_below z.specimens (λ i. z.weighted && torn_at xs (first_slot (kinds_of Series z) kind_weight) i)

-- its sheet with the rows of X, kind 1, and of Z, kind 2, and the weights, kind 5, of these
unfoldable pub short_sheet : Sizes → List Float → List Float
short_sheet z xs =
    let t : Table = kinds_of Series z in
    let ks : List ℕ = kept_below z.specimens (torn_at xs (first_slot t kind_weight)) in
    cond z.weighted (packed_rows (first_slot t kind_weight) 1 ks (packed_rows (first_slot t kind_z) z.columns ks (packed_rows (first_slot t kind_x) z.coefficients ks xs))) xs
