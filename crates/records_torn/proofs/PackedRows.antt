-- Laws of rows that are packed to the front of their part of a list (specs/joints/Packed.antt): what stands in each place afterwards, and how a loop packs one row more.
use Prim.Native.Nat.{ℕ, ◌+◌, ◌*◌, ◌<◌, ◌≤◌}
use native.Mathlib.Omega.{arith}
use mathlib.Core.Path.{◌≡◌, ap, sym, ◌∙◌}
use mathlib.Core.List.{List, [], ◌∷◌, ◌++◌}
use mathlib.Core.Logic.{◌⊎◌, inr, ⊎_elim}
use lib.ListN.{length, get_or, length-append, get_or-append}
use lib.Seq.{get_or-append_seam}
use lib.Ieee.{Float, nan}
use Rattle.arithmetic.specs.Numbers.{is_zero}
use Rattle.algebra.specs.Fold.{fold}
use Rattle.algebra.specs.Table.{table}
use Rattle.algebra.specs.Kind.{floats}
use Rattle.algebra.specs.Product.{at}
use Rattle.algebra.proofs.FoldLaws.{fold_more, fold_start, fold-ext}
use Rattle.algebra.proofs.TableLaws.{table_at}
use Rattle.algebra_large.specs.joints.Slab.{put_row, put_rows}
use Rattle.algebra_large.proofs.SlabLaws.{row_in, put_row-ext, length-put_rows, put_rows-other, put_rows-at}
use Rattle.records.specs.readers.Shortened.{kept_below}
use Rattle.records.proofs.readers.KeptLaws.{kept_same}
use Rattle.records_torn.specs.joints.Packed.{torn_at, packed_rows}

-- row i of the packing: row number i of those that ks names
abbrev pack_row : ℕ → ℕ → List ℕ → List Float → ℕ → List Float → List Float
pack_row a c ks xs i ys = put_row (a + i * c) c (λ j. get_or xs (a + get_or ks i 0 * c + j) nan) ys

-- ---- packed rows are a matrix put into the list
module _ (a c : ℕ) (ks : List ℕ) (xs : List Float) where
  -- rows ks of the rows of c numbers from a on
  chosen : List (List Float)
  chosen = table nan (length ks) c (length ks) c (λ i j. get_or xs (a + get_or ks i 0 * c + j) nan)

  chosen_at : (i j : ℕ) → i < length ks → j < c → at floats chosen i j ≡ get_or xs (a + get_or ks i 0 * c + j) nan
  unfolding chosen
  chosen_at i j hi hj = table_at nan (length ks) c (length ks) c (λ i j. get_or xs (a + get_or ks i 0 * c + j) nan) i j nan hi hj (omega arith) (omega arith)

  -- they are the matrix that is put
  packed-is : packed_rows a c ks xs ≡ put_rows c a (length ks) c chosen xs
  unfolding packed_rows put_rows
  packed-is =
      fold-ext 0 (length ks) (pack_row a c ks xs) (λ i ys. put_row (a + i * c) c (λ j. at floats chosen i j) ys) xs
      (λ i _ l ys. put_row-ext (a + i * c) c (λ j. get_or xs (a + get_or ks i 0 * c + j) nan) (λ j. at floats chosen i j) ys (λ j h. sym (chosen_at i j l h)))

  -- the list is as long as it was
  pub length-packed : length (packed_rows a c ks xs) ≡ length xs
  length-packed = ap length packed-is ∙ length-put_rows c a (length ks) c chosen xs

  -- row i is now the one that is named at i
  pub packed-at : (i j : ℕ) → a + length ks * c ≤ length xs → i < length ks → j < c → get_or (packed_rows a c ks xs) (a + i * c + j) nan ≡ get_or xs (a + get_or ks i 0 * c + j) nan
  packed-at i j room hi hj =
      ap (λ (l : List Float). get_or l (a + i * c + j) nan) packed-is ∙ put_rows-at c a (length ks) c chosen xs (record { wide = omega arith; fits = omega arith }) i j hi hj ∙ chosen_at i j hi hj

  -- what stands before and after the packed rows is as it was
  pub packed-other : (q : ℕ) → (q < a) ⊎ (a + length ks * c ≤ q) → get_or (packed_rows a c ks xs) q nan ≡ get_or xs q nan
  packed-other q o =
      ap (λ (l : List Float). get_or l q nan) packed-is
      ∙ put_rows-other c a (length ks) c chosen xs q
      (λ i j hi hj e. let w : i * c + c ≤ length ks * c = row_in c (length ks) c i hi (omega arith) in ⊎_elim (λ u. omega arith) (λ u. omega arith) o)

-- ---- row after row
-- where no row is named the list stays
pub packed_none : (a c : ℕ) (xs : List Float) → xs ≡ packed_rows a c [] xs
unfolding packed_rows
packed_none a c xs = fold_start 0 (pack_row a c [] xs) xs

-- where row r is named after those of ks it is put behind them
pub packed-next : (a c : ℕ) (ks : List ℕ) (r : ℕ) (xs : List Float)
    → packed_rows a c (ks ++ (r ∷ [])) xs ≡ put_row (a + length ks * c) c (λ j. get_or xs (a + r * c + j) nan) (packed_rows a c ks xs)
unfolding packed_rows
packed-next a c ks r xs =
    ap (λ (n : ℕ). fold 0 n (pack_row a c more xs) xs) (length-append ks (r ∷ []))
    ∙ fold_more 0 (length ks) (pack_row a c more xs) xs (omega arith)
    ∙ ap (λ (k : ℕ). row k (fold 0 (length ks) (pack_row a c more xs) xs)) (get_or-append_seam ks r [] 0)
    ∙ ap (row r) (fold-ext 0 (length ks) (pack_row a c more xs) (pack_row a c ks xs) xs (λ i _ l ys. ap (λ (k : ℕ). put_row (a + i * c) c (λ j. get_or xs (a + k * c + j) nan) ys) (get_or-append ks (r ∷ []) 0 i l)))
  where
    more : List ℕ
    more = ks ++ (r ∷ [])

    row : ℕ → List Float → List Float
    row k ys = put_row (a + length ks * c) c (λ j. get_or xs (a + k * c + j) nan) ys

-- where the packed rows end before the weights start, the same specimens are kept
pub packed-kept : (a c : ℕ) (ks : List ℕ) (xs : List Float) (w n : ℕ) → a + length ks * c ≤ w → kept_below n (torn_at (packed_rows a c ks xs) w) ≡ kept_below n (torn_at xs w)
packed-kept a c ks xs w n l = kept_same n (torn_at (packed_rows a c ks xs) w) (torn_at xs w) (λ i _. ap is_zero (packed-other a c ks xs (w + i) (inr (omega arith))))
