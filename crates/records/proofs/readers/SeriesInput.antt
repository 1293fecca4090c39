-- What a Kenward–Roger file that is not refused gives to the run: sizes within document 01's limits, whatever the limit of specimens, and f64 numbers in the cells that the run reads.
use Prim.Native.Nat.{ℕ, ◌+◌, ◌<◌, ◌≤◌}
use native.Mathlib.Omega.{arith}
use mathlib.Core.Path.{◌≡◌, refl, sym, ap, ◌∙◌, subst}
use mathlib.Core.Bool.{not, ◌||◌}
use mathlib.Core.List.{List}
use lib.Dec.{T, eqb, ltb}
use lib.ListN.{get_or}
use lib.Ieee.{Float, nan, binary64, fits}
use borrow.Author.Tests.{ltb-false}
use Rattle.arithmetic.specs.Numbers.{plus_zero}
use Rattle.algebra.specs.Fold.{fold}
use Rattle.algebra.specs.Kind.{floats}
use Rattle.algebra.specs.Product.{at}
use Rattle.algebra.specs.Table.{row}
use Rattle.algebra.proofs.TableLaws.{row_at, table_at}
use Rattle.adjustment.specs.declared.Block.{Block}
use Rattle.adjustment.specs.Blocks.{no_block, block_at, places, places_before}
use Rattle.adjustment.specs.Covariance.{matrices}
use Rattle.records.specs.format.Scan.{any, total}
use Rattle.records.specs.format.Kinds.{kind_at, kenward_roger_kinds, limits, kenward_roger}
use Rattle.records.specs.readers.Shortened.{shortened}
use Rattle.records.specs.readers.Series.{coefficients, block_count, contrast_rows, kinds, cell_value, block_of, as_sent, bad_size, design, phi, beta, beta_h, contrast, sigma2}
use Rattle.records.proofs.format.ScanLaws.{or-false, total-same, fold-total}
use Rattle.records.proofs.readers.Limits.{rows-within, columns-within}
use Rattle.records.proofs.readers.AcceptedSeries.{AcceptedSeries}
use Rattle.records.proofs.format.CellLaws.{cell-fits}

-- ---- sizes that no limit of specimens bounds: "coefficients p 1–6", "blocks 0–3", "contrast rows 1–6"
pub record SeriesSized (s : List ℕ) : Type 0 where
  pub some : 1 ≤ coefficients s
  pub coefficients : coefficients s ≤ 6
  pub blocks : block_count s ≤ 3
  pub contrast : contrast_rows s ≤ 6

pub series-sized : (w : ℕ) (s : List ℕ) → AcceptedSeries w s → SeriesSized s
unfolding kind_at kenward_roger_kinds limits
series-sized w s c =
    let b = columns-within (kenward_roger w) s c.formed.good 1 6 refl in
    record { some = omega arith; coefficients = omega arith; blocks = rows-within (kenward_roger w) s c.formed.good 3 3 refl; contrast = rows-within (kenward_roger w) s c.formed.good 9 6 refl }

-- ---- the blocks' parameters
-- "block parameters at most 3": the matrices are one more
pub matrices-bound : (w : ℕ) (s : List ℕ) → AcceptedSeries w s → matrices (design s) ≤ 4
unfolding bad_size places_before design shortened as_sent
matrices-bound w s c =
    let b : ℕ = block_count s in
    let n : ℕ = total b (λ i. places (block_of s i)) in
    let h : n ≤ 3 = ltb-false 3 n (or-false (any b (λ i. not (eqb (block_of s i).effects 1 || eqb (block_of s i).effects 2) || eqb (block_of s i).groups 0)) (ltb 3 n) c.sized).1 in
    let e : fold 0 b (λ i z. z + places (block_at (row no_block 3 b (block_of s)) i)) 0 ≡ n =
    fold-total b (λ i. places (block_at (row no_block 3 b (block_of s)) i))
    ∙ total-same b (λ i. places (block_at (row no_block 3 b (block_of s)) i)) (λ i. places (block_of s i)) (λ i l. ap (λ (x : Block). places x) (row_at no_block 3 b (block_of s) i no_block l (series-sized w s c).blocks)) in
    less (fold 0 b (λ i z. z + places (block_at (row no_block 3 b (block_of s)) i)) 0) n e h
  where
    less : (x n : ℕ) → x ≡ n → n ≤ 3 → x + 1 ≤ 4
    less x n e h = omega arith

-- ---- where the numbers stand, and that they are f64 numbers
module _ (s : List ℕ) (hp : coefficients s ≤ 6) where
  pub beta-at : (i : ℕ) → i < coefficients s → get_or (beta s) i nan ≡ cell_value s 8 i 0
  unfolding beta
  beta-at i l = row_at plus_zero 6 (coefficients s) (λ i. cell_value s 8 i 0) i nan l hp

  pub beta_h-at : (i : ℕ) → i < coefficients s → get_or (beta_h s) i nan ≡ cell_value s 10 i 0
  unfolding beta_h
  beta_h-at i l = row_at plus_zero 6 (coefficients s) (λ i. cell_value s 10 i 0) i nan l hp

  pub contrast-at : contrast_rows s ≤ 6 → (i j : ℕ) → i < contrast_rows s → j < coefficients s → at floats (contrast s) i j ≡ cell_value s 9 i j
  unfolding contrast
  contrast-at hr i j h l = table_at plus_zero 6 6 (contrast_rows s) (coefficients s) (cell_value s 9) i j nan h l hr hp

  pub phi-at : (i j : ℕ) → i < coefficients s → j < coefficients s → at floats (phi s) i j ≡ cell_value s 6 i j
  unfolding phi
  phi-at i j h l = table_at plus_zero 6 6 (coefficients s) (coefficients s) (cell_value s 6) i j nan h l hp hp

  pub beta-fits : (i : ℕ) → i < coefficients s → T (fits binary64 (get_or (beta s) i nan))
  beta-fits i l = subst (λ (x : Float). T (fits binary64 x)) (sym (beta-at i l)) (cell-fits (kinds s) s 8 0 i 0)

  pub beta_h-fits : (i : ℕ) → i < coefficients s → T (fits binary64 (get_or (beta_h s) i nan))
  beta_h-fits i l = subst (λ (x : Float). T (fits binary64 x)) (sym (beta_h-at i l)) (cell-fits (kinds s) s 10 0 i 0)

  pub contrast-fits : contrast_rows s ≤ 6 → (i j : ℕ) → i < contrast_rows s → j < coefficients s → T (fits binary64 (at floats (contrast s) i j))
  contrast-fits hr i j h l = subst (λ (x : Float). T (fits binary64 x)) (sym (contrast-at hr i j h l)) (cell-fits (kinds s) s 9 0 i j)

  pub phi-fits : (i j : ℕ) → i < coefficients s → j < coefficients s → T (fits binary64 (at floats (phi s) i j))
  phi-fits i j h l = subst (λ (x : Float). T (fits binary64 x)) (sym (phi-at i j h l)) (cell-fits (kinds s) s 6 0 i j)

pub sigma2-fits : (s : List ℕ) → T (fits binary64 (sigma2 s))
sigma2-fits s = cell-fits (kinds s) s 7 0 0 0
