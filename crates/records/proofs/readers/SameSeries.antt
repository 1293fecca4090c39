-- A Kenward–Roger series in two files whose records have the same fields (`Alike`): the same sizes and blocks; and the same numbers, of the kinds whose values stay.
use Prim.Native.Nat.{ℕ, ◌*◌, max}
use mathlib.Core.Path.{◌≡◌, refl, ap, ap₂, ◌∙◌, fun_ext}
use mathlib.Core.Bool.{Bool, true, false, not, ◌&&◌, ◌||◌}
use mathlib.Core.List.{List}
use lib.Dec.{eqb, ltb}
use lib.Ieee.{Float, lt}
use borrow.Author.Tests.{eqb-true}
use Rattle.arithmetic.specs.Numbers.{plus_zero, is_zero}
use Rattle.adjustment.specs.declared.Block.{Block}
use Rattle.adjustment.specs.Blocks.{places}
use Rattle.records.specs.format.Scan.{any, last}
use Rattle.records.specs.format.Kinds.{Table, kenward_roger_kinds}
use Rattle.records.specs.format.File.{count, kind_of, column_of, count_of, first_value_of, is_cell, cell, present}
use Rattle.records.specs.format.Alike.{Alike, Stays}
use Rattle.records.specs.readers.Series.{specimens, coefficients, z_columns, block_count, thetas, contrast_rows, sizes, kinds, cell_value, block_of, as_sent, parameter_count, miscounted, bad_size, bad_weight, misfit, zero_contrast, phi, beta, beta_h, contrast}
use Rattle.records.proofs.format.ScanLaws.{any_same, last-same, total-same}
use Rattle.records.proofs.format.SameFile.{count_same, rows_same, columns-same, present-same, is_cell-same, cell_stays}

module _ {s s' : List ℕ} (a : Alike s s') where
  pub sizes-same : sizes s' ≡ sizes s
  unfolding sizes
  sizes-same = rw (rows_same a 1, columns-same a 1, columns-same a 2, rows_same a 3, rows_same a 4, rows_same a 5, rows_same a 9, rows_same a 10)

  pub kinds-same : kinds s' ≡ kinds s
  kinds-same = ap kenward_roger_kinds sizes-same

  -- ---- the blocks
  -- a block's k and m, which are its column and its count
  last-field : (f : List ℕ → ℕ → ℕ) → ((i : ℕ) → f s' i ≡ f s i) → (b : ℕ) → last (count s') (is_cell (kinds s') s' 3 0 b 0) (f s') 0 ≡ last (count s) (is_cell (kinds s) s 3 0 b 0) (f s) 0
  last-field f h b =
      ap (λ (t : Table). last (count s') (is_cell t s' 3 0 b 0) (f s') 0) kinds-same
      ∙ ap (λ (n : ℕ). last n (is_cell (kinds s) s' 3 0 b 0) (f s') 0) (count_same a)
      ∙ last-same (count s) (is_cell (kinds s) s' 3 0 b 0) (is_cell (kinds s) s 3 0 b 0) (f s') (f s) 0 (λ i l. is_cell-same a (kinds s) 3 0 b 0 i) (λ i l p. h i)

  block_of-same : (b : ℕ) → block_of s' b ≡ block_of s b
  unfolding block_of
  block_of-same b =
      let e = last-field column_of a.column b in
      let g = last-field count_of a.number b in
      cc

  pub bad_size-same : bad_size s' ≡ bad_size s
  unfolding bad_size
  bad_size-same =
      rw (rows_same a 3)
      (ap₂ (λ (x y : Bool). x || y)
      (any_same (block_count s) _ _ (λ b l. ap (λ (z : Block). not (eqb z.effects 1 || eqb z.effects 2) || eqb z.groups 0) (block_of-same b)))
      (ap (λ (n : ℕ). ltb 3 n) (total-same (block_count s) _ _ (λ b l. ap (λ (z : Block). places z) (block_of-same b)))))

  pub misfit-same : misfit s' ≡ misfit s
  unfolding misfit
  misfit-same =
      rw (rows_same a 3, columns-same a 2, rows_same a 4)
      (ap₂ (λ (x y : ℕ). not (eqb x (z_columns s)) || not (eqb (thetas s) y))
      (total-same (block_count s) _ _ (λ b l. ap (λ (z : Block). z.groups * z.effects) (block_of-same b)))
      (total-same (block_count s) _ _ (λ b l. ap (λ (z : Block). places z) (block_of-same b))))

  -- ---- the numbers of a kind whose values stay
  pub value_same : (k r c : ℕ) → Stays s s' k → cell_value s' k r c ≡ cell_value s k r c
  value_same k r c h = ap (λ (t : Table). cell t s' k 0 r c) kinds-same ∙ cell_stays a (kinds s) k 0 r c h

  pub matrix-same : (k : ℕ) → Stays s s' k → cell_value s' k ≡ cell_value s k
  matrix-same k h = fun_ext (λ r. fun_ext (λ c. value_same k r c h))

  pub column-same : (k : ℕ) → Stays s s' k → ◌≡◌ {A = ℕ → Float} (λ i. cell_value s' k i 0) (λ i. cell_value s k i 0)
  column-same k h = fun_ext (λ r. value_same k r 0 h)

  -- the weights too, so that the same specimens are torn
  pub sent-same : Stays s s' 1 → Stays s s' 2 → Stays s s' 4 → Stays s s' 5 → as_sent s' ≡ as_sent s
  unfolding as_sent
  sent-same h1 h2 h4 h5 =
      let n : specimens s' ≡ specimens s = ap (max 1) (rows_same a 1) in
      let p : coefficients s' ≡ coefficients s = ap (max 1) (columns-same a 1) in
      let z : z_columns s' ≡ z_columns s = columns-same a 2 in
      let w : present s' 5 ≡ present s 5 = present-same a 5 in
      let b : block_count s' ≡ block_count s = rows_same a 3 in
      let t : thetas s' ≡ thetas s = rows_same a 4 in
      let x1 : cell_value s' 1 ≡ cell_value s 1 = matrix-same 1 h1 in
      let x2 : cell_value s' 2 ≡ cell_value s 2 = matrix-same 2 h2 in
      let x5 = column-same 5 h5 in
      let x4 = column-same 4 h4 in
      let bs : block_of s' ≡ block_of s = fun_ext block_of-same in
      cc

  pub phi-same : Stays s s' 6 → phi s' ≡ phi s
  unfolding phi
  phi-same h =
      let p : coefficients s' ≡ coefficients s = ap (max 1) (columns-same a 1) in
      let x6 : cell_value s' 6 ≡ cell_value s 6 = matrix-same 6 h in
      cc

  pub bad_weight-same : Stays s s' 5 → bad_weight s' ≡ bad_weight s
  unfolding bad_weight
  bad_weight-same h =
      rw (rows_same a 5, rows_same a 1)
      (ap (λ (b : Bool). present s 5 && b) (any_same (specimens s) _ _ (λ i l. ap (λ (x : Float). lt x plus_zero) (value_same 5 i 0 h))))

  -- the contrast, where the same cells are zero
  pub zero_contrast-same : ((r c : ℕ) → is_zero (cell_value s' 9 r c) ≡ is_zero (cell_value s 9 r c)) → zero_contrast s' ≡ zero_contrast s
  unfolding zero_contrast
  zero_contrast-same h =
      rw (rows_same a 9, columns-same a 1)
      (ap (λ (b : Bool). present s 9 && not b) (any_same (contrast_rows s) _ _ (λ r l. any_same (coefficients s) _ _ (λ c l. ap not (h r c)))))

  pub beta-same : Stays s s' 8 → beta s' ≡ beta s
  unfolding beta
  beta-same h =
      let p : coefficients s' ≡ coefficients s = ap (max 1) (columns-same a 1) in
      let x8 = column-same 8 h in
      cc

  pub beta_h-same : Stays s s' 10 → beta_h s' ≡ beta_h s
  unfolding beta_h
  beta_h-same h =
      let p : coefficients s' ≡ coefficients s = ap (max 1) (columns-same a 1) in
      let x10 = column-same 10 h in
      cc

  pub contrast-same : Stays s s' 9 → contrast s' ≡ contrast s
  unfolding contrast
  contrast-same h =
      let p : coefficients s' ≡ coefficients s = ap (max 1) (columns-same a 1) in
      let r : contrast_rows s' ≡ contrast_rows s = rows_same a 9 in
      let x9 : cell_value s' 9 ≡ cell_value s 9 = matrix-same 9 h in
      cc

  -- the blocks' parameter counts, where their first value bytes stay
  pub miscounted-same : ((i : ℕ) → kind_of s i ≡ 3 → first_value_of s' i ≡ first_value_of s i) → any (count s') (miscounted s') ≡ any (count s) (miscounted s)
  unfolding miscounted
  miscounted-same h = ap (λ (n : ℕ). any n (miscounted s')) (count_same a) ∙ any_same (count s) (miscounted s') (miscounted s) (λ i l. rw (a.kind i, a.column i) (go i (eqb (kind_of s i) 3) refl))
    where
      go : (i : ℕ) (b : Bool) → eqb (kind_of s i) 3 ≡ b → b && not (eqb (first_value_of s' i) (parameter_count s i)) ≡ b && not (eqb (first_value_of s i) (parameter_count s i))
      go i true e = ap (λ (n : ℕ). not (eqb n (parameter_count s i))) (h i (eqb-true (kind_of s i) 3 e))
      go i false e = refl
