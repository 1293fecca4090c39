-- Laws of rows that gain terms, cell by cell, and of the terms of a group of one and of two effects.
use Prim.Native.Nat.{ℕ, ◌+◌, ◌≤◌}
use native.Mathlib.Nat.{le_antisymm}
use mathlib.Core.Path.{◌≡◌, refl, sym, ap, ◌∙◌}
use mathlib.Core.Bool.{Bool}
use mathlib.Core.List.{List, []}
use lib.ListN.{get_or, length}
use lib.Ieee.{Float, nan, binary64, mul}
use Rattle.arithmetic.specs.Numbers.{plus_zero}
use Rattle.algebra.specs.Fold.{fold}
use Rattle.algebra.specs.Kind.{floats}
use Rattle.algebra.specs.Product.{at, sum}
use Rattle.algebra_large.specs.joints.Slab.{put_row}
use Rattle.algebra_large.proofs.SlabLaws.{put_row-is, put_row-at, put_row-ext, row-over}
use Rattle.algebra.specs.Small.{Rows}
use Rattle.adjustment.specs.declared.Block.{Block}
use Rattle.adjustment.specs.declared.Place.{Place}
use Rattle.adjustment.specs.Blocks.{places_before, place_of}
use Rattle.adjustment.specs.Covariance.{group_column, directed_cell, group_cell, block_cell, residual_cell, g_cell}
use Rattle.adjustment_covariance.specs.joints.Lent.{design}
use Rattle.adjustment_covariance.proofs.DesignLaws.{g-own, g-last}

-- A row whose cell j gains T 0 j, .., T (k - 1) j, in this order.
module _ (T : ℕ → ℕ → Float) where
  abbrev pub gained_terms : ℕ → ℕ → Float → Float
  gained_terms k j x = fold 0 k (λ k y. floats.plus y (T k j)) x

  pub terms-none : (d c : ℕ) (xs : List Float) → d + c ≤ length xs → xs ≡ put_row d c (λ j. gained_terms 0 j (get_or xs (d + j) nan)) xs
  unfolding fold
  terms-none d c xs h = put_row-is d c (λ j. get_or xs (d + j) nan) xs xs h refl (λ j l. refl) (λ x o. refl)

  pub terms-end : (d c k n : ℕ) (xs ys : List Float) → k ≤ n → n ≤ k → ys ≡ put_row d c (λ j. gained_terms k j (get_or xs (d + j) nan)) xs
      → ys ≡ put_row d c (λ j. gained_terms n j (get_or xs (d + j) nan)) xs
  terms-end d c k n xs ys h l e = e ∙ ap (λ (m : ℕ). put_row d c (λ j. gained_terms m j (get_or xs (d + j) nan)) xs) (le_antisymm h l)

  -- the terms that a row gains which was cleared first are summed
  pub terms-cleared : (d c n : ℕ) (xs ys zs : List Float) → d + c ≤ length xs → ys ≡ put_row d c (λ j. plus_zero) xs
      → zs ≡ put_row d c (λ j. gained_terms n j (get_or ys (d + j) nan)) ys → zs ≡ put_row d c (λ j. sum floats n (λ k. T k j)) xs
  unfolding sum
  terms-cleared d c n xs ys zs hl ey ez =
      row-over d c (λ j. plus_zero) (λ j. gained_terms n j (get_or ys (d + j) nan)) (λ j. gained_terms n j plus_zero) xs ys zs hl ey ez
      (λ j l. ap (gained_terms n j) (ap (λ (l : List Float). get_or l (d + j) nan) ey ∙ put_row-at d c (λ j. plus_zero) xs j l hl))

sum_one : (f : ℕ → Float) → floats.plus plus_zero (f 0) ≡ sum floats 1 f
unfolding sum fold
sum_one f = refl

sum-two : (f : ℕ → Float) → floats.plus (floats.plus plus_zero (f 0)) (f 1) ≡ sum floats 2 f
unfolding sum fold
sum-two f = refl

-- The cells of a group.
module _ (z : Rows) (t : Place) (g i : ℕ) where
  group-one : (j k : ℕ) (u : Float) → t.effects ≡ 1 → k ≡ group_column t g 0 → u ≡ directed_cell z t g i 0
      → floats.plus plus_zero (floats.times u (at floats z j k)) ≡ group_cell z t g i j
  unfolding group_cell
  group-one j k u e ek eu =
      rw (ek, eu) (sum_one (λ b. mul binary64 (directed_cell z t g i b) (at floats z j (group_column t g b)))
      ∙ ap (λ (x : ℕ). sum floats x (λ b. mul binary64 (directed_cell z t g i b) (at floats z j (group_column t g b)))) (sym e))

  group-two : (j k l : ℕ) (u v : Float) → t.effects ≡ 2 → k ≡ group_column t g 0 → u ≡ directed_cell z t g i 0 → l ≡ group_column t g 1 → v ≡ directed_cell z t g i 1
      → floats.plus (floats.plus plus_zero (floats.times u (at floats z j k))) (floats.times v (at floats z j l)) ≡ group_cell z t g i j
  unfolding group_cell
  group-two j k l u v e ek eu el ev =
      rw (ek, eu, el, ev) (sum-two (λ b. mul binary64 (directed_cell z t g i b) (at floats z j (group_column t g b)))
      ∙ ap (λ (x : ℕ). sum floats x (λ b. mul binary64 (directed_cell z t g i b) (at floats z j (group_column t g b)))) (sym e))

  -- a row that gained the term of a group
  pub gained-one : (d m lo k : ℕ) (u : Float) (xs ys : List Float) → t.effects ≡ 1 → k ≡ group_column t g 0 → u ≡ directed_cell z t g i 0
      → ys ≡ put_row d m (λ j. floats.plus (get_or xs (d + j) nan) (floats.plus plus_zero (floats.times u (at floats z (lo + j) k)))) xs
      → ys ≡ put_row d m (λ j. floats.plus (get_or xs (d + j) nan) (group_cell z t g i (lo + j))) xs
  gained-one d m lo k u xs ys e ek eu ey =
      ey
      ∙ put_row-ext d m (λ j. floats.plus (get_or xs (d + j) nan) (floats.plus plus_zero (floats.times u (at floats z (lo + j) k))))
      (λ j. floats.plus (get_or xs (d + j) nan) (group_cell z t g i (lo + j))) xs
      (λ j l. ap (floats.plus (get_or xs (d + j) nan)) (group-one (lo + j) k u e ek eu))

  pub gained-two : (d m lo k l : ℕ) (u v : Float) (xs ys : List Float) → t.effects ≡ 2 → k ≡ group_column t g 0 → u ≡ directed_cell z t g i 0
      → l ≡ group_column t g 1 → v ≡ directed_cell z t g i 1
      → ys ≡ put_row d m (λ j. floats.plus (get_or xs (d + j) nan) (floats.plus (floats.plus plus_zero (floats.times u (at floats z (lo + j) k))) (floats.times v (at floats z (lo + j) l)))) xs
      → ys ≡ put_row d m (λ j. floats.plus (get_or xs (d + j) nan) (group_cell z t g i (lo + j))) xs
  gained-two d m lo k l u v xs ys e ek eu el ev ey =
      ey
      ∙ put_row-ext d m
      (λ j. floats.plus (get_or xs (d + j) nan) (floats.plus (floats.plus plus_zero (floats.times u (at floats z (lo + j) k))) (floats.times v (at floats z (lo + j) l))))
      (λ j. floats.plus (get_or xs (d + j) nan) (group_cell z t g i (lo + j))) xs
      (λ j h. ap (floats.plus (get_or xs (d + j) nan)) (group-two (lo + j) k l u v e ek eu el ev))

-- The rows of the Gs.
module _ (n : ℕ) (z : Rows) (weighted : Bool) (weights : List Float) (blocks : List Block) (count d m lo r i : ℕ) (xs ys : List Float) where
  pub row_last : r ≡ places_before blocks count → ys ≡ put_row d m (λ j. residual_cell weighted weights i (lo + j)) xs
      → ys ≡ put_row d m (λ j. g_cell (design n z weighted weights blocks count []) r i (lo + j)) xs
  row_last h ey =
      ey
      ∙ put_row-ext d m (λ j. residual_cell weighted weights i (lo + j)) (λ j. g_cell (design n z weighted weights blocks count []) r i (lo + j)) xs
      (λ j l. g-last n z weighted weights blocks count [] r i (lo + j) (residual_cell weighted weights i (lo + j)) h refl)

  pub row-own : (t : Place) → (r ≡ places_before blocks count → ⊥) → t ≡ place_of blocks count r → ys ≡ put_row d m (λ j. block_cell z t i (lo + j)) xs
      → ys ≡ put_row d m (λ j. g_cell (design n z weighted weights blocks count []) r i (lo + j)) xs
  row-own t h et ey =
      ey
      ∙ put_row-ext d m (λ j. block_cell z t i (lo + j)) (λ j. g_cell (design n z weighted weights blocks count []) r i (lo + j)) xs
      (λ j l. g-own n z weighted weights blocks count [] r i (lo + j) t (block_cell z t i (lo + j)) h et refl)
