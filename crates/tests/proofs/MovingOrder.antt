-- Eigenvalues that a second run has all scaled by one power of two stand in the same order.
use Prim.Native.Nat.{ℕ, ◌+◌, ◌<◌}
use mathlib.Core.Path.{◌≡◌}
use mathlib.Core.Bool.{cond}
use mathlib.Core.List.{List}
use lib.Dec.{eqb}
use lib.IntN.{ℤ}
use lib.ListN.{get_or}
use lib.Ieee.{Float, nan, eq}
use Rattle.arithmetic.proofs.Tied.{Tied}
use Rattle.arithmetic.proofs.ScaleLaws.{eq-scale}
use Rattle.algebra.proofs.FoldLaws.{fold-ext, fold-keeps}
use Rattle.algebra.proofs.MovingCells.{less-agrees, cond_both}
use Rattle.tests.specs.Order.{comes_before, place_in, index_at}

pub equal-agrees : (u : ℤ) (x y x' y' : Float) → Tied u x x' → Tied u y y' → eq x' y' ≡ eq x y
equal-agrees u x y x' y' p q = rw (p.moved, q.moved) (eq-scale u x y)

-- an index that is found is one of the n
pub index_below : (n : ℕ) (xs : List Float) (k : ℕ) → 0 < n → index_at n xs k < n
unfolding index_at
index_below n xs k h =
    fold-keeps (λ x. x < n) 0 n (λ i found. cond (eqb (place_in n xs i) k) i found) 0 h
    (λ i l m b q. cond_both (λ x. x < n) (eqb (place_in n xs i) k) i b m q)

-- n numbers, and the same n scaled
module _ (n : ℕ) (u : ℤ) (xs xs' : List Float) (p : (i : ℕ) → i < n → Tied u (get_or xs i nan) (get_or xs' i nan)) where
  pub comes_before-agrees : (j i : ℕ) → j < n → i < n → comes_before xs' j i ≡ comes_before xs j i
  unfolding comes_before
  comes_before-agrees j i h l =
      rw (
        less-agrees u (get_or xs i nan) (get_or xs j nan) (get_or xs' i nan) (get_or xs' j nan) (p i l) (p j h),
        equal-agrees u (get_or xs i nan) (get_or xs j nan) (get_or xs' i nan) (get_or xs' j nan) (p i l) (p j h),
      )

  pub place_in-agrees : (i : ℕ) → i < n → place_in n xs' i ≡ place_in n xs i
  unfolding place_in
  place_in-agrees i l =
      fold-ext 0 n (λ j s. cond (comes_before xs' j i) (s + 1) s) (λ j s. cond (comes_before xs j i) (s + 1) s) 0
      (λ j h m s. rw (comes_before-agrees j i m l))

  pub index_at-agrees : (k : ℕ) → index_at n xs' k ≡ index_at n xs k
  unfolding index_at
  index_at-agrees k =
      fold-ext 0 n (λ i found. cond (eqb (place_in n xs' i) k) i found) (λ i found. cond (eqb (place_in n xs i) k) i found) 0
      (λ i h m b. rw (place_in-agrees i m))
