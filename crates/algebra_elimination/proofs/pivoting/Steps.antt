-- One step of an elimination, for any kind of number.
use Prim.Native.Nat.{ℕ, ◌<◌}
use mathlib.Core.Path.{◌≡◌}
use mathlib.Core.Bool.{Bool, cond}
use mathlib.Core.List.{List, []}
use lib.ListN.{get_or, set}
use Rattle.algebra.specs.Kind.{Arith}
use Rattle.algebra.specs.Elimination.{pivot_row, swap_rows, factor, less_by, less_row, cleared, eliminate_column}
use Rattle.algebra.proofs.EliminationLaws.{pivot-range}

-- of the rows r and best, that which the test t names, where t is what the numbers give
pub larger-is : (t u : Bool) (r best : ℕ) → t ≡ u → cond t r best ≡ cond u r best
larger-is t u r best e = rw e

module _ {A : Type 0} (N : Arith A) where
  -- the pivot's row is a row of the matrix
  pub pivot-below : (n c : ℕ) (m : List (List A)) (q : ℕ) → q ≡ pivot_row N n c m → c < n → q < n
  pivot-below n c m q e h = rw e (pivot-range N n c m h).1

  -- a row less the pivot row times its factor
  pub less_row-is : (w c : ℕ) (pivots lower q : List A) (f : A) → f ≡ factor N c pivots lower → q ≡ less_by N w c f pivots lower → q ≡ less_row N w c pivots lower
  less_row-is w c pivots lower q f e d = rw (← e) d

  -- a column eliminated: the pivot's row and row c change places, and the rows below are cleared
  pub column-is : (n w c p : ℕ) (m q : List (List A)) → p ≡ pivot_row N n c m → q ≡ cleared N n w c (set (set m c (get_or m p [])) p (get_or m c []))
      → q ≡ eliminate_column N n w c m
  unfolding eliminate_column swap_rows
  column-is n w c p m q e d = rw (← e) d
