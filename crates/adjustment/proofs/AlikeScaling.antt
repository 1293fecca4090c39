-- The scaling by sigma2 on two kinds of number that are related (`Alike`): from the same plain numbers, related cells.
use Prim.Native.Nat.{ℕ}
use lib.Ieee.{Float}
use Rattle.algebra.specs.Kind.{Arith}
use Rattle.algebra.specs.Small.{Rows}
use Rattle.algebra.proofs.ValueLaws.{Alike, Like, times_number-alike, over_number-alike, given_cells-alike}
use Rattle.adjustment.specs.Adjusted.{scaled_up, scaled_down}

module _ {A B : Type 0} {R : A → B → Type 0} {N : Arith A} {M : Arith B} (k : Alike R N M) where
  pub scaled_up-alike : (p : ℕ) (m : Rows) (sigma2 : Float) → Like k (scaled_up N p m sigma2) (scaled_up M p m sigma2)
  unfolding scaled_up
  scaled_up-alike p m sigma2 = times_number-alike k 6 6 p p (given_cells-alike k 6 6 p p m) (k.of sigma2)

  pub scaled_down-alike : (p : ℕ) (m : Rows) (sigma2 : Float) → Like k (scaled_down N p m sigma2) (scaled_down M p m sigma2)
  unfolding scaled_down
  scaled_down-alike p m sigma2 = over_number-alike k 6 6 p p (given_cells-alike k 6 6 p p m) (k.of sigma2)
