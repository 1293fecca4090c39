-- Not needed to check document 01: names that join the code to its definitions.
-- Parts of the definition of back substitution that a function of its own computes, from one row of A and B side by side.
use Rattle.std.specs.Prelude.{ℕ, ◌+◌, List, get_or}
use Rattle.algebra.specs.Fold.{fold}
use Rattle.algebra.specs.Kind.{Arith}
use Rattle.algebra.specs.Product.{at}

module _ {A : Type 0} (N : Arith A) where
  -- `back_sum` where a is row i: cell (i, k) of B less the known terms of the columns below hi, by rising index
  unfoldable pub less_known : ℕ → ℕ → List A → List (List A) → ℕ → ℕ → A
  less_known n hi a x i k = fold (i + 1) hi (λ j s. N.minus s (N.times (get_or a j N.void) (at N x j k))) (get_or a (n + k) N.void)

  -- `back_cell` where a is row i: cell (i, k) of X
  unfoldable pub known_cell : ℕ → List A → List (List A) → ℕ → ℕ → A
  known_cell n a x i k = N.over (less_known n n a x i k) (get_or a i N.void)
