-- Not needed to check document 01: names that join the code to its definitions.
-- Parts of the definitions of elimination that a function of its own computes.
use Rattle.std.specs.Prelude.{ℕ, ◌-◌, Bool, false, cond, ◌||◌, List, ltb, get_or}
use Rattle.arithmetic.specs.Numbers.{is_zero}
use Rattle.algebra.specs.Fold.{fold}
use Rattle.algebra.specs.Kind.{Arith}
use Rattle.algebra.specs.Product.{at}

module _ {A : Type 0} (N : Arith A) where
  -- whether one of the first n cells of the diagonal is zero: after the run that goes on, document 01's "zero pivot refuses"
  unfoldable pub singular : ℕ → List (List A) → Bool
  singular n m = fold 0 n (λ c z. z || is_zero (N.value (at N m c c))) false

  -- cell j of a row of A and a row of B side by side
  abbrev pub joined_cell : ℕ → List A → List A → ℕ → A
  joined_cell n a b j = cond (ltb j n) (get_or a j N.void) (get_or b (j - n) N.void)
