-- Not needed to check document 01: names that join the code to its definitions.
-- A row of sums, as the products build it up: term after term.
use Rattle.std.specs.Prelude.{ℕ, List, get_or}
use Rattle.algebra.specs.Fold.{span}
use Rattle.algebra.specs.Kind.{Arith}

-- a row of sums, of which the first c have one term more: x times the like cell of `terms`
unfoldable pub with_terms : {A : Type 0} → Arith A → ℕ → List A → A → List A → List A
with_terms N c sums x terms = span 0 c (λ j. N.plus (get_or sums j N.void) (N.times x (get_or terms j N.void))) sums
