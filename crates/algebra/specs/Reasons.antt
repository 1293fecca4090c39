-- Document 01, "Refusals, lowest number first": what refuses, as a list of numbers, each with its condition, in the order in which they are asked.
use Rattle.std.specs.Prelude.{ℕ, Bool, cond, List, [], ◌∷◌}

-- the number of the first condition that holds, 0 where none does
unfoldable pub first : List (ℕ × Bool) → ℕ
first [] = 0
first (c ∷ cs) = cond c.1 c.0 (first cs)
