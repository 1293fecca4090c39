-- Not needed to check document 01: names that join the code to its definitions.
-- The numbers of a sheet from a place on. The sheet is that of crates/records_sheet/specs/joints/Sheet.antt.
use Rattle.std.specs.Prelude.{ℕ, ◌+◌, ◌*◌, List, get_or, replicate, Float}
use Rattle.std.specs.Float.{nan}
use Rattle.arithmetic.specs.Numbers.{plus_zero}
use Rattle.algebra.specs.Fold.{span}
use Rattle.algebra.specs.Table.{row, table, blank}

-- n numbers, of C
unfoldable pub numbers_at : List Float → ℕ → ℕ → ℕ → List Float
numbers_at sheet C at n = row plus_zero C n (λ i. get_or sheet (at + i) nan)

-- r rows of c, of six rows of six; n such tables of p rows of p, of four
unfoldable pub cells_at : List Float → ℕ → ℕ → ℕ → List (List Float)
cells_at sheet at r c = table plus_zero 6 6 r c (λ i j. get_or sheet (at + i * c + j) nan)

unfoldable pub stack_at : List Float → ℕ → ℕ → ℕ → List (List (List Float))
stack_at sheet at n p = span 0 n (λ i. cells_at sheet (at + i * (p * p)) p p) (replicate 4 (blank plus_zero 6 6))
