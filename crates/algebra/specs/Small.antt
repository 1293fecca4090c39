-- Small matrices: chained products, and the way from plain numbers to a kind of number and back.
use Rattle.std.specs.Prelude.{ℕ, List, get_or, Float}
use Rattle.arithmetic.specs.Numbers.{plus_zero}
use Rattle.arithmetic.specs.declared.Marked.{Marked}
use Rattle.algebra.specs.Fold.{fold, span}
use Rattle.algebra.specs.Table.{table}
use Rattle.algebra.specs.Kind.{Arith, zero_of, floats}
use Rattle.algebra.specs.Product.{at, product, transpose}

-- the rows of a matrix, of plain and of marked numbers
abbrev pub Rows : Type 0
Rows = List (List Float)

abbrev pub MarkedRows : Type 0
MarkedRows = List (List Marked)

-- (l m) lᵀ, for l of q rows and p columns. Document 01: "Chained products associate left."
unfoldable pub sandwich : {A : Type 0} → Arith A → ℕ → ℕ → ℕ → ℕ → List (List A) → List (List A) → List (List A)
sandwich N R C q p l m = product N R C q p q (product N R C q p p l m) (transpose N R C q p l)

-- each cell an input (document 01: "A marked number is a value together with its mark"), with zeros past the sizes
unfoldable pub given_cells : {A : Type 0} → Arith A → ℕ → ℕ → ℕ → ℕ → List (List Float) → List (List A)
given_cells N R C r c a = table (zero_of N) R C r c (λ i j. N.of (at floats a i j))

-- the values alone, with +0 past the sizes
unfoldable pub values : {A : Type 0} → Arith A → ℕ → ℕ → ℕ → ℕ → List (List A) → List (List Float)
values N R C r c a = table plus_zero R C r c (λ i j. N.value (at N a i j))

-- `seen`, with the mark of every cell of r rows and c columns counted, row after row
unfoldable pub all_marks : {A : Type 0} → Arith A → ℕ → ℕ → List (List A) → A → A
all_marks N r c a seen = fold 0 r (λ i s. fold 0 c (λ j s. N.also s (at N a i j)) s) seen
