-- Not needed to check document 01: names that join the code to its definitions.
-- Steps inside the large matrices' functions: what a row holds after a part of its work. The contracts of whole matrices cite none of these.
use Rattle.std.specs.Prelude.{ℕ, ◌+◌, ◌-◌, ◌*◌, cond, List, ltb, eqb, get_or, set, Float}
use Rattle.std.specs.Float.{nan}
use Rattle.arithmetic.specs.Numbers.{plus_zero, one}
use Rattle.algebra.specs.Fold.{fold}
use Rattle.algebra.specs.Table.{row}
use Rattle.algebra.specs.Kind.{floats}
use Rattle.algebra.specs.Product.{at}
use Rattle.algebra.specs.Elimination.{back_cell}

-- Document 01: "Dot products and sums: from +0, left to right": x with cell (k, o) of the matrix at p of ys times cell (k, j) of the matrix at q of xs joined,
-- for each k < n by rising index
unfoldable pub gained_to : ℕ → List Float → ℕ → ℕ → ℕ → List Float → ℕ → ℕ → Float → ℕ → Float
gained_to n ys p u o xs q t x j = fold 0 n (λ k y. floats.plus y (floats.times (get_or ys (p + k * u + o) nan) (get_or xs (q + k * t + j) nan))) x

-- Document 01: "Back substitution subtracts known terms by rising index": x less cell j of A's row at p times cell (j, k) of the matrix at d, for each j from i + 1 up to hi
unfoldable pub known_less : ℕ → List Float → ℕ → ℕ → ℕ → ℕ → Float → ℕ → Float
known_less hi xs d t p i x k = fold (i + 1) hi (λ j y. floats.minus y (floats.times (get_or xs (p + j) nan) (get_or xs (d + j * t + k) nan))) x

-- the last h rows of x replaced by those of the solution, from the last; `back_to` starts with zeros
unfoldable pub back_over : ℕ → ℕ → ℕ → List (List Float) → List (List Float) → List (List Float)
back_over h n cols m x = fold 0 h (λ h x. set x (n - 1 - h) (row plus_zero cols cols (back_cell floats n m x (n - 1 - h)))) x

-- Document 01: "Inverse: B = identity": cell j of row i of a matrix beside the identity, where the matrix's row stands at b
unfoldable pub joined_cell : ℕ → List Float → ℕ → ℕ → ℕ → Float
joined_cell n xs b i j = cond (ltb j n) (get_or xs (b + j) nan) (cond (eqb i (j - n)) one plus_zero)

-- Document 01: "K_rs = sum over i, j of H_r[j,i] × H_s[i,j]": x with the terms of one i joined
unfoldable pub crossed : ℕ → List (List Float) → List (List Float) → ℕ → Float → Float
crossed n p q i x = fold 0 n (λ j y. floats.plus y (floats.times (at floats p j i) (at floats q i j))) x
