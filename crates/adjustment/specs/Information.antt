-- Document 01: "H_r = G_r S; O_r = H_r X; P_r = -1 × (O_rᵀ(S X)); Q_rs = (O_rᵀ S) O_s, r ≤ s, packed at a·N − a(a+1)/2 + b, a the smaller index. K_rs = sum over i, j of
-- H_r[j,i] × H_s[i,j]. IE_rs = (K_rs − 2·cells(Φ, Q_rs)) + cells(ΦP_r, P_sΦ), for r ≤ s and mirrored; .. With the smallest eigenvalue magnitude of IE > 1e-10 (NaN passed
-- over, from infinity) W = 2·IE⁻¹; otherwise 1e-8 joins each diagonal first." The small matrices are stored in 6 rows of 6.
use Rattle.std.specs.Prelude.{ℕ, ◌+◌, ◌-◌, ◌*◌, ◌/◌, Bool, true, false, cond, List, [], eqb, leb, ltb, get_or, pos, Float}
use Rattle.std.specs.Float.{fin, inf, binary64}
use Rattle.std.specs.Float.Ieee.{add, sub, mul, lt}
use Rattle.arithmetic.specs.Numbers.{plus_zero, minus_one, magnitude}
use Rattle.algebra.specs.Fold.{fold}
use Rattle.algebra.specs.Table.{table}
use Rattle.algebra.specs.Kind.{floats}
use Rattle.algebra.specs.Product.{at, product, transpose, sum_cells, like_cells}
use Rattle.algebra.specs.Elimination.{inverse, inverse_refused}
use Rattle.algebra.specs.Jacobi.{two, jacobi}
use Rattle.arithmetic_cutoffs.specs.declared.Cutoffs.{Cutoffs}
use Rattle.algebra.specs.Small.{Rows}

-- H_r, from G_r and S; O_r, from H_r and X; S X
unfoldable pub h_rows : ℕ → Rows → Rows → Rows
h_rows n g s = product floats n n n n n g s

unfoldable pub o_rows : ℕ → ℕ → Rows → Rows → Rows
o_rows n p h x = product floats n p n n p h x

-- P_r, from O_r and S X
unfoldable pub p_rows : ℕ → ℕ → Rows → Rows → Rows
p_rows n p o sx = let m : Rows = product floats 6 6 p n p (transpose floats p n n p o) sx in table plus_zero 6 6 p p (λ a b. mul binary64 minus_one (at floats m a b))

-- Q_rs, from O_r, S and O_s
unfoldable pub q_rows : ℕ → ℕ → Rows → Rows → Rows → Rows
q_rows n p or s os = product floats 6 6 p n p (product floats p n p n n (transpose floats p n n p or) s) os

-- where Q_rs is packed, for N matrices: a the smaller index, b the larger
unfoldable pub packed : ℕ → ℕ → ℕ → ℕ
packed N r s = let a : ℕ = cond (leb r s) r s in let b : ℕ = cond (leb r s) s r in a * N - a * (a + 1) / 2 + b

-- K_rs
unfoldable pub k_cell : ℕ → Rows → Rows → Float
k_cell n hr hs = sum_cells floats n n (λ i j. mul binary64 (at floats hr j i) (at floats hs i j))

-- IE_rs, from K_rs, Φ, Q_rs, P_r and P_s
unfoldable pub ie_cell : ℕ → Float → Rows → Rows → Rows → Rows → Float
ie_cell p k phi q pr ps =
    add binary64 (sub binary64 k (mul binary64 two (like_cells floats p p phi q)))
    (like_cells floats p p (product floats 6 6 p p p phi pr) (product floats 6 6 p p p ps phi))

-- IE, from its cells with r ≤ s
unfoldable pub mirror : ℕ → (ℕ → ℕ → Float) → Rows
mirror N f = table plus_zero 6 6 N N (λ r s. cond (leb r s) (f r s) (f s r))

-- the smallest magnitude on the diagonal: from infinity, replaced by a smaller one, so that a NaN is passed over
unfoldable pub smallest : ℕ → Rows → Float
smallest N m = fold 0 N (λ i s. let v : Float = magnitude (at floats m i i) in cond (lt v s) v s) (inf false)

-- IE with the ridge on its diagonal
unfoldable pub ridged : Float → ℕ → Rows → Rows
ridged x N ie = table plus_zero 6 6 N N (λ i j. cond (eqb i j) (add binary64 (at floats ie i j) x) (at floats ie i j))

-- the matrix that is inverted, given IE's eigenvalues
unfoldable pub inverted : Cutoffs → ℕ → Rows → Rows → Rows
inverted c N ie eigen = cond (lt c.eigenvalue (smallest N eigen)) ie (ridged c.ridge N ie)

-- W = 2 times its inverse; refusal 10 where a pivot is zero
unfoldable pub w_rows : ℕ → Rows → Rows
w_rows N m = let v : Rows = inverse floats 6 12 6 N m in table plus_zero 6 6 N N (λ i j. mul binary64 two (at floats v i j))

unfoldable pub w_refused : ℕ → Rows → Bool
w_refused N m = inverse_refused floats 6 12 6 N m
