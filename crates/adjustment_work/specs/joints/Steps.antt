-- Not needed to check document 01: names that join the code to its definitions.
-- Steps between S and IE, on the lent slices: where the code reads S, the Hs and the Os, and what its loops hold on the way.
use Rattle.std.specs.Prelude.{ℕ, ◌+◌, cond, List, leb, set, Float}
use Rattle.arithmetic.specs.Numbers.{plus_zero}
use Rattle.algebra.specs.Fold.{fold}
use Rattle.algebra.specs.Table.{table}
use Rattle.algebra.specs.Kind.{floats}
use Rattle.algebra.specs.Product.{product, transpose}
use Rattle.algebra_large.specs.joints.Slab.{rows_at, put_rows}
use Rattle.algebra.specs.Small.{Rows}
use Rattle.adjustment.specs.Information.{packed, k_cell, ie_cell}
use Rattle.adjustment.specs.Adjusted.{Stack, matrix_at}
use Rattle.adjustment_work.specs.joints.Work.{square, part}

-- S and H_r in the work slice; S X and O_r in the narrow slice
abbrev pub s_at : ℕ → ℕ → List Float → Rows
s_at s n work = rows_at s (square s 1) n n work

abbrev pub h_at : ℕ → ℕ → List Float → ℕ → Rows
h_at s n work r = rows_at s (square s (2 + r)) n n work

abbrev pub sx_at : ℕ → ℕ → ℕ → List Float → Rows
sx_at s n p narrow = rows_at 6 (part s 0) n p narrow

abbrev pub o_at : ℕ → ℕ → ℕ → List Float → ℕ → Rows
o_at s n p narrow r = rows_at 6 (part s (1 + r)) n p narrow

-- O_rᵀS, from O_r and S
unfoldable pub o_transposed_s : ℕ → ℕ → Rows → Rows → Rows
o_transposed_s n p o s = product floats p n p n n (transpose floats p n n p o) s

-- the narrow slice after O_rᵀS of each r < k was put into part 5, the one over the other
unfoldable pub o_transposed_s_to : ℕ → ℕ → ℕ → ℕ → (ℕ → Rows) → Rows → List Float → List Float
o_transposed_s_to s n p k o sm xs = fold 0 k (λ r ys. put_rows n (part s 5) p n (o_transposed_s n p (o r) sm) ys) xs

-- the Qs of one r, packed for N matrices: f t at its place, for each t from r up to hi
unfoldable pub q_row_to : ℕ → ℕ → ℕ → (ℕ → Rows) → Stack → Stack
q_row_to N r hi f st = fold r hi (λ t st. set st (packed N r t) (f t)) st

-- IE_rt, of the Hs in the work slice
unfoldable pub ie_at : ℕ → ℕ → ℕ → ℕ → Rows → Stack → Stack → List Float → ℕ → ℕ → Float
ie_at s n p N phi ps qs work r t = ie_cell p (k_cell n (h_at s n work r) (h_at s n work t)) phi (matrix_at qs (packed N r t)) (matrix_at ps r) (matrix_at ps t)

-- the cells with r ≤ t, and zeros below the diagonal
unfoldable pub upper_cell : (ℕ → ℕ → Float) → ℕ → ℕ → Float
upper_cell f r t = cond (leb r t) (f r t) plus_zero

unfoldable pub upper : ℕ → (ℕ → ℕ → Float) → Rows
upper N f = table plus_zero 6 6 N N (upper_cell f)
