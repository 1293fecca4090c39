-- Document 01: "U: for r < s add (Q_rs − P_rΦP_s) × W_rs; add the transpose; add the r = s terms. Φ_A = Φ + (ΦUΦ) × 2. M: Φ and Φ_A times sigma2, each P divided by it; W unchanged."
use Rattle.std.specs.Prelude.{ℕ, ◌+◌, Bool, false, not, ◌||◌, List, [], ◌∷◌, get_or, replicate, set, Float}
use Rattle.std.specs.Float.{binary64}
use Rattle.std.specs.Float.Ieee.{add, sub, mul}
use Rattle.arithmetic.specs.declared.Marked.{Marked}
use Rattle.arithmetic.specs.Numbers.{plus_zero, is_finite}
use Rattle.algebra.specs.Fold.{fold, span}
use Rattle.algebra.specs.Table.{table, blank}
use Rattle.algebra.specs.Kind.{Arith, floats, marks}
use Rattle.algebra.specs.Product.{at, product, transpose, plus_cells, minus_cells, times_number, over_number}
use Rattle.algebra.specs.Jacobi.{State, two, jacobi}
use Rattle.algebra.specs.Small.{Rows, given_cells}
use Rattle.algebra.specs.Reasons.{first}
use Rattle.arithmetic_cutoffs.specs.declared.Cutoffs.{Cutoffs}
use Rattle.adjustment.specs.Covariance.{Design, parameters, matrices, g_rows, sigma_rows, cholesky, not_definite, inverse_factor, inverse_factor_refused, precision}
use Rattle.adjustment.specs.Information.{h_rows, o_rows, p_rows, q_rows, packed, k_cell, ie_cell, mirror, inverted, w_rows, w_refused}

-- several matrices, K of them stored
abbrev pub Stack : Type 0
Stack = List Rows

abbrev pub matrix_at : Stack → ℕ → Rows
matrix_at st r = get_or st r []

-- K stored matrices, of which the first k are f 0, .., f (k - 1), and the others zero
unfoldable pub stack : ℕ → ℕ → (ℕ → Rows) → Stack
stack K k f = span 0 k f (replicate K (blank plus_zero 6 6))

-- the packed Qs of N matrices: for each r, for each s from r on, in the order of packing
unfoldable pub q_stack : ℕ → (ℕ → ℕ → Rows) → Stack
q_stack N f = fold 0 N (λ r st. fold r N (λ s st. set st (packed N r s) (f r s)) st) (replicate 10 (blank plus_zero 6 6))

-- (Q_rs − (P_rΦ)P_s) × W_rs
unfoldable pub u_term : ℕ → Rows → Rows → Rows → Rows → Float → Rows
u_term p phi q pr ps w = times_number floats 6 6 p p (minus_cells floats 6 6 p p q (product floats 6 6 p p p (product floats 6 6 p p p pr phi) ps)) w

module _ (p N : ℕ) (phi : Rows) (ps qs : Stack) (w : Rows) where
  -- the term of r and s, r ≤ s: W_rs with r ≤ s alone is used
  unfoldable pub u_term_at : ℕ → ℕ → Rows
  u_term_at r s = u_term p phi (matrix_at qs (packed N r s)) (matrix_at ps r) (matrix_at ps s) (at floats w r s)

  -- the terms with r < s, r up to k
  unfoldable pub u_above : ℕ → Rows
  u_above k = fold 0 k (λ r u. fold (r + 1) N (λ s u. plus_cells floats 6 6 p p u (u_term_at r s)) u) (blank plus_zero 6 6)

  -- U: these, their transpose, then the terms with r = s
  unfoldable pub u_rows : Rows
  u_rows =
      let u : Rows = u_above N in
      fold 0 N (λ r u. plus_cells floats 6 6 p p u (u_term_at r r)) (plus_cells floats 6 6 p p u (transpose floats 6 6 p p u))

-- Φ_A = Φ + ((ΦU)Φ) × 2
unfoldable pub phi_a_rows : ℕ → Rows → Rows → Rows
phi_a_rows p phi u = plus_cells floats 6 6 p p phi (times_number floats 6 6 p p (product floats 6 6 p p p (product floats 6 6 p p p phi u) phi) two)

-- ---- the adjustment in residual units, step by step
pub record Adjustment : Type 0 where
  pub phi_a : Rows
  pub ps : Stack
  pub w : Rows
  pub rotations : ℕ

-- the Hs, the Os and the Ps of a design, given S; N of at most 4 are in use
unfoldable pub h_stack : Design → Rows → Stack
h_stack d s = span 0 (matrices d) (λ r. h_rows d.n (g_rows d r) s) (replicate 4 [])

unfoldable pub o_stack : Design → Stack → Stack
o_stack d hs = span 0 (matrices d) (λ r. o_rows d.n d.p (matrix_at hs r) d.x) (replicate 4 [])

unfoldable pub p_stack : Design → Stack → Rows → Stack
p_stack d os s = let sx : Rows = o_rows d.n d.p s d.x in stack 4 (matrices d) (λ r. p_rows d.n d.p (matrix_at os r) sx)

unfoldable pub q_stack_of : Design → Stack → Rows → Stack
q_stack_of d os s = q_stack (matrices d) (λ r t. q_rows d.n d.p (matrix_at os r) s (matrix_at os t))

-- IE
unfoldable pub ie_rows : Design → Rows → Stack → Stack → Stack → Rows
ie_rows d phi hs ps qs =
    mirror (matrices d) (λ r s. ie_cell d.p (k_cell d.n (matrix_at hs r) (matrix_at hs s)) phi (matrix_at qs (packed (matrices d) r s)) (matrix_at ps r) (matrix_at ps s))

-- Jacobi's last state on IE: its diagonal has IE's eigenvalues, and its count the rotations that were made
unfoldable pub eigen : Cutoffs → Design → Rows → State Float
eigen c d ie = jacobi floats c.rotation 6 6 (matrices d) ie

-- from S on: Φ_A, P, W and the rotations; and whether a zero pivot was met on the way to W
unfoldable pub from_precision : Cutoffs → Design → Rows → Rows → Adjustment
from_precision c d phi s =
    let hs : Stack = h_stack d s in
    let os : Stack = o_stack d hs in
    let ps : Stack = p_stack d os s in
    let qs : Stack = q_stack_of d os s in
    let ie : Rows = ie_rows d phi hs ps qs in
    let e : State Float = eigen c d ie in
    let w : Rows = w_rows (matrices d) (inverted c (matrices d) ie e.a) in
    record { phi_a = phi_a_rows d.p phi (u_rows d.p (matrices d) phi ps qs w); ps = ps; w = w; rotations = e.count }

unfoldable pub information_refused : Cutoffs → Design → Rows → Rows → Bool
information_refused c d phi s =
    let hs : Stack = h_stack d s in
    let os : Stack = o_stack d hs in
    let ie : Rows = ie_rows d phi hs (p_stack d os s) (q_stack_of d os s) in
    w_refused (matrices d) (inverted c (matrices d) ie (eigen c d ie).a)

-- S, by way of Σ, L and L⁻¹
unfoldable pub precision_of : Design → Rows
precision_of d = precision d.n (inverse_factor d.n (cholesky d.n (sigma_rows d)))

abbrev pub adjustment : Cutoffs → Design → Rows → Adjustment
adjustment c d phi = from_precision c d phi (precision_of d)

-- ---- the scaling by sigma2, on any kind of number; the document's steps are marked: Φ and Φ_A times it, each P divided by it
unfoldable pub scaled_up : {A : Type 0} → Arith A → ℕ → Rows → Float → List (List A)
scaled_up N p m sigma2 = times_number N 6 6 p p (given_cells N 6 6 p p m) (N.of sigma2)

unfoldable pub scaled_down : {A : Type 0} → Arith A → ℕ → Rows → Float → List (List A)
scaled_down N p m sigma2 = over_number N 6 6 p p (given_cells N 6 6 p p m) (N.of sigma2)

-- ---- the late refusal 4: some number of the output, scaled or not, is not finite
unfoldable pub not_all_finite : ℕ → ℕ → Rows → Bool
not_all_finite r c m = fold 0 r (λ i z. fold 0 c (λ j z. z || not (is_finite (at floats m i j))) z) false

unfoldable pub not_all_finite_marked : ℕ → ℕ → List (List Marked) → Bool
not_all_finite_marked r c m = fold 0 r (λ i z. fold 0 c (λ j z. z || not (is_finite (at marks m i j).value)) z) false

unfoldable pub output_not_finite : ℕ → ℕ → Rows → Float → Adjustment → Bool
output_not_finite p N phi sigma2 a =
    not_all_finite p p a.phi_a || not_all_finite N N a.w || not_all_finite_marked p p (scaled_up marks p phi sigma2) || not_all_finite_marked p p (scaled_up marks p a.phi_a sigma2)
    || fold 0 N (λ r z. z || not_all_finite p p (matrix_at a.ps r) || not_all_finite_marked p p (scaled_down marks p (matrix_at a.ps r) sigma2)) false

-- what refuses the adjustment, in document 01's order: 9 (a Cholesky diagonal of Σ not > 0), 10 (a zero pivot, of L or of the matrix that is inverted for W), then 4
unfoldable pub adjustment_reasons : Cutoffs → Design → Rows → Float → List (ℕ × Bool)
adjustment_reasons c d phi sigma2 =
    (9, not_definite d.n (sigma_rows d))
    ∷ (10, inverse_factor_refused d.n (cholesky d.n (sigma_rows d)))
    ∷ (10, information_refused c d phi (precision_of d))
    ∷ (4, output_not_finite d.p (matrices d) phi sigma2 (adjustment c d phi))
    ∷ []

-- the refusal of the adjustment, 0 for none
unfoldable pub adjustment_refusal : Cutoffs → Design → Rows → Float → ℕ
adjustment_refusal c d phi sigma2 = first (adjustment_reasons c d phi sigma2)
