-- Document 01, "ddf.rs": "`satterthwaite_contrast_f_test` is the reference; its caller reduces L, so no basis here. M: LβD = Lβ − Lβ_H; v is the covariance of β, A that of the
-- parameters; V = LvLᵀ, each Jacobian gives J_i likewise. Everything up to and with g is marked, for one row or several."
-- All of it over a kind of number N: on marked numbers it is the test that the contracts cite, on plain ones the same test with no marks.
use Rattle.std.specs.Prelude.{ℕ, Bool, false, not, cond, ◌||◌, List, [], eqb, get_or, replicate, Option, Some, None, Float}
use Rattle.std.specs.Float.{nan}
use Rattle.std.specs.Float.Ieee.{lt, is_nan}
use Rattle.arithmetic.specs.Numbers.{plus_zero, of_count}
use Rattle.algebra.specs.Fold.{fold, span}
use Rattle.algebra.specs.Table.{row, table, blank}
use Rattle.algebra.specs.Kind.{Arith, zero_of}
use Rattle.algebra.specs.Product.{at, sum, cell, product, transpose, minus_cells}
use Rattle.algebra.specs.Jacobi.{State, jacobi}
use Rattle.algebra.specs.Small.{Rows, sandwich, given_cells, all_marks}
use Rattle.arithmetic_cutoffs.specs.declared.Cutoffs.{Cutoffs}
use Rattle.tests.specs.declared.Tested.{Tested}
use Rattle.tests.specs.Answer.{number_of, float_of}
use Rattle.tests.specs.Order.{index_at}
use Rattle.tests.specs.VarianceDf.{entry_at, variance_df, gradient_seen}
use Rattle.tests.specs.Both.{is_positive, square_one, stack_seen}
use Rattle.tests.specs.PooledDf.{tolerance, get_fstat_ddf}

-- ---- the matrices that a test starts from
-- b as a column
unfoldable pub column : {A : Type 0} → Arith A → ℕ → List Float → List (List A)
column N p b = table (zero_of N) 6 6 p 1 (λ i j. N.of (get_or b i nan))

-- "LβD = Lβ − Lβ_H": two products, and then their difference
unfoldable pub contrast_of : {A : Type 0} → Arith A → ℕ → ℕ → List (List A) → List Float → List Float → List (List A)
contrast_of N p q l beta beta_h = minus_cells N 6 6 q 1 (product N 6 6 q p 1 l (column N p beta)) (product N 6 6 q p 1 l (column N p beta_h))

-- "V = LvLᵀ"
unfoldable pub transformed : {A : Type 0} → Arith A → ℕ → ℕ → List (List A) → Rows → List (List A)
transformed N p q l m = sandwich N 6 6 q p l (given_cells N 6 6 p p m)

-- "each Jacobian gives J_i likewise"
unfoldable pub transformed_all : {A : Type 0} → Arith A → ℕ → ℕ → ℕ → List (List A) → List Rows → List (List (List A))
transformed_all N n p q l js = span 0 n (λ i. transformed N p q l (get_or js i [])) (replicate 4 (blank (zero_of N) 6 6))

-- ---- "One row": the gradient of its variance, the one cell of each J
unfoldable pub gradient_one : {A : Type 0} → Arith A → ℕ → List (List (List A)) → List A
gradient_one N n js = row (zero_of N) 6 n (λ i. at N (get_or js i []) 0 0)

-- ---- "Several rows: Jacobi of V; eigenvalues falling, ties by index"
-- the diagonal that Jacobi ends with, and whether refusal 11 holds of it: "several-row V has an eigenvalue not finite or ≤ 0"
unfoldable pub eigenvalues : {A : Type 0} → Arith A → ℕ → List (List A) → List Float
eigenvalues N q d = row plus_zero 6 q (λ i. N.value (at N d i i))

unfoldable pub not_positive : ℕ → List Float → Bool
not_positive q es = fold 0 q (λ i s. s || not (is_positive (get_or es i nan))) false

-- with the eigenvalues es: those of kind N, so marked ones with their marks, in falling order, and the eigenvectors as columns in the same order
unfoldable pub variances_of : {A : Type 0} → Arith A → ℕ → List Float → List (List A) → List A
variances_of N q es d = row (zero_of N) 6 q (λ k. at N d (index_at q es k) (index_at q es k))

unfoldable pub directions_of : {A : Type 0} → Arith A → ℕ → List Float → List (List A) → List (List A)
directions_of N q es v = table (zero_of N) 6 6 q q (λ r k. at N v r (index_at q es k))

-- "F = sum((x·LβD)²/eigenvalue)/q, x the eigenvector": x·LβD for each x, as a column, and F
unfoldable pub projected : {A : Type 0} → Arith A → ℕ → List (List A) → List (List A) → List (List A)
projected N q x ld = product N 6 6 q q 1 (transpose N 6 6 q q x) ld

unfoldable pub squares_over : {A : Type 0} → Arith A → ℕ → List (List A) → List A → A
squares_over N q y es = N.over (sum N q (λ k. N.over (N.times (at N y k 0) (at N y k 0)) (entry_at N es k))) (N.of (of_count q))

-- "x·(Jx)": Jx for each x, as the columns of a matrix for each Jacobian, and the gradient of component k
unfoldable pub jx_all : {A : Type 0} → Arith A → ℕ → ℕ → List (List (List A)) → List (List A) → List (List (List A))
jx_all N n q js x = span 0 n (λ i. product N 6 6 q q q (get_or js i []) x) (replicate 4 (blank (zero_of N) 6 6))

unfoldable pub gradient_at : {A : Type 0} → Arith A → ℕ → ℕ → List (List A) → List (List (List A)) → ℕ → List A
gradient_at N n q x jx k = row (zero_of N) 6 n (λ i. cell N q (transpose N 6 6 q q x) (get_or jx i []) k k)

-- "each component df by `variance_df` .., above 3000 it becomes 3000, only here"
unfoldable pub capped : Cutoffs → Option Float → Option Float
capped c None = None
capped c (Some x) = Some (cond (lt c.cap x) c.cap x)

unfoldable pub component_df : {A : Type 0} → Arith A → Cutoffs → ℕ → ℕ → Rows → List A → List (List A) → List (List (List A)) → ℕ → Option Float
component_df N c n q a es x jx k = capped c (variance_df N n a (entry_at N es k) (gradient_at N n q x jx k))

-- the components' degrees of freedom, with the Rust's NaN for none
unfoldable pub component_dfs : {A : Type 0} → Arith A → Cutoffs → ℕ → ℕ → Rows → List A → List (List A) → List (List (List A)) → List Float
component_dfs N c n q a es x jx = row plus_zero 6 q (λ k. float_of (component_df N c n q a es x jx k))

-- "Any none: df none. Otherwise `get_fstat_ddf`, tolerance 1e-8"
unfoldable pub any_none : ℕ → List Float → Bool
any_none q nu = fold 0 q (λ k s. s || is_nan (get_or nu k nan)) false

unfoldable pub several_df : ℕ → List Float → Option Float
several_df q nu = cond (any_none q nu) None (number_of (get_fstat_ddf q nu tolerance))

-- `seen`, with the marks of every component's g counted
unfoldable pub components_seen : {A : Type 0} → Arith A → ℕ → ℕ → List A → List (List A) → List (List (List A)) → A → A
components_seen N n q es x jx seen = fold 0 q (λ k s. gradient_seen N n (entry_at N es k) (gradient_at N n q x jx k) s) seen

-- ---- a test, whole
-- what is sent: p coefficients, q contrast rows, n parameters; L, β, β_H, v, the Jacobians and A
pub record Inputs : Type 0 where
  pub p : ℕ
  pub q : ℕ
  pub n : ℕ
  pub l : Rows
  pub beta : List Float
  pub beta_h : List Float
  pub v : Rows
  pub js : List Rows
  pub a : Rows

-- what it gives: whether 11 refuses the test, and its entry
module _ {A : Type 0} (N : Arith A) (c : Cutoffs) (s : Inputs) where
  abbrev pub l_rows : List (List A)
  l_rows = given_cells N 6 6 s.q s.p s.l

  unfoldable pub ld_rows : List (List A)
  ld_rows = contrast_of N s.p s.q l_rows s.beta s.beta_h

  unfoldable pub v_rows : List (List A)
  v_rows = transformed N s.p s.q l_rows s.v

  unfoldable pub j_stack : List (List (List A))
  j_stack = transformed_all N s.n s.p s.q l_rows s.js

  -- Jacobi of V: the rotated matrix, whose diagonal holds the eigenvalues, the eigenvectors, and the marks of the rotation tests
  unfoldable pub rotated_v : State A
  rotated_v = jacobi N c.rotation 6 6 s.q v_rows

  unfoldable pub variances : List A
  variances = variances_of N s.q (eigenvalues N s.q rotated_v.a) rotated_v.a

  unfoldable pub directions : List (List A)
  directions = directions_of N s.q (eigenvalues N s.q rotated_v.a) rotated_v.v

  unfoldable pub jx_stack : List (List (List A))
  jx_stack = jx_all N s.n s.q j_stack directions

  -- F with its mark: "One row: F = (LβD/sqrt V)²", made whatever V is, as in the Rust (only a NaN is none); and of several rows
  unfoldable pub f_one : A
  f_one = square_one N (at N ld_rows 0 0) (at N v_rows 0 0)

  unfoldable pub f_several : A
  f_several = squares_over N s.q (projected N s.q directions ld_rows) variances

  unfoldable pub df_one : Option Float
  df_one = variance_df N s.n s.a (at N v_rows 0 0) (gradient_one N s.n j_stack)

  unfoldable pub df_several : Option Float
  df_several = several_df s.q (component_dfs N c s.n s.q s.a variances directions jx_stack)

  -- THE MARK OF THE ENTRY: the conjunction over every marked step that is done. A cell carries the marks of all that it was made from, so the cells of LβD, V and every J_i count
  -- the products. One row then counts F and every g. Several rows count Jacobi's matrix, its vectors and the products of its rotation tests, F with x·LβD, and every g with Jx
  -- and x·(Jx). Where V of one row is not finite and > 0 no g is made; the root or the quotient has put the test outside already.
  unfoldable pub start_seen : A
  start_seen = stack_seen N s.n s.q j_stack (all_marks N s.q s.q v_rows (all_marks N s.q 1 ld_rows (zero_of N)))

  unfoldable pub seen_one : A
  seen_one = gradient_seen N s.n (at N v_rows 0 0) (gradient_one N s.n j_stack) (N.also start_seen f_one)

  unfoldable pub seen_several : A
  seen_several =
      let rotations : A = N.also (all_marks N s.q s.q rotated_v.v (all_marks N s.q s.q rotated_v.a start_seen)) rotated_v.seen in
      components_seen N s.n s.q variances directions jx_stack (N.also rotations f_several)

  -- "Rank is q"; one row never gives 11
  unfoldable pub one_row : Tested
  one_row = record { refused = false; entry = record { f = number_of (N.value f_one); df = df_one; rank = s.q; inside = N.inside seen_one } }

  unfoldable pub several_rows : Tested
  several_rows = record {
    refused = not_positive s.q (eigenvalues N s.q rotated_v.a);
    entry = record { f = number_of (N.value f_several); df = df_several; rank = s.q; inside = N.inside seen_several };
  }

  unfoldable pub satterthwaite : Tested
  satterthwaite = cond (eqb s.q 1) one_row several_rows
