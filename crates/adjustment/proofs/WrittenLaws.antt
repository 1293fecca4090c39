-- What the adjustment gives are f64 numbers, in tables: Φ_A, each P and W are sums and products, and each matrix is the table of its own cells, so that its cells say all of it.
use Prim.Native.Nat.{ℕ, ◌≤◌, ◌<◌}
use native.Mathlib.Omega.{arith}
use mathlib.Core.Path.{◌≡◌, ap, ◌∙◌}
use mathlib.Core.List.{[]}
use lib.Dec.{T}
use lib.ListN.{get_or, set, replicate, length-replicate}
use lib.Ieee.{nan, binary64, fits, mul}
use lib.Ieee.Fits.{add-fits, mul-fits}
use Rattle.arithmetic.specs.Numbers.{plus_zero, minus_one}
use Rattle.arithmetic_cutoffs.specs.declared.Cutoffs.{Cutoffs}
use Rattle.algebra.specs.Table.{table, blank}
use Rattle.algebra.specs.Kind.{floats}
use Rattle.algebra.specs.Product.{at, product, transpose, plus_cells}
use Rattle.algebra.specs.Elimination.{inverse}
use Rattle.algebra.specs.Jacobi.{two}
use Rattle.algebra.specs.Small.{Rows}
use Rattle.algebra.proofs.FoldLaws.{span-at, fold-ext}
use Rattle.algebra.proofs.TableLaws.{table_at, table-ext}
use Rattle.adjustment.specs.Covariance.{Design, matrices}
use Rattle.adjustment.specs.Information.{o_rows, p_rows, w_rows}
use Rattle.adjustment.specs.Adjusted.{Stack, matrix_at, stack, phi_a_rows, p_stack, from_precision, precision_of, adjustment}

-- ---- tables
-- the table of a table's own cells is the table
pub table-again : {A : Type 0} (z : A) (R C r c : ℕ) (f : ℕ → ℕ → A) (d : A) → r ≤ R → c ≤ C → table z R C r c (λ i j. get_or (get_or (table z R C r c f) i []) j d) ≡ table z R C r c f
table-again z R C r c f d hr hc = table-ext z R C r c (λ i j. get_or (get_or (table z R C r c f) i []) j d) f (λ i j hi hj. table_at z R C r c f i j d hi hj hr hc)

-- matrix r of a stack, and stacks of matrices that agree
pub stack_at : (K k : ℕ) (f : ℕ → Rows) (r : ℕ) → r < k → k ≤ K → matrix_at (stack K k f) r ≡ f r
unfolding stack
stack_at K k f r h l = span-at 0 k f (replicate K (blank plus_zero 6 6)) r [] (omega arith) h (omega (arith, length-replicate K (blank plus_zero 6 6)))

pub stack-ext : (K k : ℕ) (f g : ℕ → Rows) → ((r : ℕ) → r < k → f r ≡ g r) → stack K k f ≡ stack K k g
unfolding stack
stack-ext K k f g h = fold-ext 0 k (λ r st. set st r (f r)) (λ r st. set st r (g r)) (replicate K (blank plus_zero 6 6)) (λ r l m st. ap (λ (x : Rows). set st r x) (h r m))

-- ---- Φ_A, of 6 rows and columns p in use
pub phi_a-written : (p : ℕ) (phi u : Rows) → p ≤ 6 → (i j : ℕ) → i < p → j < p → T (fits binary64 (at floats (phi_a_rows p phi u) i j))
unfolding phi_a_rows plus_cells
phi_a-written p phi u hp i j h l = rw (table_at plus_zero 6 6 p p _ i j nan h l hp hp) (add-fits binary64 _ _)

phi_a-table : (p : ℕ) (phi u : Rows) → p ≤ 6 → table plus_zero 6 6 p p (at floats (phi_a_rows p phi u)) ≡ phi_a_rows p phi u
unfolding phi_a_rows plus_cells
phi_a-table p phi u hp = table-again plus_zero 6 6 p p _ nan hp hp

-- ---- a P
p-written : (n p : ℕ) (o sx : Rows) → p ≤ 6 → (i j : ℕ) → i < p → j < p → T (fits binary64 (at floats (p_rows n p o sx) i j))
unfolding p_rows
p-written n p o sx hp i j h l =
    let m : Rows = product floats 6 6 p n p (transpose floats p n n p o) sx in
    rw (table_at plus_zero 6 6 p p (λ a b. mul binary64 minus_one (at floats m a b)) i j nan h l hp hp) (mul-fits binary64 minus_one (at floats m i j))

p-table : (n p : ℕ) (o sx : Rows) → p ≤ 6 → table plus_zero 6 6 p p (at floats (p_rows n p o sx)) ≡ p_rows n p o sx
unfolding p_rows
p-table n p o sx hp =
    let m : Rows = product floats 6 6 p n p (transpose floats p n n p o) sx in
    table-again plus_zero 6 6 p p (λ a b. mul binary64 minus_one (at floats m a b)) nan hp hp

-- all of them
pub ps-written : (d : Design) (os : Stack) (s : Rows) → d.p ≤ 6 → matrices d ≤ 4 → (r : ℕ) → r < matrices d
    → (i j : ℕ) → i < d.p → j < d.p → T (fits binary64 (at floats (matrix_at (p_stack d os s) r) i j))
unfolding p_stack
ps-written d os s hp hN r h =
    let sx : Rows = o_rows d.n d.p s d.x in
    rw (stack_at 4 (matrices d) (λ r. p_rows d.n d.p (matrix_at os r) sx) r h hN) (p-written d.n d.p (matrix_at os r) sx hp)

ps-table : (d : Design) (os : Stack) (s : Rows) → d.p ≤ 6 → matrices d ≤ 4 → stack 4 (matrices d) (λ r. table plus_zero 6 6 d.p d.p (at floats (matrix_at (p_stack d os s) r))) ≡ p_stack d os s
unfolding p_stack
ps-table d os s hp hN =
    let sx : Rows = o_rows d.n d.p s d.x in
    let f : ℕ → Rows = λ r. p_rows d.n d.p (matrix_at os r) sx in
    stack-ext 4 (matrices d) (λ r. table plus_zero 6 6 d.p d.p (at floats (matrix_at (stack 4 (matrices d) f) r))) f
    (λ r h. ap (λ (m : Rows). table plus_zero 6 6 d.p d.p (at floats m)) (stack_at 4 (matrices d) f r h hN) ∙ p-table d.n d.p (matrix_at os r) sx hp)

-- ---- W
w-written : (N : ℕ) (m : Rows) → N ≤ 6 → (i j : ℕ) → i < N → j < N → T (fits binary64 (at floats (w_rows N m) i j))
unfolding w_rows
w-written N m hN i j h l =
    let v : Rows = inverse floats 6 12 6 N m in
    rw (table_at plus_zero 6 6 N N (λ i j. mul binary64 two (at floats v i j)) i j nan h l hN hN) (mul-fits binary64 two (at floats v i j))

w-table : (N : ℕ) (m : Rows) → N ≤ 6 → table plus_zero 6 6 N N (at floats (w_rows N m)) ≡ w_rows N m
unfolding w_rows
w-table N m hN =
    let v : Rows = inverse floats 6 12 6 N m in
    table-again plus_zero 6 6 N N (λ i j. mul binary64 two (at floats v i j)) nan hN hN

-- ---- the adjustment: its cells are f64 numbers, and each matrix is the table of its own
pub record WrittenAdjustment (c : Cutoffs) (d : Design) (phi : Rows) : Type 0 where
  pub phi_a : (i j : ℕ) → i < d.p → j < d.p → T (fits binary64 (at floats (adjustment c d phi).phi_a i j))
  pub ps : (r : ℕ) → r < matrices d → (i j : ℕ) → i < d.p → j < d.p → T (fits binary64 (at floats (matrix_at (adjustment c d phi).ps r) i j))
  pub w : (i j : ℕ) → i < matrices d → j < matrices d → T (fits binary64 (at floats (adjustment c d phi).w i j))
  pub phi_a_table : table plus_zero 6 6 d.p d.p (at floats (adjustment c d phi).phi_a) ≡ (adjustment c d phi).phi_a
  pub ps_table : stack 4 (matrices d) (λ r. table plus_zero 6 6 d.p d.p (at floats (matrix_at (adjustment c d phi).ps r))) ≡ (adjustment c d phi).ps
  pub w_table : table plus_zero 6 6 (matrices d) (matrices d) (at floats (adjustment c d phi).w) ≡ (adjustment c d phi).w

pub adjustment-in-tables : (c : Cutoffs) (d : Design) (phi : Rows) → d.p ≤ 6 → matrices d ≤ 4 → WrittenAdjustment c d phi
unfolding from_precision
adjustment-in-tables c d phi hp hN =
    let six : matrices d ≤ 6 = omega arith in
    record {
      phi_a = phi_a-written d.p phi _ hp;
      ps = ps-written d _ (precision_of d) hp hN;
      w = w-written (matrices d) _ six;
      phi_a_table = phi_a-table d.p phi _ hp;
      ps_table = ps-table d _ (precision_of d) hp hN;
      w_table = w-table (matrices d) _ six;
    }
