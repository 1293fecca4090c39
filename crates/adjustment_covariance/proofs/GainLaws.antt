-- Laws of a row that gains multiples of rows, by rising index: it holds the dot products.
use Prim.Native.Nat.{ℕ, ◌+◌, ◌*◌, ◌<◌, ◌≤◌}
use native.Mathlib.Omega.{arith}
use native.Mathlib.Nat.{le_antisymm}
use mathlib.Core.Path.{◌≡◌, refl, sym, ap, ◌∙◌}
use mathlib.Core.List.{List}
use lib.ListN.{get_or, length}
use lib.Ieee.{Float, nan}
use Rattle.arithmetic.specs.Numbers.{plus_zero}
use Rattle.algebra.specs.Fold.{fold}
use Rattle.algebra.specs.Kind.{floats}
use Rattle.algebra.specs.Product.{at, sum, cell, product, transpose}
use Rattle.algebra.proofs.FoldLaws.{fold-ext}
use Rattle.algebra.proofs.TableLaws.{table_at}
use Rattle.algebra_large.specs.joints.Slab.{rows_at, put_row, put_rows, Holds, Apart}
use Rattle.algebra_large.proofs.SlabLaws.{put_row-is, put_row-at, row-over, fill-apart, rows_at-at, Shape, shape-table, read_back, frame}
use Rattle.algebra_large.proofs.ProductLaws.{terms-more, product_at}
use Rattle.algebra.specs.Small.{Rows}
use Rattle.adjustment.specs.Covariance.{Design, g_cell, g_rows}
use Rattle.adjustment.specs.Information.{h_rows, q_rows}
use Rattle.adjustment_covariance.specs.joints.Lent.{gained_with}
use Rattle.adjustment_covariance.proofs.DesignLaws.{g-at, turned-at}

-- no row yet
pub with_none : (d c q t : ℕ) (F : ℕ → Float) (bs xs : List Float) → d + c ≤ length xs → xs ≡ put_row d c (λ j. gained_with 0 F bs q t (get_or xs (d + j) nan) j) xs
unfolding gained_with fold
with_none d c q t F bs xs h = put_row-is d c (λ j. get_or xs (d + j) nan) xs xs h refl (λ j l. refl) (λ x o. refl)

-- one more row, whose cells are g
pub with-more : (F x g : ℕ → Float) (d c q t k : ℕ) (f : Float) (bs xs ys zs : List Float) → d + c ≤ length xs → f ≡ F k
    → ((j : ℕ) → j < c → g j ≡ get_or bs (q + k * t + j) nan) → ys ≡ put_row d c (λ j. gained_with k F bs q t (x j) j) xs
    → zs ≡ put_row d c (λ j. floats.plus (get_or ys (d + j) nan) (floats.times f (g j))) ys → zs ≡ put_row d c (λ j. gained_with (k + 1) F bs q t (x j) j) xs
unfolding gained_with
with-more F x g d c q t k f bs xs ys zs hl ef eg ey ez =
    terms-more (λ k j. floats.times (F k) (get_or bs (q + k * t + j) nan)) x (λ j. floats.times f (g j)) d c k xs ys zs hl ey ez (λ j l. rw (ef, eg j l))

pub with-end : (F : ℕ → Float) (d c q t k n : ℕ) (bs xs ys : List Float) → k ≤ n → n ≤ k
    → ys ≡ put_row d c (λ j. gained_with k F bs q t (get_or xs (d + j) nan) j) xs → ys ≡ put_row d c (λ j. gained_with n F bs q t (get_or xs (d + j) nan) j) xs
with-end F d c q t k n bs xs ys h l e = e ∙ ap (λ (m : ℕ). put_row d c (λ j. gained_with m F bs q t (get_or xs (d + j) nan) j) xs) (le_antisymm h l)

-- factors and cells that agree
pub with-ext : (F G : ℕ → Float) (n q t j : ℕ) (x : Float) (bs es : List Float) → ((k : ℕ) → k < n → G k ≡ F k)
    → ((k : ℕ) → k < n → get_or es (q + k * t + j) nan ≡ get_or bs (q + k * t + j) nan) → gained_with n G es q t x j ≡ gained_with n F bs q t x j
unfolding gained_with
with-ext F G n q t j x bs es ef eg =
    fold-ext 0 n (λ k y. floats.plus y (floats.times (G k) (get_or es (q + k * t + j) nan))) (λ k y. floats.plus y (floats.times (F k) (get_or bs (q + k * t + j) nan))) x
    (λ k lo hk y. rw (ef k hk, eg k hk))

-- the gains of a row that was cleared first
pub with-cleared : (F G : ℕ → Float) (d c q t n : ℕ) (bs es xs ys zs : List Float) → d + c ≤ length xs → ((k : ℕ) → k < n → G k ≡ F k)
    → ((k j : ℕ) → k < n → j < c → get_or es (q + k * t + j) nan ≡ get_or bs (q + k * t + j) nan) → ys ≡ put_row d c (λ j. plus_zero) xs
    → zs ≡ put_row d c (λ j. gained_with n G es q t (get_or ys (d + j) nan) j) ys → zs ≡ put_row d c (gained_with n F bs q t plus_zero) xs
with-cleared F G d c q t n bs es xs ys zs hl ef eg ey ez =
    row-over d c (λ j. plus_zero) (λ j. gained_with n G es q t (get_or ys (d + j) nan) j) (gained_with n F bs q t plus_zero) xs ys zs hl ey ez
    (λ j l.
    ap (λ (x : Float). gained_with n G es q t x j) (ap (λ (l : List Float). get_or l (d + j) nan) ey ∙ put_row-at d c (λ j. plus_zero) xs j l hl)
    ∙ with-ext F G n q t j plus_zero bs es ef (λ k hk. eg k j hk l))

-- a cell of a product
pub with-product : (F : ℕ → Float) (r n c q t i j : ℕ) (bs : List Float) (a b : Rows) → i < r → j < c → ((k : ℕ) → k < n → F k ≡ at floats a i k)
    → ((k : ℕ) → k < n → get_or bs (q + k * t + j) nan ≡ at floats b k j) → gained_with n F bs q t plus_zero j ≡ at floats (product floats r c r n c a b) i j
unfolding gained_with sum
with-product F r n c q t i j bs a b hi hj ea eb =
    fold-ext 0 n (λ k y. floats.plus y (floats.times (F k) (get_or bs (q + k * t + j) nan))) (λ k y. floats.plus y (floats.times (at floats a i k) (at floats b k j))) plus_zero
    (λ k lo hk y. rw (ea k hk, eb k hk))
    ∙ sym (product_at r n c a b i j hi hj)

-- row a of OᵀS at e, where the rows before it stand
pub turned-cells : (m : Rows) (e o n p q s a : ℕ) (ws xs ys : List Float) → Apart e (p * n) o (n * 6) → p ≤ 6 → a < p → ys ≡ put_rows n e a n m xs → (j : ℕ) → j < n
    → gained_with n (λ k. get_or ys (o + k * 6 + a) nan) ws q s plus_zero j
    ≡ at floats (product floats p n p n n (transpose floats p n n p (rows_at 6 o n p xs)) (rows_at s q n n ws)) a j
turned-cells m e o n p q s a ws xs ys h hp ha ey j hj =
    with-product (λ k. get_or ys (o + k * 6 + a) nan) p n n q s a j ws (transpose floats p n n p (rows_at 6 o n p xs)) (rows_at s q n n ws) ha hj
    (λ k hk.
    fill-apart n e p a n 6 o n p m xs ys h (omega arith) (omega arith) hp ey k a hk ha ∙ sym (rows_at-at 6 o n p xs k a hk ha)
    ∙ sym (turned-at p n k a (rows_at 6 o n p xs) hk ha))
    (λ k hk. sym (rows_at-at s q n n ws k j hk hj))

-- row i of G_r S at d, where the rows before it stand
pub h-cells : (m : Rows) (g : Design) (r d q s i : ℕ) (xs ys : List Float) → Apart d (g.n * s) q (g.n * s) → g.n ≤ s → i < g.n → ys ≡ put_rows s d i g.n m xs
    → (j : ℕ) → j < g.n → gained_with g.n (g_cell g r i) ys q s plus_zero j ≡ at floats (h_rows g.n (g_rows g r) (rows_at s q g.n g.n xs)) i j
unfolding h_rows
h-cells m g r d q s i xs ys h hs hi ey j hj =
    with-product (g_cell g r i) g.n g.n g.n q s i j ys (g_rows g r) (rows_at s q g.n g.n xs) hi hj
    (λ k hk. sym (g-at g r i k hi hk))
    (λ k hk. fill-apart s d g.n i g.n s q g.n g.n m xs ys h (omega arith) hs hs ey k j hk hj ∙ sym (rows_at-at s q g.n g.n xs k j hk hj))

-- a cell of a product that is stored in 6 rows of 6
pub small-product-at : (p n : ℕ) (a b : Rows) (i j : ℕ) → p ≤ 6 → i < p → j < p → at floats (product floats 6 6 p n p a b) i j ≡ cell floats n a b i j
unfolding product
small-product-at p n a b i j hp hi hj = table_at plus_zero 6 6 p p (cell floats n a b) i j nan hi hj hp hp

product-shape : (r n c : ℕ) (a b : Rows) → Shape r c (product floats r c r n c a b)
unfolding product
product-shape r n c a b = shape-table plus_zero r c (cell floats n a b)

-- Q, read where OᵀS was put
pub q-is : (e n p t : ℕ) (or s os : Rows) (m : Rows) (xs ys : List Float) → Holds n e p n (length xs) → Apart e (p * n) t (n * 6) → p ≤ 6
    → os ≡ rows_at 6 t n p xs → ys ≡ put_rows n e p n (product floats p n p n n (transpose floats p n n p or) s) xs
    → m ≡ product floats 6 6 p n p (rows_at n e p n ys) (rows_at 6 t n p ys) → m ≡ q_rows n p or s os
unfolding q_rows
q-is e n p t or s os m xs ys h ha hp eo ey em =
    em ∙ ap (λ (l : List Float). product floats 6 6 p n p (rows_at n e p n l) (rows_at 6 t n p l)) ey
    ∙ ap (λ (k : Rows). product floats 6 6 p n p k (rows_at 6 t n p (put_rows n e p n w xs))) (read_back xs h (product-shape p n n (transpose floats p n n p or) s))
    ∙ ap (λ (k : Rows). product floats 6 6 p n p w k) (frame n e p n 6 t n p w xs ha (omega arith) hp ∙ sym eo)
  where
    w : Rows
    w = product floats p n p n n (transpose floats p n n p or) s
