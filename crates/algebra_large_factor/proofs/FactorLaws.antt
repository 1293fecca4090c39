-- Laws of the Cholesky factor in place.
use Prim.Native.Nat.{ℕ, ◌+◌, ◌-◌, ◌*◌, ◌<◌, ◌≤◌}
use native.Mathlib.Omega.{arith}
use mathlib.Core.Path.{◌≡◌, refl, sym, ap, ◌∙◌}
use mathlib.Core.Bool.{Bool, cond, false, ◌||◌}
use mathlib.Core.List.{List}
use lib.Dec.{ltb}
use lib.ListN.{get_or, set, length}
use lib.Ieee.{Float, nan}
use borrow.Author.Tests.{lt-ltb, le-ltb}
use Rattle.arithmetic.specs.Numbers.{plus_zero}
use Rattle.algebra.specs.Kind.{floats}
use Rattle.algebra.specs.Product.{at}
use Rattle.algebra.specs.Cholesky.{put, less_dot, below_diagonal, cholesky_column, cholesky_to, not_positive, cholesky_refused, lower}
use Rattle.algebra.proofs.FoldLaws.{fold_more, fold-keeps, fold_next}
use Rattle.algebra.proofs.TableLaws.{table_at}
use Rattle.algebra_large.specs.joints.Slab.{rows_at, put_row, put_rows, Holds}
use Rattle.algebra_large.proofs.SlabLaws.{Shape, shape-rows_at, put_same, rows_at-at, row_fits, fill-own, fill_more, length-put_rows}
use Rattle.algebra_large.proofs.InPlace.{read-now, shape-put, cell-step, put-turn, fold-turn, part-row}

pub shape-below : {n : ℕ} {m : List (List Float)} (k j : ℕ) (d : Float) → k ≤ n → Shape n n m → Shape n n (below_diagonal floats k j d m)
unfolding below_diagonal
shape-below {n} {m} k j d hk h =
    fold-keeps (λ x. Shape n n x) (j + 1) k (λ i m. put floats i j (floats.over (less_dot floats j m i j) d) m) m h
    (λ i lo hi x q. shape-put i j (floats.over (less_dot floats j x i j) d) (omega arith) q)

pub shape-column : {n : ℕ} {m : List (List Float)} (j : ℕ) → j < n → Shape n n m → Shape n n (cholesky_column floats n j m)
unfolding cholesky_column
shape-column {n} {m} j hj h =
    let d : Float = floats.root (less_dot floats j m j j) in shape-below n j d (omega arith) (shape-put j j d hj h)

pub shape-cholesky : {n : ℕ} {m : List (List Float)} (k : ℕ) → k ≤ n → Shape n n m → Shape n n (cholesky_to floats k n m)
unfolding cholesky_to
shape-cholesky {n} {m} k hk h =
    fold-keeps (λ x. Shape n n x) 0 k (λ j m. cholesky_column floats n j m) m h (λ j lo hj x q. shape-column j (omega arith) q)

-- one more cell below the diagonal
pub below_more : (s a n i j p : ℕ) (d x : Float) (m : List (List Float)) (xs ys : List Float) → Holds s a n n (length xs) → Shape n n m → j + 1 ≤ i → i < n
    → p ≡ a + i * s → ys ≡ put_rows s a n n (below_diagonal floats i j d m) xs → x ≡ less_dot floats j (rows_at s a n n ys) i j
    → set ys (p + j) (floats.over x d) ≡ put_rows s a n n (below_diagonal floats (i + 1) j d m) xs
unfolding below_diagonal
below_more s a n i j p d x m xs ys h q lo hi ep ey ex =
    let k : List (List Float) = below_diagonal floats i j d m in
    let g : Shape n n k = shape-below i j d (omega arith) q in
    let v : floats.over x d ≡ floats.over (less_dot floats j k i j) d =
    ap (λ (y : Float). floats.over y d) (ex ∙ ap (λ (z : List (List Float)). less_dot floats j z i j) (read-now s a n n k xs ys h g ey)) in
    cell-step s a n n k i j p (floats.over x d) xs ys h g hi (omega arith) ep ey
    ∙ ap (λ (y : Float). put_rows s a n n (put floats i j y k) xs) v
    ∙ ap (λ (z : List (List Float)). put_rows s a n n z xs)
    (sym (fold_more (j + 1) i (λ i m. put floats i j (floats.over (less_dot floats j m i j) d) m) m lo))

-- column j, from its root on
pub column-done : (s a n j p : ℕ) (d x : Float) (xs ys zs : List Float) → Holds s a n n (length xs) → j < n → p ≡ a + j * s
    → x ≡ less_dot floats j (rows_at s a n n xs) j j → d ≡ floats.root x → ys ≡ set xs (p + j) d
    → zs ≡ put_rows s a n n (below_diagonal floats n j d (rows_at s a n n ys)) ys → zs ≡ put_rows s a n n (cholesky_column floats n j (rows_at s a n n xs)) xs
unfolding cholesky_column
column-done s a n j p d x xs ys zs h hj ep ex ed ey ez =
    let m : List (List Float) = rows_at s a n n xs in
    let q : Shape n n m = shape-rows_at s a n n xs in
    let e : ys ≡ put_rows s a n n (put floats j j d m) xs = ey ∙ cell-step s a n n m j j p d xs xs h q hj hj ep (put_same xs h) in
    let z : d ≡ floats.root (less_dot floats j m j j) = ed ∙ ap (λ (y : Float). floats.root y) ex in
    put-turn (below_diagonal floats n j d) s a n n (put floats j j d m) xs ys zs h (shape-put j j d hj q) e ez
    ∙ ap (λ (y : Float). put_rows s a n n (below_diagonal floats n j y (put floats j j y m)) xs) z

-- one more column, and whether it is refused
pub column-more : (s a n j : ℕ) (m : List (List Float)) (xs ys zs : List Float) → Holds s a n n (length xs) → Shape n n m → j < n
    → ys ≡ put_rows s a n n (cholesky_to floats j n m) xs → zs ≡ put_rows s a n n (cholesky_column floats n j (rows_at s a n n ys)) ys
    → zs ≡ put_rows s a n n (cholesky_to floats (j + 1) n m) xs
unfolding cholesky_to
column-more s a n j m xs ys zs h q hj ey ez =
    fold-turn (λ j m. cholesky_column floats n j m) 0 j s a n n m xs ys zs h (omega arith) (shape-cholesky j (omega arith) q) ey ez

pub refused-more : (s a n j : ℕ) (m : List (List Float)) (xs ys : List Float) (b z : Bool) → Holds s a n n (length xs) → Shape n n m → j < n
    → ys ≡ put_rows s a n n (cholesky_to floats j n m) xs → z ≡ cholesky_refused floats j n m → b ≡ not_positive floats j (rows_at s a n n ys)
    → z || b ≡ cholesky_refused floats (j + 1) n m
unfolding cholesky_refused
refused-more s a n j m xs ys b z h q hj ey ez eb =
    let e : rows_at s a n n ys ≡ cholesky_to floats j n m = read-now s a n n (cholesky_to floats j n m) xs ys h (shape-cholesky j (omega arith) q) ey in
    fold_next 0 j (λ j z. z || not_positive floats j (cholesky_to floats j n m)) false z (z || b) (omega arith) ez
    (ap (λ (x : Bool). z || x) (eb ∙ ap (λ (k : List (List Float)). not_positive floats j k) e))

pub lower-at : (n : ℕ) (m : List (List Float)) (i j : ℕ) → i < n → j < n → at floats (lower floats n n n m) i j ≡ cond (ltb i j) plus_zero (at floats m i j)
unfolding lower
lower-at n m i j hi hj = table_at plus_zero n n n n (λ i j. cond (ltb i j) plus_zero (at floats m i j)) i j nan hi hj (omega arith) (omega arith)

-- row i with zeros above the diagonal, where the rows before it stand
pub lower-more : (s a n i e d k : ℕ) (xs ys zs : List Float) → Holds s a n n (length xs) → i < n → e ≡ a + i * s → d ≡ e + (i + 1) → i + 1 + k ≡ n
    → ys ≡ put_rows s a i n (lower floats n n n (rows_at s a n n xs)) xs → zs ≡ put_row d k (λ j. plus_zero) ys
    → zs ≡ put_rows s a (i + 1) n (lower floats n n n (rows_at s a n n xs)) xs
lower-more s a n i e d k xs ys zs h hi ee ed ek ey ez =
    let m : List (List Float) = rows_at s a n n xs in
    let long : length ys ≡ length xs = ap length ey ∙ length-put_rows s a i n (lower floats n n n m) xs in
    fill_more s a i n e (lower floats n n n m) (λ j. at floats (lower floats n n n m) i j) xs ys zs ee ey
    (part-row e (i + 1) k n (λ j. plus_zero) (λ j. at floats (lower floats n n n m) i j) d ys zs ed ek (omega (arith, row_fits h i hi, long)) ez
    (λ j hj.
    ap (λ (x : ℕ). get_or ys (x + j) nan) ee ∙ fill-own s a i n (lower floats n n n m) xs ys h.wide ey j (omega arith) ∙ sym (rows_at-at s a n n xs i j hi (omega arith))
    ∙ rw (lower-at n m i j hi (omega arith), le-ltb i j (omega arith)))
    (λ j hj. rw (lower-at n m i (i + 1 + j) hi (omega arith), lt-ltb i (i + 1 + j) (omega arith))))
    (λ j hj. refl)
