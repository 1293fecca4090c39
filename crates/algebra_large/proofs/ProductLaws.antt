-- Laws of products in one list: a row that gains multiples of rows, by rising index, holds the dot products.
use Prim.Native.Nat.{ℕ, suc, ◌+◌, ◌*◌, ◌<◌, ◌≤◌}
use native.Mathlib.Omega.{arith}
use mathlib.Core.Path.{◌≡◌, refl, sym, ap, ◌∙◌}
use native.Mathlib.Nat.{le_antisymm}
use mathlib.Core.List.{List, []}
use mathlib.Core.Logic.{◌⊎◌, inl, inr, ⊎_elim}
use lib.ListN.{get_or, length, replicate, get_or-replicate}
use lib.Ieee.{Float, nan}
use Rattle.arithmetic.specs.Numbers.{plus_zero}
use Rattle.algebra.specs.Fold.{fold}
use Rattle.algebra.specs.Table.{blank}
use Rattle.algebra.specs.Kind.{floats}
use Rattle.algebra.specs.Product.{at, sum, cell, product, transpose}
use Rattle.algebra.proofs.FoldLaws.{fold-ext, fold_more}
use Rattle.algebra.proofs.TableLaws.{table_at}
use Rattle.algebra_large.specs.joints.Slab.{rows_at, put_row, put_rows, gained, gram_of, Holds, Apart}
use Rattle.algebra_large.specs.joints.Steps.{gained_to}
use Rattle.algebra_large.proofs.SlabLaws.{row_in, put_row-is, put_row-at, row-ahead, row-over, apart-ne, rows_at-at, fill-own, fill-apart}

-- no row yet
pub gain-none : (d c p u o q t : ℕ) (ws bs xs : List Float) → d + c ≤ length xs
    → xs ≡ put_row d c (λ j. gained_to 0 ws p u o bs q t (get_or xs (d + j) nan) j) xs
unfolding gained_to fold
gain-none d c p u o q t ws bs xs h = put_row-is d c (λ j. get_or xs (d + j) nan) xs xs h refl (λ j l. refl) (λ x o. refl)

-- a cell of a matrix that is apart from the row
pub apart-cell : {d c p n u : ℕ} (g : ℕ → Float) (xs ys : List Float) → Apart d c p (n * u) → ys ≡ put_row d c g xs → (k o : ℕ) → k < n → o < u
    → get_or ys (p + k * u + o) nan ≡ get_or xs (p + k * u + o) nan
apart-cell {d} {c} {p} {n} {u} g xs ys h e k o hk ho =
    row-ahead d c g xs ys e (p + k * u + o)
    (λ i hi q. apart-ne h i (k * u + o) hi (omega (arith, row_in u n (suc o) k hk ho)) (omega arith))

-- a row that gains terms: term (k, j) joins cell j in turn k
pub terms-more : (T : ℕ → ℕ → Float) (x h : ℕ → Float) (d c k : ℕ) (xs ys zs : List Float) → d + c ≤ length xs
    → ys ≡ put_row d c (λ j. fold 0 k (λ k y. floats.plus y (T k j)) (x j)) xs → zs ≡ put_row d c (λ j. floats.plus (get_or ys (d + j) nan) (h j)) ys
    → ((j : ℕ) → j < c → h j ≡ T k j) → zs ≡ put_row d c (λ j. fold 0 (k + 1) (λ k y. floats.plus y (T k j)) (x j)) xs
terms-more T x h d c k xs ys zs hl ey ez hh =
    row-over d c g (λ j. floats.plus (get_or ys (d + j) nan) (h j)) (λ j. fold 0 (k + 1) (λ k y. floats.plus y (T k j)) (x j)) xs ys zs hl ey ez
    (λ j l.
    let own : get_or ys (d + j) nan ≡ g j = ap (λ (l : List Float). get_or l (d + j) nan) ey ∙ put_row-at d c g xs j l hl in
    rw (own, hh j l) (sym (fold_more 0 k (λ k y. floats.plus y (T k j)) (x j) (omega arith))))
  where
    g : ℕ → Float
    g j = fold 0 k (λ k y. floats.plus y (T k j)) (x j)

-- one more row
pub gain-more : (x : ℕ → Float) (d c p u o q t n k a b : ℕ) (f : Float) (xs ys zs : List Float) → d + c ≤ length xs → Apart d c p (n * u) → Apart d c q (n * t)
    → k < n → o < u → c ≤ t → a ≡ p + k * u → b ≡ q + k * t → f ≡ get_or ys (a + o) nan
    → ys ≡ put_row d c (λ j. gained_to k xs p u o xs q t (x j) j) xs
    → zs ≡ put_row d c (λ j. floats.plus (get_or ys (d + j) nan) (floats.times f (get_or ys (b + j) nan))) ys
    → zs ≡ put_row d c (λ j. gained_to (k + 1) xs p u o xs q t (x j) j) xs
unfolding gained_to
gain-more x d c p u o q t n k a b f xs ys zs hl hp hq hk ho hc ea eb ef ey ez =
    terms-more (λ k j. floats.times (get_or xs (p + k * u + o) nan) (get_or xs (q + k * t + j) nan)) x (λ j. floats.times f (get_or ys (b + j) nan)) d c k xs ys zs hl ey ez
    (λ j l.
    let left : f ≡ get_or xs (p + k * u + o) nan =
    ef ∙ ap (λ (x : ℕ). get_or ys (x + o) nan) ea ∙ apart-cell (λ j. gained_to k xs p u o xs q t (x j) j) xs ys hp ey k o hk ho in
    let right : get_or ys (b + j) nan ≡ get_or xs (q + k * t + j) nan =
    ap (λ (x : ℕ). get_or ys (x + j) nan) eb ∙ apart-cell (λ j. gained_to k xs p u o xs q t (x j) j) xs ys hq ey k j hk (omega arith) in
    rw (left, right))

pub gain-end : (d c p u o q t k n : ℕ) (ws bs xs ys : List Float) → k ≤ n → n ≤ k
    → ys ≡ put_row d c (λ j. gained_to k ws p u o bs q t (get_or xs (d + j) nan) j) xs → ys ≡ put_row d c (λ j. gained_to n ws p u o bs q t (get_or xs (d + j) nan) j) xs
gain-end d c p u o q t k n ws bs xs ys h l e =
    e ∙ ap (λ (m : ℕ). put_row d c (λ j. gained_to m ws p u o bs q t (get_or xs (d + j) nan) j) xs) (le_antisymm h l)

-- a row that is apart from a matrix is apart from each of its rows
pub row-apart-of : {d c q n t e : ℕ} → Apart d c q (n * t) → (k b : ℕ) → k < n → e ≤ t → b ≡ q + k * t → Apart d c b e
row-apart-of {d} {c} {q} {n} {t} {e} h k b hk he eb =
    let y : k * t + e ≤ n * t = row_in t n e k hk he in
    record { apart = ⊎_elim (λ u. inl (omega arith)) (λ u. inr (omega arith)) h.apart }

-- each row of a matrix that is apart from another is apart from the whole of it
pub row-apart-whole : (s r : ℕ) {d p n : ℕ} → Apart d (r * s) p n → (i c a : ℕ) → i < r → c ≤ s → a ≡ d + i * s → Apart a c p n
row-apart-whole s r {d} {p} {n} h i c a hi hc ea =
    let y : i * s + c ≤ r * s = row_in s r c i hi hc in
    record { apart = ⊎_elim (λ u. inl (omega arith)) (λ u. inr (omega arith)) h.apart }

-- n cells side by side are n rows of one cell
pub row-apart-one : {d c p n : ℕ} → Apart d c p n → Apart d c p (n * 1)
row-apart-one {d} {c} {p} {n} h = record { apart = ⊎_elim (λ u. inl (omega arith)) (λ u. inr (omega arith)) h.apart }

pub row-holds : {p n len : ℕ} → p + n ≤ len → Holds 1 p n (0 + 1) len
row-holds h = record { wide = omega arith; fits = omega arith }

-- the gains of a row that was cleared first
pub gain-cleared : (d c p u o q t n : ℕ) (xs ys zs : List Float) → d + c ≤ length xs → Apart d c p (n * u) → Apart d c q (n * t) → o < u → c ≤ t
    → ys ≡ put_row d c (λ j. plus_zero) xs → zs ≡ put_row d c (λ j. gained_to n ys p u o ys q t (get_or ys (d + j) nan) j) ys
    → zs ≡ put_row d c (gained_to n xs p u o xs q t plus_zero) xs
unfolding gained_to
gain-cleared d c p u o q t n xs ys zs hl hp hq ho hc ey ez =
    row-over d c (λ j. plus_zero) (λ j. gained_to n ys p u o ys q t (get_or ys (d + j) nan) j) (gained_to n xs p u o xs q t plus_zero) xs ys zs hl ey ez
    (λ j l.
    let own : get_or ys (d + j) nan ≡ plus_zero = ap (λ (zs : List Float). get_or zs (d + j) nan) ey ∙ put_row-at d c (λ j. plus_zero) xs j l hl in
    rw own
    (fold-ext 0 n
    (λ k y. floats.plus y (floats.times (get_or ys (p + k * u + o) nan) (get_or ys (q + k * t + j) nan)))
    (λ k y. floats.plus y (floats.times (get_or xs (p + k * u + o) nan) (get_or xs (q + k * t + j) nan))) plus_zero
    (λ k lo hk y. rw (apart-cell (λ j. plus_zero) xs ys hp ey k o hk ho, apart-cell (λ j. plus_zero) xs ys hq ey k j hk (omega arith)))))

-- gains from +0 are a sum
pub gained-sum : (f : ℕ → Float) (n : ℕ) (ws : List Float) (p u o : ℕ) (bs : List Float) (q t j : ℕ)
    → ((k : ℕ) → k < n → floats.times (get_or ws (p + k * u + o) nan) (get_or bs (q + k * t + j) nan) ≡ f k)
    → gained_to n ws p u o bs q t plus_zero j ≡ sum floats n f
unfolding gained_to sum
gained-sum f n ws p u o bs q t j h =
    fold-ext 0 n
    (λ k y. floats.plus y (floats.times (get_or ws (p + k * u + o) nan) (get_or bs (q + k * t + j) nan)))
    (λ k y. floats.plus y (f k)) plus_zero (λ k lo hk y. ap (λ (z : Float). floats.plus y z) (h k hk))

-- The cells of the results.

pub blank-at : (z : Float) (r c i j : ℕ) → i < r → j < c → z ≡ at floats (blank z r c) i j
unfolding blank
blank-at z r c i j hi hj = rw (get_or-replicate r i (replicate c z) [] hi) (sym (get_or-replicate c j z nan hj))

pub product_at : (r n c : ℕ) (a b : List (List Float)) (i j : ℕ) → i < r → j < c
    → at floats (product floats r c r n c a b) i j ≡ sum floats n (λ k. floats.times (at floats a i k) (at floats b k j))
unfolding product cell
product_at r n c a b i j hi hj = table_at plus_zero r c r c (cell floats n a b) i j nan hi hj (omega arith) (omega arith)

pub gained-at : (r c : ℕ) (d : List (List Float)) (f : Float) (p : List (List Float)) (i j : ℕ) → i < r → j < c
    → at floats (gained r c d f p) i j ≡ floats.plus (at floats d i j) (floats.times f (at floats p i j))
unfolding gained
gained-at r c d f p i j hi hj =
    table_at nan r c r c (λ i j. floats.plus (at floats d i j) (floats.times f (at floats p i j))) i j nan hi hj (omega arith) (omega arith)

-- row i of a product, where the rows before it stand
pub product-row : (m : List (List Float)) (s d t p u q r n c i b : ℕ) (xs ys : List Float) → Apart d (r * s) p (r * t) → Apart d (r * s) q (n * u)
    → c ≤ s → n ≤ t → c ≤ u → i < r → b ≡ p + i * t → ys ≡ put_rows s d i c m xs → (j : ℕ) → j < c
    → gained_to n ys b 1 0 ys q u plus_zero j ≡ at floats (product floats r c r n c (rows_at t p r n xs) (rows_at u q n c xs)) i j
product-row m s d t p u q r n c i b xs ys hp hq hs ht hu hi eb ey j hj =
    gained-sum (λ k. floats.times (at floats (rows_at t p r n xs) i k) (at floats (rows_at u q n c xs) k j)) n ys b 1 0 ys q u j
    (λ k hk.
    let e : b + k * 1 + 0 ≡ p + i * t + k = omega arith in
    rw (
      e,
      rows_at-at t p r n xs i k hi hk,
      rows_at-at u q n c xs k j hk hj,
      fill-apart s d r i c t p r n m xs ys hp (omega arith) hs ht ey i k hi hk,
      fill-apart s d r i c u q n c m xs ys hq (omega arith) hs hu ey k j hk hj,
    ))
    ∙ sym (product_at r n c (rows_at t p r n xs) (rows_at u q n c xs) i j hi hj)

-- row i of xᵀ x, where the rows before it stand
pub gram-row : (m : List (List Float)) (s d t p n c i : ℕ) (xs ys : List Float) → Apart d (c * s) p (n * t) → c ≤ s → c ≤ t → i < c
    → ys ≡ put_rows s d i c m xs → (j : ℕ) → j < c → gained_to n ys p t i ys p t plus_zero j ≡ at floats (gram_of n c (rows_at t p n c xs)) i j
unfolding gram_of transpose
gram-row m s d t p n c i xs ys hp hs ht hi ey j hj =
    let x : List (List Float) = rows_at t p n c xs in
    gained-sum (λ k. floats.times (at floats (transpose floats c n n c x) i k) (at floats x k j)) n ys p t i ys p t j
    (λ k hk.
    rw (
      fill-apart s d c i c t p n c m xs ys hp (omega arith) hs ht ey k i hk hi,
      fill-apart s d c i c t p n c m xs ys hp (omega arith) hs ht ey k j hk hj,
      table_at plus_zero c n c n (λ i j. at floats x j i) i k nan hi hk (omega arith) (omega arith),
      rows_at-at t p n c xs k i hk hi,
      rows_at-at t p n c xs k j hk hj,
    ))
    ∙ sym (product_at c n c (transpose floats c n n c x) x i j hi hj)

-- row i of d + f p, where the rows before it stand
pub gained-row : (m : List (List Float)) (f : Float) (s d t p r c i a b : ℕ) (xs ys : List Float) → Apart d (r * s) p (r * t) → c ≤ s → c ≤ t → i < r
    → a ≡ d + i * s → b ≡ p + i * t → ys ≡ put_rows s d i c m xs → (j : ℕ) → j < c
    → floats.plus (get_or ys (a + j) nan) (floats.times f (get_or ys (b + j) nan)) ≡ at floats (gained r c (rows_at s d r c xs) f (rows_at t p r c xs)) i j
gained-row m f s d t p r c i a b xs ys hp hs ht hi ea eb ey j hj =
    rw (
      ea,
      eb,
      gained-at r c (rows_at s d r c xs) f (rows_at t p r c xs) i j hi hj,
      rows_at-at s d r c xs i j hi hj,
      rows_at-at t p r c xs i j hi hj,
      fill-own s d i c m xs ys hs ey j hj,
      fill-apart s d r i c t p r c m xs ys hp (omega arith) hs ht ey i j hi hj,
    )

-- row i of a copy, where the rows before it stand
pub copied-row : (m : List (List Float)) (s d t p r c i b : ℕ) (xs ys : List Float) → Apart d (r * s) p (r * t) → c ≤ s → c ≤ t → i < r
    → b ≡ p + i * t → ys ≡ put_rows s d i c m xs → (j : ℕ) → j < c → get_or ys (b + j) nan ≡ at floats (rows_at t p r c xs) i j
copied-row m s d t p r c i b xs ys hp hs ht hi eb ey j hj =
    rw (eb, rows_at-at t p r c xs i j hi hj) (fill-apart s d r i c t p r c m xs ys hp (omega arith) hs ht ey i j hi hj)
