-- Laws of algorithms in place: a step on the matrix that the list holds is the step on the list of rows.
use Prim.Native.Nat.{ℕ, ◌+◌, ◌-◌, ◌*◌, ◌<◌, ◌≤◌}
use native.Mathlib.Omega.{arith}
use native.Mathlib.Decide.{dec_le, dec_lt}
use mathlib.Core.Path.{◌≡◌, sym, ap, ◌∙◌}
use mathlib.Core.List.{List, []}
use lib.ListN.{get_or, set, length, length-set}
use lib.Seq.{get_or-set_same, get_or-set_other}
use lib.Ieee.{Float, nan}
use Rattle.algebra.specs.Fold.{fold}
use Rattle.algebra.specs.Kind.{floats}
use Rattle.algebra.specs.Product.{at}
use Rattle.algebra.specs.Cholesky.{put}
use Rattle.algebra.proofs.FoldLaws.{fold_start, fold_done, fold_more}
use Rattle.algebra_large.specs.joints.Slab.{rows_at, put_row, put_rows, Holds}
use Rattle.algebra_large.proofs.SlabLaws.{place-row, place-column, row_fits, InRow, within, beyond, in_row, length-put_row, put_row-at, put_row-other, put_row-is, length-put_rows, put_rows-at, put_rows-other, put_rows-is, rows_at-at, Shape, put_same, read_back, put-over}

pub same? : (i k : ℕ) → Dec (i ≡ k)
same? i k = go (dec_le i k) (dec_le k i)
  where
    go : Dec (i ≤ k) → Dec (k ≤ i) → Dec (i ≡ k)
    go (yes h) (yes l) = yes (omega arith)
    go (yes h) (no l) = no (λ e. omega arith)
    go (no h) b = no (λ e. omega arith)

-- cell (i, j), read in the list
pub read_at : (s a r c : ℕ) (xs : List Float) (i j p : ℕ) → i < r → j < c → p ≡ a + i * s → get_or xs (p + j) nan ≡ at floats (rows_at s a r c xs) i j
read_at s a r c xs i j p hi hj e = rw e (sym (rows_at-at s a r c xs i j hi hj))

-- a part of row i is replaced
pub part_step : (s a r c : ℕ) (m k : List (List Float)) (lo n i : ℕ) (f : ℕ → Float) (e : ℕ) (xs ys zs : List Float) → Holds s a r c (length xs) → i < r
    → lo + n ≤ c → e ≡ a + i * s + lo → ys ≡ put_rows s a r c m xs → zs ≡ put_row e n f ys → ((l : ℕ) → l < n → f l ≡ at floats k i (lo + l))
    → ((u v : ℕ) → u < r → v < c → (u ≡ i → lo ≤ v → v < lo + n → ⊥) → at floats k u v ≡ at floats m u v) → zs ≡ put_rows s a r c k xs
part_step s a r c m k lo n i f e xs ys zs h hi hn ee ey ez hin hout =
    put_rows-is k xs zs h (ap length ez ∙ length-put_row e n f ys ∙ long) (λ u v hu hv. cell u v hu hv (in_row e n (a + u * s + v)))
    (λ x o.
    ap (λ (l : List Float). get_or l x nan) ez ∙ put_row-other e n f ys x (λ l hl q. o i (lo + l) hi (omega arith) (omega arith))
    ∙ ap (λ (l : List Float). get_or l x nan) ey ∙ put_rows-other s a r c m xs x o)
  where
    long : length ys ≡ length xs
    long = ap length ey ∙ length-put_rows s a r c m xs

    wide : c ≤ s
    wide = h.wide

    room : e + n ≤ length ys
    room = omega (arith, row_fits h i hi, long)

    cell : (u v : ℕ) → u < r → v < c → InRow e n (a + u * s + v) → get_or zs (a + u * s + v) nan ≡ at floats k u v
    cell u v hu hv (within l hl q) =
        let eu : u ≡ i = place-row s u v i (lo + l) (omega (arith, wide)) (omega (arith, wide)) (omega arith) in
        let ev : v ≡ lo + l = place-column s u v i (lo + l) (omega (arith, wide)) (omega (arith, wide)) (omega arith) in
        let w : at floats k u v ≡ at floats k i (lo + l) = rw (eu, ev) in
        ap (λ (x : ℕ). get_or zs x nan) q ∙ ap (λ (x : List Float). get_or x (e + l) nan) ez ∙ put_row-at e n f ys l hl room ∙ hin l hl ∙ sym w
    cell u v hu hv (beyond o) =
        ap (λ (l : List Float). get_or l (a + u * s + v) nan) ez ∙ put_row-other e n f ys (a + u * s + v) o
        ∙ ap (λ (l : List Float). get_or l (a + u * s + v) nan) ey ∙ put_rows-at s a r c m xs h u v hu hv
        ∙ sym (hout u v hu hv (λ eu lv vl. let q : u * s ≡ i * s = ap (λ (x : ℕ). x * s) eu in o (v - lo) (omega arith) (omega arith)))

-- a part of a row, and the row
pub part-row : (e lo n c : ℕ) (g f : ℕ → Float) (d : ℕ) (ys zs : List Float) → d ≡ e + lo → lo + n ≡ c → e + c ≤ length ys → zs ≡ put_row d n g ys
    → ((j : ℕ) → j < lo → get_or ys (e + j) nan ≡ f j) → ((j : ℕ) → j < n → g j ≡ f (lo + j)) → zs ≡ put_row e c f ys
part-row e lo n c g f d ys zs ed ec h ez hl hr =
    put_row-is e c f ys zs h (ap length ez ∙ length-put_row d n g ys) (λ j l. cell j l (dec_lt j lo))
    (λ x o. ap (λ (l : List Float). get_or l x nan) ez ∙ put_row-other d n g ys x (λ k hk q. o (lo + k) (omega arith) (omega arith)))
  where
    cell : (j : ℕ) → j < c → Dec (j < lo) → get_or zs (e + j) nan ≡ f j
    cell j l (yes k) =
        ap (λ (x : List Float). get_or x (e + j) nan) ez ∙ put_row-other d n g ys (e + j) (λ i hi q. omega arith) ∙ hl j k
    cell j l (no k) =
        let q : e + j ≡ d + (j - lo) = omega arith in
        let p : lo + (j - lo) ≡ j = omega arith in
        ap (λ (x : List Float). get_or x (e + j) nan) ez ∙ ap (λ (x : ℕ). get_or (put_row d n g ys) x nan) q
        ∙ put_row-at d n g ys (j - lo) (omega arith) (omega arith) ∙ hr (j - lo) (omega arith) ∙ ap f p

-- Shapes.

pub shape-set : {r c : ℕ} {m : List (List Float)} (i : ℕ) (x : List Float) → Shape r c m → length x ≡ c → Shape r c (set m i x)
shape-set {r} {c} {m} i x h e = record { rows = length-set m i x ∙ h.rows; columns = λ k l. go k l (same? k i) }
  where
    go : (k : ℕ) → k < r → Dec (k ≡ i) → length (get_or (set m i x) k []) ≡ c
    go k l (yes q) = rw q (ap length (get_or-set_same m i x [] (omega (arith, h.rows)))) ∙ e
    go k l (no q) = ap length (get_or-set_other m i k x [] q) ∙ h.columns k l

pub shape-put : {r c : ℕ} {m : List (List Float)} (i j : ℕ) (v : Float) → i < r → Shape r c m → Shape r c (put floats i j v m)
unfolding put
shape-put {r} {c} {m} i j v hi h = shape-set i (set (get_or m i []) j v) h (length-set (get_or m i []) j v ∙ h.columns i hi)

-- what stands in the rows after a row, or a cell, was put
pub set-at-same : {r c : ℕ} {m : List (List Float)} (i : ℕ) (x : List Float) → Shape r c m → i < r → get_or (set m i x) i [] ≡ x
set-at-same {r} {c} {m} i x h hi = get_or-set_same m i x [] (omega (arith, h.rows))

pub put-at-same : {r c : ℕ} {m : List (List Float)} (i j : ℕ) (v : Float) → Shape r c m → i < r → j < c → at floats (put floats i j v m) i j ≡ v
unfolding put
put-at-same {r} {c} {m} i j v h hi hj =
    rw (set-at-same i (set (get_or m i []) j v) h hi) (get_or-set_same (get_or m i []) j v nan (omega (arith, h.columns i hi)))

pub put-at-other : {r c : ℕ} {m : List (List Float)} (i j : ℕ) (v : Float) → Shape r c m → i < r → (k l : ℕ) → (k ≡ i → l ≡ j → ⊥)
    → at floats (put floats i j v m) k l ≡ at floats m k l
unfolding put
put-at-other {r} {c} {m} i j v h hi k l o = go (same? k i)
  where
    x : List Float
    x = set (get_or m i []) j v

    go : Dec (k ≡ i) → get_or (get_or (set m i x) k []) l nan ≡ get_or (get_or m k []) l nan
    go (yes q) = rw (q, set-at-same i x h hi) (get_or-set_other (get_or m i []) j l v nan (o q))
    go (no q) = rw (get_or-set_other m i k x [] q)

-- Steps.

-- a part of row i is replaced, and the row becomes x
pub set-step : (s a r c : ℕ) (m : List (List Float)) (x : List Float) (lo n i : ℕ) (f : ℕ → Float) (e : ℕ) (xs ys zs : List Float) → Holds s a r c (length xs)
    → Shape r c m → i < r → lo + n ≤ c → e ≡ a + i * s + lo → ys ≡ put_rows s a r c m xs → zs ≡ put_row e n f ys
    → ((l : ℕ) → l < n → f l ≡ get_or x (lo + l) nan) → ((v : ℕ) → v < c → (lo ≤ v → v < lo + n → ⊥) → get_or x v nan ≡ at floats m i v)
    → zs ≡ put_rows s a r c (set m i x) xs
set-step s a r c m x lo n i f e xs ys zs h q hi hn ee ey ez hin hout =
    part_step s a r c m (set m i x) lo n i f e xs ys zs h hi hn ee ey ez
    (λ l hl. hin l hl ∙ ap (λ (y : List Float). get_or y (lo + l) nan) (sym (set-at-same i x q hi)))
    (λ u v hu hv o. go u v hv o (same? u i))
  where
    go : (u v : ℕ) → v < c → (u ≡ i → lo ≤ v → v < lo + n → ⊥) → Dec (u ≡ i) → at floats (set m i x) u v ≡ at floats m u v
    go u v hv o (yes e) = rw (e, set-at-same i x q hi) (hout v hv (o e))
    go u v hv o (no e) = ap (λ (y : List Float). get_or y v nan) (get_or-set_other m i u x [] e)

one_cell : (d : ℕ) (v : Float) (ys : List Float) → set ys d v ≡ put_row d 1 (λ l. v) ys
unfolding put_row fold
one_cell d v ys = let z : d + 0 ≡ d = omega arith in rw z

-- one cell is replaced
pub cell-step : (s a r c : ℕ) (m : List (List Float)) (i j p : ℕ) (v : Float) (xs ys : List Float) → Holds s a r c (length xs) → Shape r c m → i < r → j < c
    → p ≡ a + i * s → ys ≡ put_rows s a r c m xs → set ys (p + j) v ≡ put_rows s a r c (put floats i j v m) xs
cell-step s a r c m i j p v xs ys h q hi hj ep ey =
    part_step s a r c m (put floats i j v m) j 1 i (λ l. v) (p + j) xs ys (set ys (p + j) v) h hi (omega arith) (omega arith) ey (one_cell (p + j) v ys)
    (λ l hl. let z : j + l ≡ j = omega arith in rw z (sym (put-at-same i j v q hi hj)))
    (λ u w hu hw o. put-at-other i j v q hi u w (λ eu ew. o eu (omega arith) (omega arith)))

-- a step on the rows that the list holds
pub put-turn : (F : List (List Float) → List (List Float)) (s a r c : ℕ) (m : List (List Float)) (xs ys zs : List Float) → Holds s a r c (length xs) → Shape r c m
    → ys ≡ put_rows s a r c m xs → zs ≡ put_rows s a r c (F (rows_at s a r c ys)) ys → zs ≡ put_rows s a r c (F m) xs
put-turn F s a r c m xs ys zs h q ey ez =
    let e : rows_at s a r c ys ≡ m = ap (λ (l : List Float). rows_at s a r c l) ey ∙ read_back xs h q in
    ez ∙ ap (λ (k : List (List Float)). put_rows s a r c (F k) ys) e ∙ ap (λ (l : List Float). put_rows s a r c (F m) l) ey ∙ put-over m (F m) xs h

-- one turn of a loop of such steps
pub fold-turn : (step : ℕ → List (List Float) → List (List Float)) (lo k s a r c : ℕ) (m : List (List Float)) (xs ys zs : List Float)
    → Holds s a r c (length xs) → lo ≤ k → Shape r c (fold lo k step m) → ys ≡ put_rows s a r c (fold lo k step m) xs
    → zs ≡ put_rows s a r c (step k (rows_at s a r c ys)) ys → zs ≡ put_rows s a r c (fold lo (k + 1) step m) xs
fold-turn step lo k s a r c m xs ys zs h l q ey ez =
    put-turn (step k) s a r c (fold lo k step m) xs ys zs h q ey ez ∙ ap (λ (x : List (List Float)). put_rows s a r c x xs) (sym (fold_more lo k step m l))

pub read-now : (s a r c : ℕ) (m : List (List Float)) (xs ys : List Float) → Holds s a r c (length xs) → Shape r c m → ys ≡ put_rows s a r c m xs → rows_at s a r c ys ≡ m
read-now s a r c m xs ys h q e = ap (λ (l : List Float). rows_at s a r c l) e ∙ read_back xs h q

-- where such a loop starts, and where it ends
pub turn-none : (step : ℕ → List (List Float) → List (List Float)) (lo s a r c : ℕ) (xs : List Float) → Holds s a r c (length xs)
    → xs ≡ put_rows s a r c (fold lo lo step (rows_at s a r c xs)) xs
turn-none step lo s a r c xs h =
    put_same xs h ∙ ap (λ (m : List (List Float)). put_rows s a r c m xs) (fold_start lo step (rows_at s a r c xs))

pub turn_end : (step : ℕ → List (List Float) → List (List Float)) (lo k n s a r c : ℕ) (m : List (List Float)) (xs ys : List Float) → k ≤ n → n ≤ k
    → ys ≡ put_rows s a r c (fold lo k step m) xs → ys ≡ put_rows s a r c (fold lo n step m) xs
turn_end step lo k n s a r c m xs ys h l e = e ∙ ap (λ (k : List (List Float)). put_rows s a r c k xs) (fold_done lo k n step m h l)
