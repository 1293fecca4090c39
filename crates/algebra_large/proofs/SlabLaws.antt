-- Laws of matrices in one list: what a store of a row or of a matrix leaves in each place, reading back, overwriting, and what it leaves as it was.
use Prim.Native.Nat.{ℕ, zero, suc, ◌+◌, ◌-◌, ◌*◌, ◌<◌, ◌≤◌}
use native.Mathlib.Omega.{arith}
use native.Mathlib.Nat.{mul-le-mul_right, suc-mul}
use native.Mathlib.Numerals.{add-one}
use native.Mathlib.Decide.{dec_le, dec_lt}
use mathlib.Core.Path.{◌≡◌, refl, sym, ap, ◌∙◌}
use mathlib.Core.List.{List, []}
use mathlib.Core.Logic.{◌⊎◌, inl, inr, ⊎_elim}
use lib.ListN.{get_or, set, length, length-set, replicate, length-replicate}
use lib.Seq.{get_or-set_same, get_or-set_other, ext_get_or}
use lib.Ieee.{Float, nan}
use Rattle.algebra.specs.Table.{table, row}
use Rattle.algebra.specs.Kind.{floats}
use Rattle.algebra.specs.Product.{at}
use Rattle.algebra.proofs.FoldLaws.{fold_next, fold-keeps, fold-ext, length-span}
use Rattle.algebra.proofs.TableLaws.{table_at, table-row, length-table}
use Rattle.algebra_large.specs.joints.Slab.{rows_at, put_row, put_rows, Holds, Apart}

-- Places.

-- row i of r rows ends within them
pub row_in : (s r c i : ℕ) → i < r → c ≤ s → i * s + c ≤ r * s
row_in s r c i h l = omega (arith, suc-mul i s, mul-le-mul_right s h)

-- a place has one row and one column
pub place-row : (s i j k l : ℕ) → j < s → l < s → i * s + j ≡ k * s + l → i ≡ k
place-row s i j k l hj hl e = go (dec_lt i k) (dec_lt k i)
  where
    go : Dec (i < k) → Dec (k < i) → i ≡ k
    go (yes h) b = absurd (omega (arith, suc-mul i s, mul-le-mul_right s h))
    go (no a) (yes h) = absurd (omega (arith, suc-mul k s, mul-le-mul_right s h))
    go (no a) (no b) = omega arith

pub place-column : (s i j k l : ℕ) → j < s → l < s → i * s + j ≡ k * s + l → j ≡ l
place-column s i j k l hj hl e =
    let r : i * s ≡ k * s = ap (λ (x : ℕ). x * s) (place-row s i j k l hj hl e) in
    omega arith

-- the cells of a matrix that the list holds lie in the list
pub row_fits : {s a r c len : ℕ} → Holds s a r c len → (i : ℕ) → i < r → a + i * s + c ≤ len
row_fits {s} {a} {r} {c} {len} h i l =
    let w : i * s + s ≤ r * s = row_in s r s i l (omega arith) in
    let f : a + r * s + c ≤ len + s = h.fits in
    omega arith

-- a row of one matrix is apart from a row of another
pub rows-apart-at : (s r t q : ℕ) {a b : ℕ} → Apart a (r * s) b (q * t) → (i k c e x y : ℕ) → i < r → k < q → c ≤ s → e ≤ t → x ≡ a + i * s → y ≡ b + k * t
    → Apart x c y e
rows-apart-at s r t q {a} {b} h i k c e x y hi hk hc he ex ey =
    let u : i * s + c ≤ r * s = row_in s r c i hi hc in
    let v : k * t + e ≤ q * t = row_in t q e k hk he in
    record { apart = ⊎_elim (λ w. inl (omega arith)) (λ w. inr (omega arith)) h.apart }

-- elements of two parts that are apart differ
pub apart-ne : {a n b m : ℕ} → Apart a n b m → (x y : ℕ) → x < n → y < m → b + y ≡ a + x → ⊥
apart-ne {a} {n} {b} {m} h x y hx hy e = ⊎_elim (λ u. omega arith) (λ u. omega arith) h.apart

-- Rows.

pub length-put_row : (d c : ℕ) (f : ℕ → Float) (xs : List Float) → length (put_row d c f xs) ≡ length xs
unfolding put_row
length-put_row d c f xs =
    fold-keeps (λ ys. length ys ≡ length xs) 0 c (λ j ys. set ys (d + j) (f j)) xs refl (λ k h l b e. length-set b (d + k) (f k) ∙ e)

-- one more cell
pub row_more : (d j : ℕ) (f : ℕ → Float) (xs ys : List Float) (v : Float) → ys ≡ put_row d j f xs → v ≡ f j → set ys (d + j) v ≡ put_row d (j + 1) f xs
unfolding put_row
row_more d j f xs ys v e ev =
    fold_next 0 j (λ j ys. set ys (d + j) (f j)) xs ys (set ys (d + j) v) (omega arith) e (ap (λ (z : Float). set ys (d + j) z) ev)

pub put_row-other : (d c : ℕ) (f : ℕ → Float) (xs : List Float) (x : ℕ) → ((k : ℕ) → k < c → x ≡ d + k → ⊥) → get_or (put_row d c f xs) x nan ≡ get_or xs x nan
unfolding put_row
put_row-other d c f xs x o =
    fold-keeps (λ ys. get_or ys x nan ≡ get_or xs x nan) 0 c (λ j ys. set ys (d + j) (f j)) xs refl
    (λ k h l b e. get_or-set_other b (d + k) x (f k) nan (o k l) ∙ e)

pub put_row-at : (d c : ℕ) (f : ℕ → Float) (xs : List Float) (k : ℕ) → k < c → d + c ≤ length xs → get_or (put_row d c f xs) (d + k) nan ≡ f k
put_row-at d zero f xs k h l = absurd (omega arith)
put_row-at d (suc c) f xs k h l = go (put_row-at d c f xs k) (dec_lt k c)
  where
    e : set (put_row d c f xs) (d + c) (f c) ≡ put_row d (suc c) f xs
    e = rw (← add-one c) (row_more d c f xs (put_row d c f xs) (f c) refl refl)

    go : (k < c → d + c ≤ length xs → get_or (put_row d c f xs) (d + k) nan ≡ f k) → Dec (k < c) → get_or (put_row d (suc c) f xs) (d + k) nan ≡ f k
    go ih (yes s) = rw (← e) (get_or-set_other (put_row d c f xs) (d + c) (d + k) (f c) nan (λ q. omega arith) ∙ ih s (omega arith))
    go ih (no s) =
        let q : k ≡ c = omega arith in
        rw (q, ← e) (get_or-set_same (put_row d c f xs) (d + c) (f c) nan (omega (arith, length-put_row d c f xs)))

-- a cell that the loop has not reached, or that is apart from its row
pub row-ahead : (d j : ℕ) (f : ℕ → Float) (xs ys : List Float) → ys ≡ put_row d j f xs → (x : ℕ) → ((k : ℕ) → k < j → x ≡ d + k → ⊥)
    → get_or ys x nan ≡ get_or xs x nan
row-ahead d j f xs ys e x o = rw e (put_row-other d j f xs x o)

pub row_apart : {d c p n : ℕ} (j : ℕ) (f : ℕ → Float) (xs ys : List Float) → Apart d c p n → j ≤ c → ys ≡ put_row d j f xs → (k : ℕ) → k < n
    → get_or ys (p + k) nan ≡ get_or xs (p + k) nan
row_apart {d} {c} {p} {n} j f xs ys h l e k hk = row-ahead d j f xs ys e (p + k) (λ i hi q. apart-ne h i k (omega arith) hk q)

-- one more cell of a row whose cells are made of their own and of those of a row that is apart
pub row-turn : (op : Float → Float → Float) (xs : List Float) (d c p j : ℕ) (ys : List Float) → Apart d c p c → j < c
    → ys ≡ put_row d j (λ j. op (get_or xs (d + j) nan) (get_or xs (p + j) nan)) xs
    → set ys (d + j) (op (get_or ys (d + j) nan) (get_or ys (p + j) nan)) ≡ put_row d (j + 1) (λ j. op (get_or xs (d + j) nan) (get_or xs (p + j) nan)) xs
row-turn op xs d c p j ys h l e =
    let f : ℕ → Float = λ j. op (get_or xs (d + j) nan) (get_or xs (p + j) nan) in
    let own : get_or ys (d + j) nan ≡ get_or xs (d + j) nan = row-ahead d j f xs ys e (d + j) (λ k hk q. omega arith) in
    let other : get_or ys (p + j) nan ≡ get_or xs (p + j) nan = row_apart j f xs ys h (omega arith) e j l in
    row_more d j f xs ys (op (get_or ys (d + j) nan) (get_or ys (p + j) nan)) e (rw (own, other))

pub data InRow (d c x : ℕ) : Type 0 where
  within : (j : ℕ) → j < c → x ≡ d + j → InRow d c x
  beyond : ((k : ℕ) → k < c → x ≡ d + k → ⊥) → InRow d c x

pub in_row : (d c x : ℕ) → InRow d c x
in_row d c x = go (dec_le d x) (dec_lt x (d + c))
  where
    go : Dec (d ≤ x) → Dec (x < d + c) → InRow d c x
    go (yes h) (yes l) = within (x - d) (omega arith) (omega arith)
    go (yes h) (no l) = beyond (λ k hk e. omega arith)
    go (no h) b = beyond (λ k hk e. omega arith)

-- what has the cells of a row put into xs is that row put into xs
pub put_row-is : (d c : ℕ) (f : ℕ → Float) (xs ys : List Float) → d + c ≤ length xs → length ys ≡ length xs
    → ((j : ℕ) → j < c → get_or ys (d + j) nan ≡ f j)
    → ((x : ℕ) → ((k : ℕ) → k < c → x ≡ d + k → ⊥) → get_or ys x nan ≡ get_or xs x nan) → ys ≡ put_row d c f xs
put_row-is d c f xs ys hl e hin hout =
    ext_get_or nan ys (put_row d c f xs) (e ∙ sym (length-put_row d c f xs)) (λ x h. go x (in_row d c x))
  where
    go : (x : ℕ) → InRow d c x → get_or ys x nan ≡ get_or (put_row d c f xs) x nan
    go x (within j h q) = rw q (hin j h ∙ sym (put_row-at d c f xs j h hl))
    go x (beyond o) = hout x o ∙ sym (put_row-other d c f xs x o)

-- a row put over a row
pub row-over : (d c : ℕ) (g h f : ℕ → Float) (xs ys zs : List Float) → d + c ≤ length xs → ys ≡ put_row d c g xs → zs ≡ put_row d c h ys
    → ((j : ℕ) → j < c → h j ≡ f j) → zs ≡ put_row d c f xs
row-over d c g h f xs ys zs hl ey ez hf =
    let long : length ys ≡ length xs = ap length ey ∙ length-put_row d c g xs in
    put_row-is d c f xs zs hl (ap length ez ∙ length-put_row d c h ys ∙ long)
    (λ j l. rw ez (put_row-at d c h ys j l (omega arith) ∙ hf j l))
    (λ x o. rw ez (put_row-other d c h ys x o) ∙ row-ahead d c g xs ys ey x o)

pub put_row-ext : (d c : ℕ) (f g : ℕ → Float) (xs : List Float) → ((j : ℕ) → j < c → f j ≡ g j) → put_row d c f xs ≡ put_row d c g xs
unfolding put_row
put_row-ext d c f g xs h =
    fold-ext 0 c (λ j ys. set ys (d + j) (f j)) (λ j ys. set ys (d + j) (g j)) xs (λ k n l b. ap (λ (v : Float). set b (d + k) v) (h k l))

-- Matrices, filled row by row.

-- one more row
pub fill_more : (s a i c e : ℕ) (m : List (List Float)) (f : ℕ → Float) (xs ys zs : List Float) → e ≡ a + i * s → ys ≡ put_rows s a i c m xs
    → zs ≡ put_row e c f ys → ((j : ℕ) → j < c → f j ≡ at floats m i j) → zs ≡ put_rows s a (i + 1) c m xs
unfolding put_rows
fill_more s a i c e m f xs ys zs ee ey ez h =
    fold_next 0 i (λ i ys. put_row (a + i * s) c (λ j. at floats m i j) ys) xs ys zs (omega arith) ey
    (ez ∙ ap (λ (x : ℕ). put_row x c f ys) ee ∙ put_row-ext (a + i * s) c f (λ j. at floats m i j) ys h)

pub length-put_rows : (s a r c : ℕ) (m : List (List Float)) (xs : List Float) → length (put_rows s a r c m xs) ≡ length xs
unfolding put_rows
length-put_rows s a r c m xs =
    fold-keeps (λ ys. length ys ≡ length xs) 0 r (λ i ys. put_row (a + i * s) c (λ j. at floats m i j) ys) xs refl
    (λ k h l b e. length-put_row (a + k * s) c (λ j. at floats m k j) b ∙ e)

pub put_rows-other : (s a r c : ℕ) (m : List (List Float)) (xs : List Float) (x : ℕ) → ((i j : ℕ) → i < r → j < c → x ≡ a + i * s + j → ⊥)
    → get_or (put_rows s a r c m xs) x nan ≡ get_or xs x nan
unfolding put_rows
put_rows-other s a r c m xs x o =
    fold-keeps (λ ys. get_or ys x nan ≡ get_or xs x nan) 0 r (λ i ys. put_row (a + i * s) c (λ j. at floats m i j) ys) xs refl
    (λ i h l b e. put_row-other (a + i * s) c (λ j. at floats m i j) b x (λ j hj. o i j l hj) ∙ e)

pub put_rows-at : (s a r c : ℕ) (m : List (List Float)) (xs : List Float) → Holds s a r c (length xs) → (i j : ℕ) → i < r → j < c
    → get_or (put_rows s a r c m xs) (a + i * s + j) nan ≡ at floats m i j
put_rows-at s a zero c m xs h i j hi hj = absurd (omega arith)
put_rows-at s a (suc r) c m xs h i j hi hj =
    go (put_rows-at s a r c m xs (record { wide = h.wide; fits = omega (arith, suc-mul r s, h.fits) })) (dec_lt i r)
  where
    ys : List Float
    ys = put_rows s a r c m xs

    e : put_rows s a (suc r) c m xs ≡ put_row (a + r * s) c (λ j. at floats m r j) ys
    e = rw (← add-one r) (sym (fill_more s a r c (a + r * s) m (λ j. at floats m r j) xs ys (put_row (a + r * s) c (λ j. at floats m r j) ys) refl refl refl (λ j l. refl)))

    go : ((i j : ℕ) → i < r → j < c → get_or ys (a + i * s + j) nan ≡ at floats m i j) → Dec (i < r)
        → get_or (put_rows s a (suc r) c m xs) (a + i * s + j) nan ≡ at floats m i j
    go ih (yes l) =
        rw e
        (put_row-other (a + r * s) c (λ j. at floats m r j) ys (a + i * s + j)
        (λ k hk q. let w : c ≤ s = h.wide in let z : i ≡ r = place-row s i j r k (omega arith) (omega arith) (omega arith) in omega arith)
        ∙ ih i j l hj)
    go ih (no l) =
        let q : i ≡ r = omega arith in
        rw (q, e)
        (put_row-at (a + r * s) c (λ j. at floats m r j) ys j hj
        (omega (arith, row_fits h r (omega arith), length-put_rows s a r c m xs)))

-- rows that the loop has not reached, and rows of a matrix that is apart
pub fill-own : (s a i c : ℕ) (m : List (List Float)) (xs ys : List Float) → c ≤ s → ys ≡ put_rows s a i c m xs → (j : ℕ) → j < c
    → get_or ys (a + i * s + j) nan ≡ get_or xs (a + i * s + j) nan
fill-own s a i c m xs ys w e j hj =
    rw e (put_rows-other s a i c m xs (a + i * s + j)
    (λ k l hk hl q. let z : i ≡ k = place-row s i j k l (omega arith) (omega arith) (omega arith) in omega arith))

pub fill-apart : (s a r i c t b q e : ℕ) (m : List (List Float)) (xs ys : List Float) → Apart a (r * s) b (q * t) → i ≤ r → c ≤ s → e ≤ t
    → ys ≡ put_rows s a i c m xs → (k l : ℕ) → k < q → l < e → get_or ys (b + k * t + l) nan ≡ get_or xs (b + k * t + l) nan
fill-apart s a r i c t b q e m xs ys h hi hc he ey k l hk hl =
    rw ey (put_rows-other s a i c m xs (b + k * t + l)
    (λ u v hu hv z. apart-ne h (u * s + v) (k * t + l) (omega (arith, row_in s r c u (omega arith) hc)) (omega (arith, row_in t q e k hk he)) (omega arith)))

data InRows (s a r c x : ℕ) : Type 0 where
  inside : (i j : ℕ) → i < r → j < c → x ≡ a + i * s + j → InRows s a r c x
  outside : ((i j : ℕ) → i < r → j < c → x ≡ a + i * s + j → ⊥) → InRows s a r c x

in_rows : (s a r c x : ℕ) → InRows s a r c x
in_rows s a zero c x = outside (λ i j hi hj e. omega arith)
in_rows s a (suc r) c x = go (in_rows s a r c x) (in_row (a + r * s) c x)
  where
    last : ((i j : ℕ) → i < r → j < c → x ≡ a + i * s + j → ⊥) → ((k : ℕ) → k < c → x ≡ a + r * s + k → ⊥) → (i j : ℕ) → i < suc r → j < c
        → x ≡ a + i * s + j → Dec (i < r) → ⊥
    last o p i j hi hj e (yes l) = o i j l hj e
    last o p i j hi hj e (no l) = let z : i ≡ r = omega arith in p j hj (e ∙ ap (λ (k : ℕ). a + k * s + j) z)

    go : InRows s a r c x → InRow (a + r * s) c x → InRows s a (suc r) c x
    go (inside i j hi hj e) w = inside i j (omega arith) hj e
    go (outside o) (within j h e) = inside r j (omega arith) h e
    go (outside o) (beyond p) = outside (λ i j hi hj e. last o p i j hi hj e (dec_lt i r))

-- what has the cells of m put into xs is m put into xs
pub put_rows-is : {s a r c : ℕ} (m : List (List Float)) (xs ys : List Float) → Holds s a r c (length xs) → length ys ≡ length xs
    → ((i j : ℕ) → i < r → j < c → get_or ys (a + i * s + j) nan ≡ at floats m i j)
    → ((x : ℕ) → ((i j : ℕ) → i < r → j < c → x ≡ a + i * s + j → ⊥) → get_or ys x nan ≡ get_or xs x nan) → ys ≡ put_rows s a r c m xs
put_rows-is {s} {a} {r} {c} m xs ys h e hin hout =
    ext_get_or nan ys (put_rows s a r c m xs) (e ∙ sym (length-put_rows s a r c m xs)) (λ x l. go x (in_rows s a r c x))
  where
    go : (x : ℕ) → InRows s a r c x → get_or ys x nan ≡ get_or (put_rows s a r c m xs) x nan
    go x (inside i j hi hj q) = rw q (hin i j hi hj ∙ sym (put_rows-at s a r c m xs h i j hi hj))
    go x (outside o) = hout x o ∙ sym (put_rows-other s a r c m xs x o)

-- Reading.

pub rows_at-at : (s a r c : ℕ) (xs : List Float) (i j : ℕ) → i < r → j < c → at floats (rows_at s a r c xs) i j ≡ get_or xs (a + i * s + j) nan
unfolding rows_at
rows_at-at s a r c xs i j hi hj = table_at nan r c r c (λ i j. get_or xs (a + i * s + j) nan) i j nan hi hj (omega arith) (omega arith)

-- the matrix put over itself
pub put_same : {s a r c : ℕ} (xs : List Float) → Holds s a r c (length xs) → xs ≡ put_rows s a r c (rows_at s a r c xs) xs
put_same {s} {a} {r} {c} xs h = put_rows-is (rows_at s a r c xs) xs xs h refl (λ i j hi hj. sym (rows_at-at s a r c xs i j hi hj)) (λ x o. refl)

-- r rows of c columns
pub record Shape (r c : ℕ) (m : List (List Float)) : Type 0 where
  pub rows : length m ≡ r
  pub columns : (i : ℕ) → i < r → length (get_or m i []) ≡ c

pub shape-table : (z : Float) (r c : ℕ) (f : ℕ → ℕ → Float) → Shape r c (table z r c r c f)
unfolding row
shape-table z r c f =
    record {
      rows = length-table z r c r c f;
      columns = λ i h. ap length (table-row z r c r c f i h (omega arith)) ∙ length-span 0 c (f i) (replicate c z) ∙ length-replicate c z;
    }

pub shape-rows_at : (s a r c : ℕ) (xs : List Float) → Shape r c (rows_at s a r c xs)
unfolding rows_at
shape-rows_at s a r c xs = shape-table nan r c (λ i j. get_or xs (a + i * s + j) nan)

-- matrices of one shape with the same cells
pub shape-ext : {r c : ℕ} {m k : List (List Float)} → Shape r c m → Shape r c k → ((i j : ℕ) → i < r → j < c → at floats m i j ≡ at floats k i j) → m ≡ k
shape-ext {r} {c} {m} {k} p q h =
    ext_get_or [] m k (p.rows ∙ sym q.rows)
    (λ i hi.
    let l : i < r = omega (arith, p.rows) in
    ext_get_or nan (get_or m i []) (get_or k i []) (p.columns i l ∙ sym (q.columns i l)) (λ j hj. h i j l (omega (arith, p.columns i l))))

-- what was put is read back
pub read_back : {s a r c : ℕ} {m : List (List Float)} (xs : List Float) → Holds s a r c (length xs) → Shape r c m → rows_at s a r c (put_rows s a r c m xs) ≡ m
read_back {s} {a} {r} {c} {m} xs h q =
    shape-ext (shape-rows_at s a r c (put_rows s a r c m xs)) q
    (λ i j hi hj. rows_at-at s a r c (put_rows s a r c m xs) i j hi hj ∙ put_rows-at s a r c m xs h i j hi hj)

-- the later of two matrices stands
pub put-over : {s a r c : ℕ} (m k : List (List Float)) (xs : List Float) → Holds s a r c (length xs)
    → put_rows s a r c k (put_rows s a r c m xs) ≡ put_rows s a r c k xs
put-over {s} {a} {r} {c} m k xs h =
    let ys : List Float = put_rows s a r c m xs in
    let g : Holds s a r c (length ys) = rw (length-put_rows s a r c m xs) h in
    put_rows-is k xs (put_rows s a r c k ys) h (length-put_rows s a r c k ys ∙ length-put_rows s a r c m xs)
    (λ i j hi hj. put_rows-at s a r c k ys g i j hi hj)
    (λ x o. put_rows-other s a r c k ys x o ∙ put_rows-other s a r c m xs x o)

-- a matrix that is apart reads as before
pub frame : (s a r c t b q e : ℕ) (m : List (List Float)) (xs : List Float) → Apart a (r * s) b (q * t) → c ≤ s → e ≤ t
    → rows_at t b q e (put_rows s a r c m xs) ≡ rows_at t b q e xs
frame s a r c t b q e m xs h hc he =
    shape-ext (shape-rows_at t b q e (put_rows s a r c m xs)) (shape-rows_at t b q e xs)
    (λ k l hk hl.
    rows_at-at t b q e (put_rows s a r c m xs) k l hk hl ∙ fill-apart s a r r c t b q e m xs (put_rows s a r c m xs) h (omega arith) hc he refl k l hk hl ∙ sym (rows_at-at t b q e xs k l hk hl))
