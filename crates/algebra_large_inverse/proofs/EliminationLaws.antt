-- Laws of elimination in place.
use Prim.Native.Nat.{ℕ, ◌+◌, ◌-◌, ◌*◌, ◌<◌, ◌≤◌}
use native.Mathlib.Omega.{arith}
use native.Mathlib.Decide.{dec_lt}
use native.Mathlib.Nat.{le_antisymm}
use mathlib.Core.Path.{◌≡◌, refl, sym, ap, ◌∙◌}
use mathlib.Core.Bool.{Bool, true, false, cond}
use mathlib.Core.List.{List, []}
use mathlib.Core.Logic.{◌⊎◌, inl, inr, ⊎_elim}
use lib.ListN.{get_or, set, length, length-set, get_or-eq_default}
use lib.Seq.{get_or-set_same, get_or-set_other}
use lib.Ieee.{Float, nan}
use Rattle.arithmetic.specs.Numbers.{is_larger}
use Rattle.algebra.specs.Fold.{fold, span}
use Rattle.algebra.specs.Kind.{floats}
use Rattle.algebra.specs.Product.{at}
use Rattle.algebra.specs.Elimination.{larger, pivot_row, swap_rows, factor, less_by, cleared, eliminate_column, eliminate_to}
use Rattle.algebra.proofs.FoldLaws.{fold_more, fold-keeps, length-span, span-at, span-other}
use Rattle.algebra_large.specs.joints.Slab.{rows_at, put_row, put_rows, Holds, Apart}
use Rattle.algebra_large.proofs.SlabLaws.{row_in, row_more, put_row-is, put_row-at, put_row-other, length-put_row, Shape, shape-rows_at, put_same, put_rows-at}
use Rattle.algebra_large.proofs.InPlace.{same?, read_at, shape-set, set-step, put-turn, fold-turn}

-- the larger of two cells, read in the list
pub larger-is : (s a n w c r best p q : ℕ) (xs : List Float) (t b : Bool) → r < n → best < n → c < w → p ≡ a + r * s → q ≡ a + best * s
    → t ≡ is_larger (get_or xs (p + c) nan) (get_or xs (q + c) nan) → t ≡ b → cond b r best ≡ larger floats (rows_at s a n w xs) c r best
unfolding larger
larger-is s a n w c r best p q xs t b hr hb hc ep eq et eb =
    ap (λ (x : Bool). cond x r best) (sym eb ∙ et) ∙ rw (read_at s a n w xs r c p hr hc ep, read_at s a n w xs best c q hb hc eq)

-- parts of two rows of one matrix
pub parts-apart : (s a w i k lo e p q x y : ℕ) → i < k → w ≤ s → lo + e ≤ w → p ≡ a + i * s → q ≡ a + k * s → x ≡ p + lo → y ≡ q + lo → Apart y e x e
parts-apart s a w i k lo e p q x y h hw hl ep eq ex ey =
    let z : i * s + w ≤ k * s = row_in s k w i h hw in
    record { apart = inr (omega arith) }

pub rows-below : (s a w i k p q : ℕ) → i < k → w ≤ s → p ≡ a + i * s → q ≡ a + k * s → Apart p w q w
rows-below s a w i k p q h hw ep eq =
    let z : i * s + w ≤ k * s = row_in s k w i h hw in
    record { apart = inl (omega arith) }

-- Two rows change places.

-- the first j cells of the rows at d and e changed
abbrev pub swapped : ℕ → ℕ → ℕ → List Float → List Float
swapped d e j xs = put_row e j (λ l. get_or xs (d + l) nan) (put_row d j (λ l. get_or xs (e + l) nan) xs)

-- a cell stored in two lists of one length
set-agree : (ys xs : List Float) (x : ℕ) (v : Float) → length ys ≡ length xs → get_or (set ys x v) x nan ≡ get_or (set xs x v) x nan
set-agree ys xs x v e = go (dec_lt x (length xs))
  where
    go : Dec (x < length xs) → get_or (set ys x v) x nan ≡ get_or (set xs x v) x nan
    go (yes h) = get_or-set_same ys x v nan (omega arith) ∙ sym (get_or-set_same xs x v nan h)
    go (no h) =
        get_or-eq_default (set ys x v) nan (omega (arith, length-set ys x v)) ∙ sym (get_or-eq_default (set xs x v) nan (omega (arith, length-set xs x v)))

-- a store outside of a row may come before the row
store-first : (e j x : ℕ) (v : Float) (f : ℕ → Float) (xs : List Float) → e + j ≤ length xs → ((k : ℕ) → k < j → x ≡ e + k → ⊥)
    → set (put_row e j f xs) x v ≡ put_row e j f (set xs x v)
store-first e j x v f xs h o =
    put_row-is e j f (set xs x v) (set (put_row e j f xs) x v) (rw length-set h)
    (length-set (put_row e j f xs) x v ∙ length-put_row e j f xs ∙ sym (length-set xs x v))
    (λ k hk. get_or-set_other (put_row e j f xs) x (e + k) v nan (λ q. o k hk (sym q)) ∙ put_row-at e j f xs k hk h)
    (λ y p. go y p (same? y x))
  where
    go : (y : ℕ) → ((k : ℕ) → k < j → y ≡ e + k → ⊥) → Dec (y ≡ x) → get_or (set (put_row e j f xs) x v) y nan ≡ get_or (set xs x v) y nan
    go y p (yes q) = rw q (set-agree (put_row e j f xs) xs x v (length-put_row e j f xs))
    go y p (no q) = get_or-set_other (put_row e j f xs) x y v nan q ∙ put_row-other e j f xs y p ∙ sym (get_or-set_other xs x y v nan q)

-- one more pair of cells
pub swap-more : (d e c j : ℕ) (xs ys : List Float) → d + c ≤ length xs → e + c ≤ length xs → (d ≡ e) ⊎ Apart d c e c → j < c → ys ≡ swapped d e j xs
    → set (set ys (d + j) (get_or ys (e + j) nan)) (e + j) (get_or ys (d + j) nan) ≡ swapped d e (j + 1) xs
swap-more d e c j xs ys hd he o hj ey =
    let f : ℕ → Float = λ l. get_or xs (d + l) nan in
    let g : ℕ → Float = λ l. get_or xs (e + l) nan in
    let ws : List Float = put_row d j g xs in
    let off : (k : ℕ) → k < j → d + j ≡ e + k → ⊥ = λ k hk q. apart-row k hk q in
    let at-e : get_or ys (e + j) nan ≡ g j =
    ap (λ (l : List Float). get_or l (e + j) nan) ey ∙ put_row-other e j f ws (e + j) (λ k hk q. omega arith) ∙ put_row-other d j g xs (e + j) (λ k hk q. apart-row' k hk q) in
    let at-d : get_or ys (d + j) nan ≡ f j =
    ap (λ (l : List Float). get_or l (d + j) nan) ey ∙ put_row-other e j f ws (d + j) off ∙ put_row-other d j g xs (d + j) (λ k hk q. omega arith) in
    let first : set ys (d + j) (get_or ys (e + j) nan) ≡ put_row e j f (put_row d (j + 1) g xs) =
    ap (λ (v : Float). set ys (d + j) v) at-e ∙ ap (λ (l : List Float). set l (d + j) (g j)) ey
    ∙ store-first e j (d + j) (g j) f ws (omega (arith, length-put_row d j g xs)) off
    ∙ ap (λ (l : List Float). put_row e j f l) (row_more d j g xs ws (g j) refl refl) in
    row_more e j f (put_row d (j + 1) g xs) (set ys (d + j) (get_or ys (e + j) nan)) (get_or ys (d + j) nan) first at-d
  where
    apart-row : (k : ℕ) → k < j → d + j ≡ e + k → ⊥
    apart-row k hk q = ⊎_elim (λ u. omega arith) (λ u. ⊎_elim (λ w. omega arith) (λ w. omega arith) u.apart) o

    apart-row' : (k : ℕ) → k < j → e + j ≡ d + k → ⊥
    apart-row' k hk q = ⊎_elim (λ u. omega arith) (λ u. ⊎_elim (λ w. omega arith) (λ w. omega arith) u.apart) o

-- two rows of one matrix are the same, or apart
pub rows-paired : (s a n w i k p q : ℕ) → i < n → k < n → w ≤ s → p ≡ a + i * s → q ≡ a + k * s → (p ≡ q) ⊎ Apart p w q w
rows-paired s a n w i k p q hi hk hw ep eq = go (dec_lt i k) (dec_lt k i)
  where
    go : Dec (i < k) → Dec (k < i) → (p ≡ q) ⊎ Apart p w q w
    go (yes h) b = let z : i * s + w ≤ k * s = row_in s k w i h hw in inr (record { apart = inl (omega arith) })
    go (no l) (yes h) = let z : k * s + w ≤ i * s = row_in s i w k h hw in inr (record { apart = inr (omega arith) })
    go (no l) (no h) = let z : i * s ≡ k * s = ap (λ (x : ℕ). x * s) (omega arith) in inl (omega arith)

-- the rows i and k of the matrix
pub swap-done : (s a n w i k p q : ℕ) (xs zs : List Float) → Holds s a n w (length xs) → i < n → k < n → p ≡ a + i * s → q ≡ a + k * s → zs ≡ swapped p q w xs
    → zs ≡ put_rows s a n w (swap_rows floats i k (rows_at s a n w xs)) xs
unfolding swap_rows
swap-done s a n w i k p q xs zs h hi hk ep eq ez =
    let m : List (List Float) = rows_at s a n w xs in
    let g : Shape n w m = shape-rows_at s a n w xs in
    let first : put_row p w (λ l. get_or xs (q + l) nan) xs ≡ put_rows s a n w (set m i (get_or m k [])) xs =
    set-step s a n w m (get_or m k []) 0 w i (λ l. get_or xs (q + l) nan) p xs xs (put_row p w (λ l. get_or xs (q + l) nan) xs) h g hi (omega arith) (omega arith)
    (put_same xs h) refl (λ l hl. let z : 0 + l ≡ l = omega arith in rw z (read_at s a n w xs k l q hk hl eq)) (λ v hv o. absurd (o (omega arith) (omega arith))) in
    set-step s a n w (set m i (get_or m k [])) (get_or m i []) 0 w k (λ l. get_or xs (p + l) nan) q xs (put_row p w (λ l. get_or xs (q + l) nan) xs) zs h
    (shape-set i (get_or m k []) g (g.columns k hk)) hk (omega arith) (omega arith) first ez
    (λ l hl. let z : 0 + l ≡ l = omega arith in rw z (read_at s a n w xs i l p hi hl ep)) (λ v hv o. absurd (o (omega arith) (omega arith)))

-- Shapes.

length-less : (w c : ℕ) (f : Float) (pivots low : List Float) → length (less_by floats w c f pivots low) ≡ length low
unfolding less_by
length-less w c f pivots low = length-span (c + 1) w (λ j. floats.minus (get_or low j nan) (floats.times f (get_or pivots j nan))) low

pub shape-swap : {n w : ℕ} {m : List (List Float)} (i k : ℕ) → i < n → k < n → Shape n w m → Shape n w (swap_rows floats i k m)
unfolding swap_rows
shape-swap {n} {w} {m} i k hi hk h = shape-set k (get_or m i []) (shape-set i (get_or m k []) h (h.columns k hk)) (h.columns i hi)

pub shape-cleared : {n w : ℕ} {m : List (List Float)} (k c : ℕ) → k ≤ n → Shape n w m → Shape n w (cleared floats k w c m)
unfolding cleared
shape-cleared {n} {w} {m} k c hk h =
    let f : ℕ → List Float = λ r. less_by floats w c (factor floats c (get_or m c []) (get_or m r [])) (get_or m c []) (get_or m r []) in
    fold-keeps (λ x. Shape n w x) (c + 1) k (λ r ys. set ys r (f r)) m h
    (λ r lo hr x q. shape-set r (f r) q (length-less w c (factor floats c (get_or m c []) (get_or m r [])) (get_or m c []) (get_or m r []) ∙ h.columns r (omega arith)))

larger-below : (n c : ℕ) (m : List (List Float)) (r b : ℕ) → r < n → b < n → larger floats m c r b < n
unfolding larger
larger-below n c m r b hr hb = go (is_larger (at floats m r c) (at floats m b c))
  where
    go : (t : Bool) → cond t r b < n
    go true = hr
    go false = hb

-- the pivot's row is one of the rows
pub pivot-below : (k n c : ℕ) (m : List (List Float)) → k ≤ n → c < n → pivot_row floats k c m < n
unfolding pivot_row
pivot-below k n c m hk hc = fold-keeps (λ b. b < n) (c + 1) k (λ r best. larger floats m c r best) c hc (λ r lo hr b q. larger-below n c m r b (omega arith) q)

pub shape-column : {n w : ℕ} {m : List (List Float)} (c : ℕ) → c < n → Shape n w m → Shape n w (eliminate_column floats n w c m)
unfolding eliminate_column
shape-column {n} {w} {m} c hc h = shape-cleared n c (omega arith) (shape-swap c (pivot_row floats n c m) hc (pivot-below n n c m (omega arith) hc) h)

pub shape-eliminate : {n w : ℕ} {m : List (List Float)} (k : ℕ) → k ≤ n → Shape n w m → Shape n w (eliminate_to floats k n w m)
unfolding eliminate_to
shape-eliminate {n} {w} {m} k hk h =
    fold-keeps (λ x. Shape n w x) 0 k (λ c m. eliminate_column floats n w c m) m h (λ c lo hc x q. shape-column c (omega arith) q)

-- Rows below the pivot's.

-- row r less its factor times row c
pub clear-more : (s a n w c r p q e : ℕ) (f : Float) (m : List (List Float)) (xs ys zs : List Float) → Holds s a n w (length xs) → Shape n w m → c < n → n ≤ w
    → c + 1 ≤ r → r < n → p ≡ a + r * s → q ≡ a + c * s → ys ≡ put_rows s a n w (cleared floats r w c m) xs
    → f ≡ floats.over (get_or ys (p + c) nan) (get_or ys (q + c) nan) → e ≡ w - (c + 1)
    → zs ≡ put_row (p + c + 1) e (λ l. floats.minus (get_or ys (p + c + 1 + l) nan) (floats.times f (get_or ys (q + c + 1 + l) nan))) ys
    → zs ≡ put_rows s a n w (cleared floats (r + 1) w c m) xs
unfolding cleared factor less_by
clear-more s a n w c r p q e f m xs ys zs h g hc hw lo hr ep eq ey ef ee ez =
    set-step s a n w k x (c + 1) e r (λ l. floats.minus (get_or ys (p + c + 1 + l) nan) (floats.times f (get_or ys (q + c + 1 + l) nan))) (p + c + 1) xs ys zs h gk hr
    (omega arith) (omega arith) ey ez
    (λ l hl.
    let il : c + 1 + l < w = omega arith in
    let u : get_or ys (p + c + 1 + l) nan ≡ get_or low (c + 1 + l) nan =
    ap (λ (y : ℕ). get_or ys y nan) (omega arith) ∙ cell-r (c + 1 + l) il in
    let v : get_or ys (q + c + 1 + l) nan ≡ get_or pivots (c + 1 + l) nan =
    ap (λ (y : ℕ). get_or ys y nan) (omega arith) ∙ cell-c (c + 1 + l) il in
    rw (u, v, f-is) (sym (span-at (c + 1) w z low (c + 1 + l) nan (omega arith) il (omega (arith, g.columns r hr)))))
    (λ v hv o. span-other (c + 1) w z low v nan (inl (low-v v hv o)) ∙ ap (λ (y : List Float). get_or y v nan) (sym row-r))
    ∙ ap (λ (y : List (List Float)). put_rows s a n w y xs) (sym (fold_more (c + 1) r step m lo))
  where
    step : ℕ → List (List Float) → List (List Float)
    step r ys = set ys r (less_by floats w c (factor floats c (get_or m c []) (get_or m r [])) (get_or m c []) (get_or m r []))

    k : List (List Float)
    k = cleared floats r w c m

    gk : Shape n w k
    gk = shape-cleared r c (omega arith) g

    pivots : List Float
    pivots = get_or m c []

    low : List Float
    low = get_or m r []

    z : ℕ → Float
    z j = floats.minus (get_or low j nan) (floats.times (floats.over (get_or low c nan) (get_or pivots c nan)) (get_or pivots j nan))

    x : List Float
    x = span (c + 1) w z low

    rows : ℕ → List Float
    rows r = less_by floats w c (factor floats c (get_or m c []) (get_or m r [])) (get_or m c []) (get_or m r [])

    row-r : get_or k r [] ≡ low
    row-r = span-other (c + 1) r rows m r [] (inr (omega arith))

    row-c : get_or k c [] ≡ pivots
    row-c = span-other (c + 1) r rows m c [] (inl (omega arith))

    cell-r : (j : ℕ) → j < w → get_or ys (a + r * s + j) nan ≡ get_or low j nan
    cell-r j hj =
        ap (λ (l : List Float). get_or l (a + r * s + j) nan) ey ∙ put_rows-at s a n w k xs h r j hr hj ∙ ap (λ (y : List Float). get_or y j nan) row-r

    cell-c : (j : ℕ) → j < w → get_or ys (a + c * s + j) nan ≡ get_or pivots j nan
    cell-c j hj =
        ap (λ (l : List Float). get_or l (a + c * s + j) nan) ey ∙ put_rows-at s a n w k xs h c j hc hj ∙ ap (λ (y : List Float). get_or y j nan) row-c

    f-is : f ≡ floats.over (get_or low c nan) (get_or pivots c nan)
    f-is =
        let u : get_or ys (p + c) nan ≡ get_or low c nan = ap (λ (y : ℕ). get_or ys (y + c) nan) ep ∙ cell-r c (omega arith) in
        let v : get_or ys (q + c) nan ≡ get_or pivots c nan = ap (λ (y : ℕ). get_or ys (y + c) nan) eq ∙ cell-c c (omega arith) in
        ef ∙ rw (u, v)

    low-v : (v : ℕ) → v < w → (c + 1 ≤ v → v < c + 1 + e → ⊥) → v < c + 1
    low-v v hv o = go (dec_lt v (c + 1))
      where
        go : Dec (v < c + 1) → v < c + 1
        go (yes l) = l
        go (no l) = absurd (o (omega arith) (omega arith))

-- column c: the pivot's row is brought to row c, and the rows below are cleared
pub column-done : (s a n w c b p q : ℕ) (xs ys zs : List Float) → Holds s a n w (length xs) → c < n → b ≡ pivot_row floats n c (rows_at s a n w xs)
    → p ≡ a + c * s → q ≡ a + b * s → ys ≡ swapped p q w xs → zs ≡ put_rows s a n w (cleared floats n w c (rows_at s a n w ys)) ys
    → zs ≡ put_rows s a n w (eliminate_column floats n w c (rows_at s a n w xs)) xs
unfolding eliminate_column
column-done s a n w c b p q xs ys zs h hc eb ep eq ey ez =
    let m : List (List Float) = rows_at s a n w xs in
    let hb : b < n = rw eb (pivot-below n n c m (omega arith) hc) in
    put-turn (cleared floats n w c) s a n w (swap_rows floats c b m) xs ys zs h (shape-swap c b hc hb (shape-rows_at s a n w xs))
    (swap-done s a n w c b p q xs ys h hc hb ep eq ey) ez
    ∙ ap (λ (y : ℕ). put_rows s a n w (cleared floats n w c (swap_rows floats c y m)) xs) eb

-- one more column
pub column-more : (s a n w c : ℕ) (m : List (List Float)) (xs ys zs : List Float) → Holds s a n w (length xs) → Shape n w m → c < n
    → ys ≡ put_rows s a n w (eliminate_to floats c n w m) xs → zs ≡ put_rows s a n w (eliminate_column floats n w c (rows_at s a n w ys)) ys
    → zs ≡ put_rows s a n w (eliminate_to floats (c + 1) n w m) xs
unfolding eliminate_to
column-more s a n w c m xs ys zs h q hc ey ez =
    fold-turn (λ c m. eliminate_column floats n w c m) 0 c s a n w m xs ys zs h (omega arith) (shape-eliminate c (omega arith) q) ey ez

pub swap-end : (d e j c : ℕ) (xs ys : List Float) → j ≤ c → c ≤ j → ys ≡ swapped d e j xs → ys ≡ swapped d e c xs
swap-end d e j c xs ys h l q = q ∙ ap (λ (k : ℕ). swapped d e k xs) (le_antisymm h l)

pub swap-none : (d e : ℕ) (xs : List Float) → xs ≡ swapped d e 0 xs
unfolding put_row fold
swap-none d e xs = refl
