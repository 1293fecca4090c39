-- Laws of back substitution into another matrix.
use Prim.Native.Nat.{ℕ, ◌+◌, ◌-◌, ◌*◌, ◌<◌, ◌≤◌}
use native.Mathlib.Omega.{arith}
use native.Mathlib.Nat.{le_antisymm, add_assoc}
use mathlib.Core.Path.{◌≡◌, refl, sym, ap, ◌∙◌}
use mathlib.Core.List.{List, []}
use mathlib.Core.Logic.{◌⊎◌, inl, inr, ⊎_elim}
use lib.ListN.{get_or, set, length, length-replicate, replicate, get_or-replicate}
use lib.Ieee.{Float, nan}
use Rattle.arithmetic.specs.Numbers.{plus_zero}
use Rattle.algebra.specs.Fold.{fold}
use Rattle.algebra.specs.Table.{row, blank}
use Rattle.algebra.specs.Kind.{floats}
use Rattle.algebra.specs.Product.{at}
use Rattle.algebra.specs.Elimination.{back_sum, back_cell, back_to}
use Rattle.algebra.proofs.FoldLaws.{fold_more, fold-none, fold-ext, fold-keeps, length-span}
use Rattle.algebra.proofs.TableLaws.{row_at}
use Rattle.algebra_large.specs.joints.Slab.{rows_at, put_row, put_rows, Holds, Apart}
use Rattle.algebra_large.specs.joints.Steps.{known_less, back_over}
use Rattle.algebra_large.proofs.SlabLaws.{row_in, row_fits, place-row, put_row-is, put_row-at, row-ahead, row-over, apart-ne, Shape, rows_at-at, frame}
use Rattle.algebra_large.proofs.InPlace.{read_at, read-now, shape-set, set-step, put-turn}

-- what a row of X leaves as it was: A's row, and the rows of X below
module _ (d t p i n c : ℕ) (g : ℕ → Float) (xs ys : List Float) (far : Apart d (n * t) p n) (hi : i < n) (hc : c ≤ t) (e : ys ≡ put_row (d + i * t) c g xs) where
  pub factor-same : (j : ℕ) → j < n → get_or ys (p + j) nan ≡ get_or xs (p + j) nan
  factor-same j hj =
      row-ahead (d + i * t) c g xs ys e (p + j) (λ k hk q. apart-ne far (i * t + k) j (omega (arith, row_in t n c i hi hc)) hj (omega arith))

  pub below-same : (j k : ℕ) → i + 1 ≤ j → k < c → get_or ys (d + j * t + k) nan ≡ get_or xs (d + j * t + k) nan
  below-same j k hj hk =
      row-ahead (d + i * t) c g xs ys e (d + j * t + k)
      (λ l hl q. let z : j ≡ i = place-row t j k i l (omega arith) (omega arith) (omega arith) in omega arith)

  pub known_same : (hi' : ℕ) → hi' ≤ n → (x : Float) (k : ℕ) → k < c → known_less hi' ys d t p i x k ≡ known_less hi' xs d t p i x k
  unfolding known_less
  known_same hi' hn x k hk =
      fold-ext (i + 1) hi'
      (λ j y. floats.minus y (floats.times (get_or ys (p + j) nan) (get_or ys (d + j * t + k) nan)))
      (λ j y. floats.minus y (floats.times (get_or xs (p + j) nan) (get_or xs (d + j * t + k) nan))) x
      (λ j lo hj y. rw (factor-same j (omega arith), below-same j k lo hk))

-- where the loop over the known terms starts, goes on and ends
pub known-none : (d t p i c : ℕ) (xs : List Float) → d + i * t + c ≤ length xs
    → xs ≡ put_row (d + i * t) c (λ k. known_less (i + 1) xs d t p i (get_or xs (d + i * t + k) nan) k) xs
unfolding known_less
known-none d t p i c xs h =
    put_row-is (d + i * t) c (λ k. known_less (i + 1) xs d t p i (get_or xs (d + i * t + k) nan) k) xs xs h refl
    (λ k l. sym (fold-none (i + 1) (i + 1) (λ j y. floats.minus y (floats.times (get_or xs (p + j) nan) (get_or xs (d + j * t + k) nan))) (get_or xs (d + i * t + k) nan) (omega arith)))
    (λ x o. refl)

pub known_more : (d t p i n c j x y : ℕ) (f : Float) (xs ys zs : List Float) → d + i * t + c ≤ length xs → Apart d (n * t) p n → i < n → c ≤ t → i + 1 ≤ j → j < n
    → x ≡ d + i * t → y ≡ d + j * t → f ≡ get_or ys (p + j) nan
    → ys ≡ put_row (d + i * t) c (λ k. known_less j xs d t p i (get_or xs (d + i * t + k) nan) k) xs
    → zs ≡ put_row x c (λ k. floats.minus (get_or ys (x + k) nan) (floats.times f (get_or ys (y + k) nan))) ys
    → zs ≡ put_row (d + i * t) c (λ k. known_less (j + 1) xs d t p i (get_or xs (d + i * t + k) nan) k) xs
unfolding known_less
known_more d t p i n c j x y f xs ys zs hl far hi hc lo hj ex ey ef e ez =
    row-over (d + i * t) c g (λ k. floats.minus (get_or ys (d + i * t + k) nan) (floats.times f (get_or ys (y + k) nan)))
    (λ k. known_less (j + 1) xs d t p i (get_or xs (d + i * t + k) nan) k) xs ys zs hl e
    (ez ∙ ap (λ (z : ℕ). put_row z c (λ k. floats.minus (get_or ys (z + k) nan) (floats.times f (get_or ys (y + k) nan))) ys) ex)
    (λ k hk.
    let own : get_or ys (d + i * t + k) nan ≡ g k = ap (λ (l : List Float). get_or l (d + i * t + k) nan) e ∙ put_row-at (d + i * t) c g xs k hk hl in
    let left : f ≡ get_or xs (p + j) nan = ef ∙ factor-same d t p i n c g xs ys far hi hc e j hj in
    let right : get_or ys (y + k) nan ≡ get_or xs (d + j * t + k) nan =
    ap (λ (z : ℕ). get_or ys (z + k) nan) ey ∙ below-same d t p i n c g xs ys far hi hc e j k lo hk in
    rw (own, left, right)
    (sym (fold_more (i + 1) j (λ j y. floats.minus y (floats.times (get_or xs (p + j) nan) (get_or xs (d + j * t + k) nan))) (get_or xs (d + i * t + k) nan) lo)))
  where
    g : ℕ → Float
    g k = known_less j xs d t p i (get_or xs (d + i * t + k) nan) k

pub known-end : (d t p i c j n : ℕ) (xs ys : List Float) → j ≤ n → n ≤ j
    → ys ≡ put_row (d + i * t) c (λ k. known_less j xs d t p i (get_or xs (d + i * t + k) nan) k) xs
    → ys ≡ put_row (d + i * t) c (λ k. known_less n xs d t p i (get_or xs (d + i * t + k) nan) k) xs
known-end d t p i c j n xs ys h l e =
    e ∙ ap (λ (m : ℕ). put_row (d + i * t) c (λ k. known_less m xs d t p i (get_or xs (d + i * t + k) nan) k) xs) (le_antisymm h l)

-- X is apart from each row of A and of B
pub far-row : (s a d t n w i p : ℕ) → Apart d (n * t) a (n * s) → i < n → w ≤ s → p ≡ a + i * s → Apart d (n * t) p w
far-row s a d t n w i p h hi hw ep =
    let z : i * s + w ≤ n * s = row_in s n w i hi hw in
    record { apart = ⊎_elim (λ u. inl (omega arith)) (λ u. inr (omega arith)) h.apart }

pub far-part : (d t n i c p w x b : ℕ) → Apart d (n * t) p w → i < n → c ≤ t → x ≡ d + i * t → p ≤ b → b + c ≤ p + w → Apart x c b c
far-part d t n i c p w x b h hi hc ex hb hw =
    let z : i * t + c ≤ n * t = row_in t n c i hi hc in
    record { apart = ⊎_elim (λ u. inl (omega arith)) (λ u. inr (omega arith)) h.apart }

pub far-less : (d t n p w v : ℕ) → Apart d (n * t) p w → v ≤ w → Apart d (n * t) p v
far-less d t n p w v h hv = record { apart = ⊎_elim (λ u. inl (omega arith)) (λ u. inr (omega arith)) h.apart }

-- row i of X: B's row, less the known terms, over the pivot
pub back-row : (s a d t n c i p x b : ℕ) (f : Float) (xs ys zs us : List Float) → Holds s a n (n + c) (length xs) → Holds t d n c (length xs)
    → Apart d (n * t) a (n * s) → i < n → p ≡ a + i * s → x ≡ d + i * t → b ≡ p + n
    → ys ≡ put_row x c (λ k. get_or xs (b + k) nan) xs
    → zs ≡ put_row (d + i * t) c (λ k. known_less n ys d t p i (get_or ys (d + i * t + k) nan) k) ys
    → f ≡ get_or zs (p + i) nan → us ≡ put_row x c (λ k. floats.over (get_or zs (x + k) nan) f) zs
    → us ≡ put_row (d + i * t) c (back_cell floats n (rows_at s a n (n + c) xs) (rows_at t d n c xs) i) xs
unfolding back_cell back_sum known_less
back-row s a d t n c i p x b f xs ys zs us ha hd apt hi ep ex eb ey ez ef eu =
    row-over (d + i * t) c known (λ k. floats.over (get_or zs (d + i * t + k) nan) f) (back_cell floats n m w i) xs zs us room ez'
    (eu ∙ ap (λ (z : ℕ). put_row z c (λ k. floats.over (get_or zs (z + k) nan) f) zs) ex)
    (λ k hk.
    let own : get_or zs (d + i * t + k) nan ≡ known k = ap (λ (l : List Float). get_or l (d + i * t + k) nan) ez' ∙ put_row-at (d + i * t) c known xs k hk room in
    let pivot : f ≡ at floats m i i =
    ef ∙ factor-same d t p i n c known xs zs far hi wide ez' i hi ∙ read_at s a n (n + c) xs i i p hi (omega arith) ep in
    rw (own, pivot) (ap (λ (y : Float). floats.over y (at floats m i i)) (known-sum k hk)))
  where
    m : List (List Float)
    m = rows_at s a n (n + c) xs

    w : List (List Float)
    w = rows_at t d n c xs

    wide : c ≤ t
    wide = hd.wide

    room : d + i * t + c ≤ length xs
    room = row_fits hd i hi

    far : Apart d (n * t) p n
    far = far-less d t n p (n + c) n (far-row s a d t n (n + c) i p apt hi ha.wide ep) (omega arith)

    known : ℕ → Float
    known k = known_less n xs d t p i (get_or xs (p + n + k) nan) k

    ey' : ys ≡ put_row (d + i * t) c (λ k. get_or xs (p + n + k) nan) xs
    ey' = ey ∙ ap (λ (z : ℕ). put_row z c (λ k. get_or xs (b + k) nan) xs) ex ∙ ap (λ (z : ℕ). put_row (d + i * t) c (λ k. get_or xs (z + k) nan) xs) eb

    ez' : zs ≡ put_row (d + i * t) c known xs
    ez' =
        row-over (d + i * t) c (λ k. get_or xs (p + n + k) nan) (λ k. known_less n ys d t p i (get_or ys (d + i * t + k) nan) k) known xs ys zs room ey' ez
        (λ k hk.
        let own : get_or ys (d + i * t + k) nan ≡ get_or xs (p + n + k) nan =
        ap (λ (l : List Float). get_or l (d + i * t + k) nan) ey' ∙ put_row-at (d + i * t) c (λ k. get_or xs (p + n + k) nan) xs k hk room in
        ap (λ (y : Float). known_less n ys d t p i y k) own
        ∙ known_same d t p i n c (λ k. get_or xs (p + n + k) nan) xs ys far hi wide ey' n (omega arith) (get_or xs (p + n + k) nan) k hk)

    known-sum : (k : ℕ) → k < c → known k ≡ back_sum floats n n m w i k
    known-sum k hk =
        let first : get_or xs (p + n + k) nan ≡ at floats m i (n + k) =
        ap (λ (z : ℕ). get_or xs z nan) (add_assoc p n k) ∙ read_at s a n (n + c) xs i (n + k) p hi (omega arith) ep in
        ap (λ (y : Float). fold (i + 1) n (λ j y. floats.minus y (floats.times (get_or xs (p + j) nan) (get_or xs (d + j * t + k) nan))) y) first
        ∙ fold-ext (i + 1) n
        (λ j y. floats.minus y (floats.times (get_or xs (p + j) nan) (get_or xs (d + j * t + k) nan)))
        (λ j y. floats.minus y (floats.times (at floats m i j) (at floats w j k))) (at floats m i (n + k))
        (λ j lo hj y. rw (read_at s a n (n + c) xs i j p hi (omega arith) ep, sym (rows_at-at t d n c xs j k hj hk)))

-- The rows, from the last.

length-row : (z : Float) (c : ℕ) (f : ℕ → Float) → length (row z c c f) ≡ c
unfolding row
length-row z c f = length-span 0 c f (replicate c z) ∙ length-replicate c z

pub shape-back : {n c : ℕ} {x : List (List Float)} (h : ℕ) (m : List (List Float)) → Shape n c x → Shape n c (back_over h n c m x)
unfolding back_over
shape-back {n} {c} {x} h m q =
    fold-keeps (λ y. Shape n c y) 0 h (λ h x. set x (n - 1 - h) (row plus_zero c c (back_cell floats n m x (n - 1 - h)))) x q
    (λ k lo hk y g. shape-set (n - 1 - k) (row plus_zero c c (back_cell floats n m y (n - 1 - k))) g (length-row plus_zero c (back_cell floats n m y (n - 1 - k))))

-- one more row
pub back_more : (s a d t n c h i : ℕ) (x : List (List Float)) (xs ys zs : List Float) → Holds t d n c (length xs) → n + c ≤ s → Apart d (n * t) a (n * s) → Shape n c x → h < n
    → i ≡ n - 1 - h → ys ≡ put_rows t d n c (back_over h n c (rows_at s a n (n + c) xs) x) xs
    → zs ≡ put_row (d + i * t) c (back_cell floats n (rows_at s a n (n + c) ys) (rows_at t d n c ys) i) ys
    → zs ≡ put_rows t d n c (back_over (h + 1) n c (rows_at s a n (n + c) xs) x) xs
unfolding back_over
back_more s a d t n c h i x xs ys zs hd hs apt q hh ei ey ez =
    set-step t d n c k (row plus_zero c c (back_cell floats n m k i)) 0 c i (back_cell floats n (rows_at s a n (n + c) ys) (rows_at t d n c ys) i) (d + i * t) xs ys zs hd
    (shape-back h m q) (omega arith) (omega arith) (omega arith) ey ez
    (λ l hl.
    let z : 0 + l ≡ l = omega arith in
    rw (z, same-m, same-k) (sym (row_at plus_zero c c (back_cell floats n m k i) l nan hl (omega arith))))
    (λ v hv o. absurd (o (omega arith) (omega arith)))
    ∙ ap (λ (j : ℕ). put_rows t d n c (set k j (row plus_zero c c (back_cell floats n m k j))) xs) ei
    ∙ ap (λ (y : List (List Float)). put_rows t d n c y xs)
    (sym (fold_more 0 h (λ h x. set x (n - 1 - h) (row plus_zero c c (back_cell floats n m x (n - 1 - h)))) x (omega arith)))
  where
    m : List (List Float)
    m = rows_at s a n (n + c) xs

    k : List (List Float)
    k = back_over h n c m x

    same-m : rows_at s a n (n + c) ys ≡ m
    same-m = ap (λ (l : List Float). rows_at s a n (n + c) l) ey ∙ frame t d n c s a n (n + c) k xs apt hd.wide hs

    same-k : rows_at t d n c ys ≡ k
    same-k = read-now t d n c k xs ys hd (shape-back h m q) ey

shape-blank : (n c : ℕ) → Shape n c (blank plus_zero n c)
unfolding blank
shape-blank n c =
    record { rows = length-replicate n (replicate c plus_zero); columns = λ i h. ap length (get_or-replicate n i (replicate c plus_zero) [] h) ∙ length-replicate c plus_zero }

-- into a matrix that was cleared first
pub back_done : (s a d t n c : ℕ) (xs ys zs : List Float) → Holds t d n c (length xs) → n + c ≤ s → Apart d (n * t) a (n * s)
    → ys ≡ put_rows t d n c (blank plus_zero n c) xs → zs ≡ put_rows t d n c (back_over n n c (rows_at s a n (n + c) ys) (rows_at t d n c ys)) ys
    → zs ≡ put_rows t d n c (back_to floats n n c n c (rows_at s a n (n + c) xs)) xs
unfolding back_over back_to
back_done s a d t n c xs ys zs hd hs apt ey ez =
    let m : List (List Float) = rows_at s a n (n + c) xs in
    let same : rows_at s a n (n + c) ys ≡ m =
    ap (λ (l : List Float). rows_at s a n (n + c) l) ey ∙ frame t d n c s a n (n + c) (blank plus_zero n c) xs apt hd.wide hs in
    put-turn (back_over n n c m) t d n c (blank plus_zero n c) xs ys zs hd (shape-blank n c) ey
    (ez ∙ ap (λ (k : List (List Float)). put_rows t d n c (back_over n n c k (rows_at t d n c ys)) ys) same)
