-- Elimination of A X = B over marked numbers: where all of X bears a shift, a second run with A scaled by 2 ^ u and B by 2 ^ v takes the same pivot rows, is refused
-- where the first is, and its X is the first's scaled by 2 ^ (v - u). The stages are stated for a shift of its own for each column.
use Prim.Native.Nat.{ℕ, zero, suc, ◌+◌, ◌-◌, ◌≤◌, ◌<◌}
use native.Mathlib.Omega.{arith}
use native.Mathlib.Decide.{ℕ_discrete, dec_lt}
use mathlib.Core.Path.{◌≡◌, refl, sym, ap, ◌∙◌, subst}
use mathlib.Core.Bool.{Bool, false, cond, ◌||◌}
use mathlib.Core.List.{List}
use lib.Dec.{ltb}
use lib.IntN.{ℤ, pos, negsuc, neg_ℤ, nat_abs, ◌+ℤ◌, ◌-ℤ◌, +ℤ_comm, +ℤ_idl, -ℤ-+ℤ_cancel}
use lib.ListN.{get_or}
use borrow.Author.Tests.{lt-ltb, le-ltb}
use Rattle.arithmetic.specs.declared.Marked.{Marked}
use Rattle.arithmetic.specs.Numbers.{is_larger}
use Rattle.arithmetic.specs.Marks.{marked_sub, marked_mul, marked_div}
use Rattle.arithmetic.proofs.Tied.{Tied}
use Rattle.arithmetic.proofs.MarkLaws.{Bears, Moves, sub-bears, mul-bears, div-bears, sub-moves, mul-moves, div-moves}
use Rattle.algebra.specs.Fold.{fold}
use Rattle.algebra.specs.Kind.{marks, zero_of}
use Rattle.algebra.specs.Product.{at, identity}
use Rattle.algebra.specs.Elimination.{larger, pivot_row, swap_rows, cleared, eliminate_column, eliminate_to, zero_pivot, back_sum, back_cell, back_to, joined, refused, solution, inverse}
use Rattle.algebra.proofs.FoldLaws.{fold-both, fold-ext}
use Rattle.algebra.proofs.TableLaws.{table_at}
use Rattle.algebra.proofs.MovingCells.{fold-back, fold-in-step, first-bears, step-bears, Place, other, place, Sized, table-sized, BearsCells, MovesCells, moves-by, still-times, alike-over, cond_both, zero-agrees, larger-agrees}
use Rattle.algebra.proofs.MovingProducts.{identity-moves}
use Rattle.algebra.proofs.EliminationLaws.{met_zero, stopping-stopped}
use Rattle.algebra.proofs.MovingColumns.{origin, Among, origin-among, swap-row, swap-back, swap-sized, cleared-above, cleared_at, pivot-among, eliminate-sized, eliminate_to-sized, back_at}

abbrev Matrix : Type 0
Matrix = List (List Marked)

-- ---- the cells that a run still reads with c columns eliminated: rows above c from their diagonal on, the others from column c on
pub record BearsFrom (t n w c : ℕ) (m : Matrix) : Type 0 where
  pub done : (i j : ℕ) → i < c → i ≤ j → j < w → Bears t (at marks m i j)
  pub rest : (i j : ℕ) → c ≤ i → i < n → c ≤ j → j < w → Bears t (at marks m i j)

-- column j moves by shift j
pub record MovesFrom (t : ℕ) (shift : ℕ → ℤ) (n w c : ℕ) (m m' : Matrix) : Type 0 where
  pub done : (i j : ℕ) → i < c → i ≤ j → j < w → Moves t (shift j) (at marks m i j) (at marks m' i j)
  pub rest : (i j : ℕ) → c ≤ i → i < n → c ≤ j → j < w → Moves t (shift j) (at marks m i j) (at marks m' i j)

-- ---- one column
module _ (n w c : ℕ) (h : c < n) (l : n < w) where
  self : Among c n c
  self = record { low = omega arith; high = h }

  -- rows c and p changed
  module _ (p : ℕ) (a : Among c n p) where
    abbrev above : {i : ℕ} → i < c → Place c p i
    above k = other (λ e. omega arith) (λ e. omega (arith, a.low))

    module _ (m : Matrix) (z : Sized n w m) where
      swapped : {i : ℕ} (x : Place c p i) (j : ℕ) → at marks (swap_rows marks c p m) i j ≡ at marks m (origin x) j
      swapped x j = ap (λ (y : List Marked). get_or y j marks.void) (swap-row marks c p m (omega (arith, z.rows)) (omega (arith, z.rows, a.high)) x)

      swapped-back : {i : ℕ} (x : Place c p i) (j : ℕ) → at marks m i j ≡ at marks (swap_rows marks c p m) (origin x) j
      swapped-back x j = ap (λ (y : List Marked). get_or y j marks.void) (swap-back marks c p m (omega (arith, z.rows)) (omega (arith, z.rows, a.high)) x)

      swap-bears : (t : ℕ) → BearsFrom t n w c (swap_rows marks c p m) → BearsFrom t n w c m
      unfolding origin
      swap-bears t b = record {
        done = λ i j k o q. rw (swapped-back (above k) j) (b.done i j k o q);
        rest = λ i j k o d q.
            let x : Place c p i = place c p i in
            let g : Among c n (origin x) = origin-among self a (record { low = k; high = o }) x in
            rw (swapped-back x j) (b.rest (origin x) j g.low g.high d q);
      }

    swap-moves : (t : ℕ) (shift : ℕ → ℤ) (m m' : Matrix) → Sized n w m → Sized n w m' → MovesFrom t shift n w c m m'
        → MovesFrom t shift n w c (swap_rows marks c p m) (swap_rows marks c p m')
    unfolding origin
    swap-moves t shift m m' z z' f = record {
      done = λ i j k o q. rw (swapped m z (above k) j, swapped m' z' (above k) j) (f.done i j k o q);
      rest = λ i j k o d q.
          let x : Place c p i = place c p i in
          let g : Among c n (origin x) = origin-among self a (record { low = k; high = o }) x in
          rw (swapped m z x j, swapped m' z' x j) (f.rest (origin x) j g.low g.high d q);
    }

  -- the rows below c cleared
  module _ (m : Matrix) (z : Sized n w m) where
    clear-bears : (t : ℕ) → BearsFrom t n w (c + 1) (cleared marks n w c m) → BearsFrom t n w c m
    clear-bears t b = record { done = λ i j k o q. kept i j (omega arith) o q; rest = λ i j k o d q. go i j k o d q (ℕ_discrete i c) (ℕ_discrete j c) }
      where
        kept : (i j : ℕ) → i ≤ c → i ≤ j → j < w → Bears t (at marks m i j)
        kept i j k o q = rw (cleared-above marks n w c m z i k) at (b.done i j (omega arith) o q)

        parts : (i j : ℕ) → c < i → i < n → c < j → j < w
            → Bears t (at marks m i j) × Bears t (marked_mul (marked_div (at marks m i c) (at marks m c c)) (at marks m c j))
        parts i j k o d q =
            sub-bears (at marks m i j) (marked_mul (marked_div (at marks m i c) (at marks m c c)) (at marks m c j))
            (rw (cleared_at marks n w c m z i j k o d q) at (b.rest i j (omega arith) o (omega arith) q))

        go : (i j : ℕ) → c ≤ i → i < n → c ≤ j → j < w → Dec (i ≡ c) → Dec (j ≡ c) → Bears t (at marks m i j)
        go i j k o d q (yes e) f = kept i j (omega arith) (omega arith) q
        go i j k o d q (no e) (no f) = (parts i j (omega arith) o (omega arith) q).0
        go i j k o d q (no e) (yes f) =
            rw f (div-bears (at marks m i c) (at marks m c c)
            (mul-bears (marked_div (at marks m i c) (at marks m c c)) (at marks m c (c + 1)) (parts i (c + 1) (omega arith) o (omega arith) (omega arith)).1).0).0

    clear-moves : (t : ℕ) (shift : ℕ → ℤ) → ((j : ℕ) → j < w → nat_abs (shift j) ≤ t) → (m' : Matrix) → Sized n w m' → MovesFrom t shift n w c m m'
        → MovesFrom t shift n w (c + 1) (cleared marks n w c m) (cleared marks n w c m')
    clear-moves t shift small m' z' f = record {
      done = λ i j k o q.
          rw (cleared-above marks n w c m z i (omega arith), cleared-above marks n w c m' z' i (omega arith)) (kept i j (omega arith) o q (dec_lt i c));
      rest = λ i j k o d q.
          rw (cleared_at marks n w c m z i j (omega arith) o (omega arith) q, cleared_at marks n w c m' z' i j (omega arith) o (omega arith) q)
          (less i j (omega arith) o (omega arith) q);
    }
      where
        kept : (i j : ℕ) → i ≤ c → i ≤ j → j < w → Dec (i < c) → Moves t (shift j) (at marks m i j) (at marks m' i j)
        kept i j k o q (yes e) = f.done i j e o q
        kept i j k o q (no e) = f.rest i j (omega arith) (omega arith) (omega arith) q

        less : (i j : ℕ) → c < i → i < n → c < j → j < w
            → Moves t (shift j) (marked_sub (at marks m i j) (marked_mul (marked_div (at marks m i c) (at marks m c c)) (at marks m c j)))
            (marked_sub (at marks m' i j) (marked_mul (marked_div (at marks m' i c) (at marks m' c c)) (at marks m' c j)))
        less i j k o d q =
            let x : Marked = marked_div (at marks m i c) (at marks m c c) in
            let x' : Marked = marked_div (at marks m' i c) (at marks m' c c) in
            let g : Moves t (pos 0) x x' =
            alike-over (shift c) (at marks m i c) (at marks m c c) (at marks m' i c) (at marks m' c c) (f.rest i c (omega arith) o (omega arith) (omega arith))
            (f.rest c c (omega arith) h (omega arith) (omega arith)) in
            sub-moves (shift j) (small j q) (at marks m i j) (marked_mul x (at marks m c j)) (at marks m' i j) (marked_mul x' (at marks m' c j))
            (f.rest i j (omega arith) o (omega arith) q)
            (still-times (shift j) (small j q) x (at marks m c j) x' (at marks m' c j) g (f.rest c j (omega arith) h (omega arith) q))

  -- ---- the pivots
  module _ (t : ℕ) (shift : ℕ → ℤ) (m m' : Matrix) (b : BearsFrom t n w c m) (f : MovesFrom t shift n w c m m') where
    -- the cells of column c, from row c on
    tied : (i : ℕ) → Among c n i → Tied (shift c) (at marks m i c).value (at marks m' i c).value
    tied i a = f.rest i c a.low a.high (omega arith) (omega arith) (b.rest i c a.low a.high (omega arith) (omega arith))

    larger-same : (r x y : ℕ) → Among c n r → Among c n x → y ≡ x → larger marks m' c r y ≡ larger marks m c r x
    unfolding larger
    larger-same r x y a d e =
        rw e (ap (λ (q : Bool). cond q r x)
        (larger-agrees (shift c) (at marks m r c).value (at marks m x c).value (at marks m' r c).value (at marks m' x c).value (tied r a) (tied x d)))

    pub pivots-agree : pivot_row marks n c m' ≡ pivot_row marks n c m
    unfolding pivot_row larger
    pivots-agree =
        (fold-both (λ x y. (y ≡ x) × Among c n x) (c + 1) n (λ r x. larger marks m c r x) (λ r x. larger marks m' c r x) c c (refl, self)
        (λ r k o x y g.
        let a : Among c n r = record { low = omega arith; high = o } in
        (larger-same r x y a g.1 g.0, cond_both (Among c n) (is_larger (at marks m r c).value (at marks m x c).value) r x a g.1))).0

    pub zeros-agree : zero_pivot marks n c m' ≡ zero_pivot marks n c m
    unfolding zero_pivot
    zeros-agree =
        let p : ℕ = pivot_row marks n c m in
        rw pivots-agree (zero-agrees (shift c) (at marks m p c).value (at marks m' p c).value (tied p (pivot-among marks n c m h)))

  -- ---- the column eliminated
  pub column-bears : (t : ℕ) (m : Matrix) → Sized n w m → BearsFrom t n w (c + 1) (eliminate_column marks n w c m) → BearsFrom t n w c m
  unfolding eliminate_column
  column-bears t m z b =
      let p : ℕ = pivot_row marks n c m in
      let a : Among c n p = pivot-among marks n c m h in
      swap-bears p a m z t (clear-bears (swap_rows marks c p m) (swap-sized marks n w c p m z h a.high) t b)

  pub column-moves : (t : ℕ) (shift : ℕ → ℤ) → ((j : ℕ) → j < w → nat_abs (shift j) ≤ t) → (m m' : Matrix) → Sized n w m → Sized n w m'
      → BearsFrom t n w c m → MovesFrom t shift n w c m m' → MovesFrom t shift n w (c + 1) (eliminate_column marks n w c m) (eliminate_column marks n w c m')
  unfolding eliminate_column
  column-moves t shift small m m' z z' b f =
      let p : ℕ = pivot_row marks n c m in
      let a : Among c n p = pivot-among marks n c m h in
      rw (pivots-agree t shift m m' b f)
      (clear-moves (swap_rows marks c p m) (swap-sized marks n w c p m z h a.high) t shift small (swap_rows marks c p m')
      (swap-sized marks n w c p m' z' h a.high) (swap-moves p a t shift m m' z z' f))

-- ---- the columns, one after another
-- what the two runs keep: where the first's cells bear t, the second's are moved
record Alike (t : ℕ) (shift : ℕ → ℤ) (n w c : ℕ) (m m' : Matrix) : Type 0 where
  pub sized : Sized n w m
  pub sized' : Sized n w m'
  pub moves : BearsFrom t n w c m → MovesFrom t shift n w c m m'

module _ (t n w : ℕ) (l : n < w) where
  pub columns-bear : (m : Matrix) → Sized n w m → BearsFrom t n w n (eliminate_to marks n n w m) → (c : ℕ) → c ≤ n → BearsFrom t n w c (eliminate_to marks c n w m)
  unfolding eliminate_to
  columns-bear m z b c h =
      fold-back (λ k x. BearsFrom t n w k x) 0 n (λ c m. eliminate_column marks n w c m) m
      (λ k i j d. column-bears n w k j l t (eliminate_to marks k n w m) (eliminate_to-sized marks k n w m (omega arith) z) d) b c (omega arith) h

  pub columns-move : (shift : ℕ → ℤ) → ((j : ℕ) → j < w → nat_abs (shift j) ≤ t) → (m m' : Matrix) → Sized n w m → Sized n w m' → MovesFrom t shift n w 0 m m'
      → (c : ℕ) → c ≤ n → BearsFrom t n w c (eliminate_to marks c n w m) → MovesFrom t shift n w c (eliminate_to marks c n w m) (eliminate_to marks c n w m')
  unfolding eliminate_to
  columns-move shift small m m' z z' f c h =
      (fold-in-step (Alike t shift n w) 0 c (λ c m. eliminate_column marks n w c m) (λ c m. eliminate_column marks n w c m) m m' (omega arith)
      (record { sized = z; sized' = z'; moves = λ b. f })
      (λ k i j x y g.
      let o : k < n = omega arith in
      record {
        sized = eliminate-sized marks n w k x o g.sized;
        sized' = eliminate-sized marks n w k y o g.sized';
        moves = λ b.
            let d : BearsFrom t n w k x = column-bears n w k o l t x g.sized b in
            column-moves n w k o l t shift small x y g.sized g.sized' d (g.moves d);
      })).moves

-- ---- back substitution
-- X takes in every cell of the eliminated matrix from the diagonal on
pub back-bears : (t R C n cols : ℕ) (m : Matrix) → n ≤ R → cols ≤ C → 0 < cols → BearsCells t n cols (back_to marks n R C n cols m) → BearsFrom t n (n + cols) n m
unfolding back_cell back_sum
back-bears t R C n cols m hr hc some b = record { done = λ i j k o q. go i j k o q (dec_lt j n) (ℕ_discrete i j); rest = λ i j k o d q. absurd (omega arith) }
  where
    x : Matrix
    x = back_to marks n R C n cols m

    step : ℕ → ℕ → ℕ → Marked → Marked
    step i k j s = marked_sub s (marked_mul (at marks m i j) (at marks x j k))

    parts : (i k : ℕ) → i < n → k < cols → Bears t (fold (i + 1) n (step i k) (at marks m i (n + k))) × Bears t (at marks m i i)
    parts i k h o = div-bears (back_sum marks n n m x i k) (at marks m i i) (rw (back_at marks R C n cols m hr hc i k h o) at (b.cell i k h o))

    back : (i k j : ℕ) (s : Marked) → Bears t (step i k j s) → Bears t s
    back i k j s d = (sub-bears s (marked_mul (at marks m i j) (at marks x j k)) d).0

    -- the diagonal, the cells right of it, and B
    go : (i j : ℕ) → i < n → i ≤ j → j < n + cols → Dec (j < n) → Dec (i ≡ j) → Bears t (at marks m i j)
    go i j k o q (no e) d =
        let f : n + (j - n) ≡ j = omega arith in
        rw f at (first-bears (i + 1) n (step i (j - n)) (at marks m i (n + (j - n))) (back i (j - n)) (parts i (j - n) k (omega arith)).0)
    go i j k o q (yes e) (yes d) = rw (← d) (parts i 0 k some).1
    go i j k o q (yes e) (no d) =
        let s : Marked = fold (i + 1) j (step i 0) (at marks m i (n + 0)) in
        (mul-bears (at marks m i j) (at marks x j 0)
        (sub-bears s (marked_mul (at marks m i j) (at marks x j 0))
        (step-bears (i + 1) n (step i 0) (at marks m i (n + 0)) (back i 0) (parts i 0 k some).0 j (omega arith) e)).1).0

-- what is taken off and put back
back-shift : (u v : ℤ) → u +ℤ (v -ℤ u) ≡ v
back-shift u v = +ℤ_comm u (v -ℤ u) ∙ -ℤ-+ℤ_cancel v u

-- cell (i, k) of X moves by the shift of B's column k less that of A's column i
module _ (t : ℕ) (shift : ℕ → ℤ) (R C n cols : ℕ) (hr : n ≤ R) (hc : cols ≤ C) (m m' : Matrix) (f : MovesFrom t shift n (n + cols) n m m')
    (small : (j : ℕ) → j < n + cols → nat_abs (shift j) ≤ t) (less : (i k : ℕ) → i < n → k < cols → nat_abs (shift (n + k) -ℤ shift i) ≤ t) where
  cell_moves : ℕ → ℕ → Type 0
  cell_moves i k = Moves t (shift (n + k) -ℤ shift i) (at marks (back_to marks n R C n cols m) i k) (at marks (back_to marks n R C n cols m') i k)

  -- from the rows below
  cell-moves : (i k : ℕ) → i < n → k < cols → ((j : ℕ) → i < j → j < n → cell_moves j k) → cell_moves i k
  unfolding cell_moves back_cell back_sum
  cell-moves i k h o below =
      let x : Matrix = back_to marks n R C n cols m in
      let x' : Matrix = back_to marks n R C n cols m' in
      let v : ℤ = shift (n + k) in
      let sv : nat_abs v ≤ t = small (n + k) (omega arith) in
      rw (back_at marks R C n cols m hr hc i k h o, back_at marks R C n cols m' hr hc i k h o)
      (div-moves v (shift i) (less i k h o) (back_sum marks n n m x i k) (at marks m i i) (back_sum marks n n m' x' i k) (at marks m' i i)
      (fold-both (λ y z. Moves t v y z) (i + 1) n (λ j s. marked_sub s (marked_mul (at marks m i j) (at marks x j k)))
      (λ j s. marked_sub s (marked_mul (at marks m' i j) (at marks x' j k))) (at marks m i (n + k)) (at marks m' i (n + k))
      (f.done i (n + k) h (omega arith) (omega arith))
      (λ j d e y z g.
      let a : Marked = marked_mul (at marks m i j) (at marks x j k) in
      let a' : Marked = marked_mul (at marks m' i j) (at marks x' j k) in
      let eq : shift j +ℤ (v -ℤ shift j) ≡ v = back-shift (shift j) v in
      sub-moves v sv y a z a' g
      (moves-by a a' eq (mul-moves (shift j) (v -ℤ shift j) (rw eq sv) (at marks m i j) (at marks x j k) (at marks m' i j) (at marks x' j k)
      (f.done i j h (omega arith) (omega arith)) (below j (omega arith) e)))))
      (f.done i i h (omega arith) (omega arith)))

  last-move : (d i k : ℕ) → n ≤ i + d → i < n → k < cols → cell_moves i k
  last-move zero i k a h o = absurd (omega arith)
  last-move (suc d) i k a h o = cell-moves i k h o (λ j b e. last-move d j k (omega arith) e o)

  pub back-moves : (i k : ℕ) → i < n → k < cols
      → Moves t (shift (n + k) -ℤ shift i) (at marks (back_to marks n R C n cols m) i k) (at marks (back_to marks n R C n cols m') i k)
  unfolding cell_moves
  back-moves i k h o = last-move n i k (omega arith) h o

-- ---- A X = B
-- the shift of column j of A beside B
unfoldable side : ℕ → ℤ → ℤ → ℕ → ℤ
side n u v j = cond (ltb j n) u v

side_left : (n : ℕ) (u v : ℤ) (j : ℕ) → j < n → side n u v j ≡ u
unfolding side
side_left n u v j h = rw (lt-ltb j n h)

side_right : (n : ℕ) (u v : ℤ) (j : ℕ) → n ≤ j → side n u v j ≡ v
unfolding side
side_right n u v j h = rw (le-ltb j n h)

side-small : (t n : ℕ) (u v : ℤ) (j : ℕ) → nat_abs u ≤ t → nat_abs v ≤ t → nat_abs (side n u v j) ≤ t
unfolding side
side-small t n u v j p q = cond_both (λ x. nat_abs x ≤ t) (ltb j n) u v p q

module _ (R W n cols : ℕ) (hr : n ≤ R) (hw : n + cols ≤ W) where
  joined-left : (a b : Matrix) (i j : ℕ) → i < n → j < n → at marks (joined marks R W n cols a b) i j ≡ at marks a i j
  unfolding joined
  joined-left a b i j h l =
      table_at (zero_of marks) R W n (n + cols) (λ i j. cond (ltb j n) (at marks a i j) (at marks b i (j - n))) i j marks.void h (omega arith) hr hw ∙ rw (lt-ltb j n l)

  joined-right : (a b : Matrix) (i j : ℕ) → i < n → n ≤ j → j < n + cols → at marks (joined marks R W n cols a b) i j ≡ at marks b i (j - n)
  unfolding joined
  joined-right a b i j h l k =
      table_at (zero_of marks) R W n (n + cols) (λ i j. cond (ltb j n) (at marks a i j) (at marks b i (j - n))) i j marks.void h k hr hw ∙ rw (le-ltb j n l)

  joined-sized : (a b : Matrix) → Sized n (n + cols) (joined marks R W n cols a b)
  unfolding joined
  joined-sized a b = table-sized (zero_of marks) R W n (n + cols) (λ i j. cond (ltb j n) (at marks a i j) (at marks b i (j - n))) hr hw

  joined-moves : (t : ℕ) (u v : ℤ) (a b a' b' : Matrix) → MovesCells t u n n a a' → MovesCells t v n cols b b'
      → MovesFrom t (side n u v) n (n + cols) 0 (joined marks R W n cols a b) (joined marks R W n cols a' b')
  joined-moves t u v a b a' b' p q = record { done = λ i j k o d. absurd (omega arith); rest = λ i j k o d e. go i j o e (dec_lt j n) }
    where
      go : (i j : ℕ) → i < n → j < n + cols → Dec (j < n) → Moves t (side n u v j) (at marks (joined marks R W n cols a b) i j) (at marks (joined marks R W n cols a' b') i j)
      go i j h l (yes k) = rw (side_left n u v j k, joined-left a b i j h k, joined-left a' b' i j h k) (p.cell i j h k)
      go i j h l (no k) =
          let d : n ≤ j = omega arith in
          rw (side_right n u v j d, joined-right a b i j h d l, joined-right a' b' i j h d l) (q.cell i (j - n) h (omega arith))

  -- what the run with A and B takes in
  module _ (t C : ℕ) (hc : cols ≤ C) (some : 0 < cols) (a b : Matrix) (d : BearsCells t n cols (solution marks R W C n cols a b)) where
    stage-bears : (c : ℕ) → c ≤ n → BearsFrom t n (n + cols) c (eliminate_to marks c n (n + cols) (joined marks R W n cols a b))
    unfolding solution
    stage-bears =
        let m : Matrix = joined marks R W n cols a b in
        columns-bear t n (n + cols) (omega arith) m (joined-sized a b) (back-bears t R C n cols (eliminate_to marks n n (n + cols) m) hr hc some d)

-- the second run: in each column the pivot is taken from the same row, it is refused where the first is, and X moves by w
pub record SolvedAlike (t : ℕ) (w : ℤ) (R W C n cols : ℕ) (a b a' b' : Matrix) : Type 0 where
  pub pivots : (c : ℕ) → c < n → pivot_row marks n c (eliminate_to marks c n (n + cols) (joined marks R W n cols a' b'))
      ≡ pivot_row marks n c (eliminate_to marks c n (n + cols) (joined marks R W n cols a b))
  pub refusals : refused marks R W n cols a' b' ≡ refused marks R W n cols a b
  pub cells : MovesCells t w n cols (solution marks R W C n cols a b) (solution marks R W C n cols a' b')

module _ (R W C n cols : ℕ) (hr : n ≤ R) (hw : n + cols ≤ W) (hc : cols ≤ C) (some : 0 < cols) (t : ℕ) (u v : ℤ) (su : nat_abs u ≤ t) (sv : nat_abs v ≤ t) where
  pub solution-moves : nat_abs (v -ℤ u) ≤ t → (a b a' b' : Matrix) → MovesCells t u n n a a' → MovesCells t v n cols b b'
      → BearsCells t n cols (solution marks R W C n cols a b) → SolvedAlike t (v -ℤ u) R W C n cols a b a' b'
  unfolding solution refused met_zero
  solution-moves less a b a' b' p q d =
      record {
        pivots = λ c h. pivots-agree n (n + cols) c h (omega arith) t shift (m c) (m' c) (bears c (omega arith)) (moves c (omega arith));
        refusals =
            (stopping-stopped marks n n (n + cols) y').met
            ∙ fold-ext 0 n (λ c z. z || zero_pivot marks n c (m' c)) (λ c z. z || zero_pivot marks n c (m c)) false
            (λ c k h z. ap (λ (e : Bool). z || e) (zeros-agree n (n + cols) c h (omega arith) t shift (m c) (m' c) (bears c (omega arith)) (moves c (omega arith))))
            ∙ sym (stopping-stopped marks n n (n + cols) y).met;
        cells = record {
          cell = λ i k h o.
              moves-by (at marks (solution marks R W C n cols a b) i k) (at marks (solution marks R W C n cols a' b') i k) (apart i k h)
              (back-moves t shift R C n cols hr hc (m n) (m' n) (moves n (omega arith)) small (λ i k h o. rw (apart i k h) less) i k h o);
        };
      }
    where
      shift : ℕ → ℤ
      shift = side n u v

      y : Matrix
      y = joined marks R W n cols a b

      y' : Matrix
      y' = joined marks R W n cols a' b'

      m : ℕ → Matrix
      m c = eliminate_to marks c n (n + cols) y

      m' : ℕ → Matrix
      m' c = eliminate_to marks c n (n + cols) y'

      bears : (c : ℕ) → c ≤ n → BearsFrom t n (n + cols) c (m c)
      bears c h = stage-bears R W n cols hr hw t C hc some a b d c h

      small : (j : ℕ) → j < n + cols → nat_abs (shift j) ≤ t
      small j h = side-small t n u v j su sv

      moves : (c : ℕ) → c ≤ n → MovesFrom t shift n (n + cols) c (m c) (m' c)
      moves c h =
          columns-move t n (n + cols) (omega arith) shift small y y' (joined-sized R W n cols hr hw a b) (joined-sized R W n cols hr hw a' b')
          (joined-moves R W n cols hr hw t u v a b a' b' p q) c h (bears c h)

      apart : (i k : ℕ) → i < n → shift (n + k) -ℤ shift i ≡ v -ℤ u
      apart i k h = rw (side_right n u v (n + k) (omega arith), side_left n u v i h)

-- the inverse: B, the identity, does not move
abs_neg : (u : ℤ) → nat_abs (neg_ℤ u) ≡ nat_abs u
abs_neg (pos zero) = refl
abs_neg (pos (suc a)) = refl
abs_neg (negsuc a) = refl

pub inverse-moves : (R W C n : ℕ) → n ≤ R → n + n ≤ W → n ≤ C → 0 < n → (t : ℕ) (u : ℤ) → nat_abs u ≤ t → (a a' : Matrix) → MovesCells t u n n a a'
    → BearsCells t n n (inverse marks R W C n a) → SolvedAlike t (neg_ℤ u) R W C n n a (identity marks R C n) a' (identity marks R C n)
inverse-moves R W C n hr hw hc some t u su a a' p b =
    let e : pos 0 -ℤ u ≡ neg_ℤ u = +ℤ_idl (neg_ℤ u) in
    let s : nat_abs (pos 0 -ℤ u) ≤ t = rw e (rw abs_neg su) in
    subst (λ (w : ℤ). SolvedAlike t w R W C n n a (identity marks R C n) a' (identity marks R C n)) e
    (solution-moves R W C n n hr hw hc some t u (pos 0) su (omega arith) s a (identity marks R C n) a' (identity marks R C n) p
    (identity-moves R C n hr hc) b)
