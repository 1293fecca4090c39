-- Elimination, for every kind of number: what stands in the cells of the matrix with a column eliminated, and X by its own rows.
use Prim.Native.Nat.{ℕ, zero, ◌+◌, ◌-◌, ◌≤◌, ◌<◌}
use native.Mathlib.Omega.{arith}
use native.Mathlib.Decide.{ℕ_discrete, dec_le}
use mathlib.Core.Path.{◌≡◌, refl, sym, ap, ◌∙◌}
use mathlib.Core.Bool.{Bool, true, false, cond, ◌||◌, true≢false}
use mathlib.Core.List.{List, []}
use mathlib.Core.Logic.{inl}
use lib.ListN.{get_or, set, length, length-set, replicate, length-replicate}
use lib.Seq.{get_or-set_same, get_or-set_other}
use Rattle.algebra.specs.Fold.{fold}
use Rattle.algebra.specs.Table.{row, blank}
use Rattle.algebra.specs.Kind.{Arith, zero_of}
use Rattle.algebra.specs.Product.{at}
use Rattle.algebra.specs.Elimination.{pivot_row, swap_rows, factor, less_by, less_row, cleared, eliminate_column, eliminate_to, back_sum, back_cell, back_to}
use Rattle.algebra.proofs.FoldLaws.{fold_more, fold-keeps, fold-steps, fold-ext, span-at, span-other, length-span}
use Rattle.algebra.proofs.TableLaws.{row_at}
use Rattle.algebra.proofs.EliminationLaws.{pivot-range}
use Rattle.algebra.proofs.MovingCells.{Place, first, second, other, place, Sized, cond_both}

-- rows i and j change places: the row that stands at k afterwards
unfoldable pub origin : {i j k : ℕ} → Place i j k → ℕ
origin {i} {j} {k} (first _) = j
origin {i} {j} {k} (second _) = i
origin {i} {j} {k} (other _ _) = k

-- p is one of c, .., n - 1
pub record Among (c n p : ℕ) : Type 0 where
  pub low : c ≤ p
  pub high : p < n

pub origin-among : {c n i j k : ℕ} → Among c n i → Among c n j → Among c n k → (x : Place i j k) → Among c n (origin x)
unfolding origin
origin-among a b d (first _) = b
origin-among a b d (second _) = a
origin-among a b d (other _ _) = d

module _ {A : Type 0} (N : Arith A) where
  -- ---- rows i and j change places
  module _ (i j : ℕ) (m : List (List A)) (hi : i < length m) (hj : j < length m) where
    swap-second : get_or (swap_rows N i j m) j [] ≡ get_or m i []
    unfolding swap_rows
    swap-second = get_or-set_same (set m i (get_or m j [])) j (get_or m i []) [] (omega (arith, length-set m i (get_or m j [])))

    swap-first : get_or (swap_rows N i j m) i [] ≡ get_or m j []
    unfolding swap_rows
    swap-first = go (ℕ_discrete i j)
      where
        go : Dec (i ≡ j) → get_or (set (set m i (get_or m j [])) j (get_or m i [])) i [] ≡ get_or m j []
        go (yes e) = rw e (get_or-set_same (set m j (get_or m j [])) j (get_or m j []) [] (omega (arith, length-set m j (get_or m j []))))
        go (no e) = get_or-set_other (set m i (get_or m j [])) j i (get_or m i []) [] e ∙ get_or-set_same m i (get_or m j []) [] hi

    pub swap-row : {k : ℕ} (x : Place i j k) → get_or (swap_rows N i j m) k [] ≡ get_or m (origin x) []
    unfolding swap_rows origin
    swap-row (first e) = rw e swap-first
    swap-row (second e) = rw e swap-second
    swap-row {k} (other d e) = get_or-set_other (set m i (get_or m j [])) j k (get_or m i []) [] e ∙ get_or-set_other m i k (get_or m j []) [] d

    -- the change undoes itself
    pub swap-back : {k : ℕ} (x : Place i j k) → get_or m k [] ≡ get_or (swap_rows N i j m) (origin x) []
    unfolding origin
    swap-back (first e) = rw e (sym swap-second)
    swap-back (second e) = rw e (sym swap-first)
    swap-back (other d e) = sym (swap-row (other d e))

  pub swap-sized : (n w i j : ℕ) (m : List (List A)) → Sized n w m → i < n → j < n → Sized n w (swap_rows N i j m)
  unfolding swap_rows
  swap-sized n w i j m z hi hj =
      let a : Among 0 n i = record { low = omega arith; high = hi } in
      let b : Among 0 n j = record { low = omega arith; high = hj } in
      record {
        rows = simp length-set z.rows;
        cells = λ k h.
            rw (swap-row i j m (omega (arith, z.rows)) (omega (arith, z.rows)) (place i j k))
            (z.cells (origin (place i j k)) (origin-among a b (record { low = omega arith; high = h }) (place i j k)).high);
      }

  -- ---- the rows below c less their factors times row c
  module _ (n w c : ℕ) (m : List (List A)) (z : Sized n w m) where
    pub cleared-above : (i : ℕ) → i ≤ c → get_or (cleared N n w c m) i [] ≡ get_or m i []
    unfolding cleared
    cleared-above i h = span-other (c + 1) n (λ r. less_row N w c (get_or m c []) (get_or m r [])) m i [] (inl (omega arith))

    cleared-row : (i : ℕ) → c < i → i < n → get_or (cleared N n w c m) i [] ≡ less_row N w c (get_or m c []) (get_or m i [])
    unfolding cleared
    cleared-row i h l = span-at (c + 1) n (λ r. less_row N w c (get_or m c []) (get_or m r [])) m i [] (omega arith) l z.rows

    pub cleared_at : (i j : ℕ) → c < i → i < n → c < j → j < w
        → at N (cleared N n w c m) i j ≡ N.minus (at N m i j) (N.times (N.over (at N m i c) (at N m c c)) (at N m c j))
    unfolding less_by factor
    cleared_at i j h l k o =
        let y : List A = get_or m i [] in
        ap (λ (x : List A). get_or x j N.void) (cleared-row i h l)
        ∙ span-at (c + 1) w (λ j. N.minus (get_or y j N.void) (N.times (factor N c (get_or m c []) y) (at N m c j))) y j N.void (omega arith) o (z.cells i l)

    pub cleared-sized : Sized n w (cleared N n w c m)
    unfolding cleared less_by
    cleared-sized = record {
      rows = omega (arith, length-span (c + 1) n (λ r. less_row N w c (get_or m c []) (get_or m r [])) m, z.rows);
      cells = λ i h. go i h (dec_le i c);
    }
      where
        go : (i : ℕ) → i < n → Dec (i ≤ c) → w ≤ length (get_or (cleared N n w c m) i [])
        go i h (yes l) = rw (cleared-above i l) (z.cells i h)
        go i h (no l) =
            let y : List A = get_or m i [] in
            rw (cleared-row i (omega arith) h)
            (omega (
              arith,
              z.cells i h,
              length-span (c + 1) w (λ j. N.minus (get_or y j N.void) (N.times (factor N c (get_or m c []) y) (at N m c j))) y,
            ))

  -- ---- the pivot's row is one of the rows c to n - 1
  pub pivot-among : (n c : ℕ) (m : List (List A)) → c < n → Among c n (pivot_row N n c m)
  pivot-among n c m h = let r = pivot-range N n c m h in record { low = r.0; high = r.1 }

  -- ---- the eliminated matrix
  pub eliminate-sized : (n w c : ℕ) (m : List (List A)) → c < n → Sized n w m → Sized n w (eliminate_column N n w c m)
  unfolding eliminate_column
  eliminate-sized n w c m h z =
      let p : ℕ = pivot_row N n c m in
      cleared-sized n w c (swap_rows N c p m) (swap-sized n w c p m z h (pivot-among n c m h).high)

  pub eliminate_to-sized : (k n w : ℕ) (m : List (List A)) → k ≤ n → Sized n w m → Sized n w (eliminate_to N k n w m)
  unfolding eliminate_to
  eliminate_to-sized k n w m h z =
      fold-keeps (Sized n w) 0 k (λ c m. eliminate_column N n w c m) m z (λ c i j b g. eliminate-sized n w c b (omega arith) g)

  -- ---- X by its own rows: each takes in those below it
  sum_same : (n hi : ℕ) (m x y : List (List A)) (i k : ℕ) → ((j : ℕ) → i < j → j < hi → at N x j k ≡ at N y j k) → back_sum N n hi m x i k ≡ back_sum N n hi m y i k
  unfolding back_sum
  sum_same n hi m x y i k e =
      fold-ext (i + 1) hi (λ j s. N.minus s (N.times (at N m i j) (at N x j k))) (λ j s. N.minus s (N.times (at N m i j) (at N y j k))) (at N m i (n + k))
      (λ j l o b. ap (λ (v : A). N.minus b (N.times (at N m i j) v)) (e j (omega arith) o))

  back-same : (n : ℕ) (m x y : List (List A)) (i k : ℕ) → ((j : ℕ) → i < j → j < n → at N x j k ≡ at N y j k) → back_cell N n m x i k ≡ back_cell N n m y i k
  unfolding back_cell
  back-same n m x y i k e = ap (λ (v : A). N.over v (at N m i i)) (sum_same n n m x y i k e)

  -- the last d rows of x are those of X
  record Last (R n cols : ℕ) (m : List (List A)) (d : ℕ) (x : List (List A)) : Type 0 where
    pub rows : length x ≡ R
    pub cells : (i k : ℕ) → n ≤ i + d → i < n → k < cols → at N x i k ≡ back_cell N n m x i k

  last_more : (R C n cols : ℕ) (m : List (List A)) → n ≤ R → cols ≤ C → (d : ℕ) → d < n → (x : List (List A)) → Last R n cols m d x
      → Last R n cols m (d + 1) (set x (n - 1 - d) (row (zero_of N) C cols (back_cell N n m x (n - 1 - d))))
  last_more R C n cols m hr hc d h x g =
      record { rows = length-set x r y ∙ g.rows; cells = λ i k a b o. go i k a b o (ℕ_discrete i r) }
    where
      r : ℕ
      r = n - 1 - d

      y : List A
      y = row (zero_of N) C cols (back_cell N n m x r)

      same : (i k : ℕ) → r ≤ i → back_cell N n m (set x r y) i k ≡ back_cell N n m x i k
      same i k a =
          back-same n m (set x r y) x i k
          (λ j b o. ap (λ (v : List A). get_or v k N.void) (get_or-set_other x r j y [] (λ e. omega arith)))

      go : (i k : ℕ) → n ≤ i + (d + 1) → i < n → k < cols → Dec (i ≡ r) → at N (set x r y) i k ≡ back_cell N n m (set x r y) i k
      go i k a b o (yes e) =
          rw e (ap (λ (v : List A). get_or v k N.void) (get_or-set_same x r y [] (omega (arith, g.rows)))
          ∙ row_at (zero_of N) C cols (back_cell N n m x r) k N.void o hc ∙ sym (same r k (omega arith)))
      go i k a b o (no e) =
          ap (λ (v : List A). get_or v k N.void) (get_or-set_other x r i y [] e) ∙ g.cells i k (omega arith) b o ∙ sym (same i k (omega arith))

  pub back_at : (R C n cols : ℕ) (m : List (List A)) → n ≤ R → cols ≤ C → (i k : ℕ) → i < n → k < cols
      → at N (back_to N n R C n cols m) i k ≡ back_cell N n m (back_to N n R C n cols m) i k
  unfolding back_to blank
  back_at R C n cols m hr hc i k h o =
      (fold-steps (Last R n cols m) 0 n (λ d x. set x (n - 1 - d) (row (zero_of N) C cols (back_cell N n m x (n - 1 - d)))) (blank (zero_of N) R C) (omega arith)
      (record { rows = length-replicate R (replicate C (zero_of N)); cells = λ i k a b o. absurd (omega arith) })
      (λ d a b x g. last_more R C n cols m hr hc d b x g)).cells i k (omega arith) h o
