-- Laws of elimination: where the pivot's row lies; what a column leaves as it was; and that the run which stops at a zero pivot is refused
-- just where the run that goes on has a zero on its diagonal at the end.
use Prim.Native.Nat.{ℕ, zero, suc, ◌+◌, ◌≤◌, ◌<◌}
use native.Mathlib.Omega.{arith}
use native.Mathlib.Decide.{dec_lt}
use native.Mathlib.Nat.{le_refl}
use native.Mathlib.Numerals.{add-one}
use mathlib.Core.Path.{◌≡◌, refl, sym, ap, ◌∙◌}
use mathlib.Core.Bool.{Bool, true, false, cond, ◌||◌, true≢false}
use mathlib.Core.List.{List, []}
use mathlib.Core.Logic.{inl}
use lib.ListN.{get_or, set, length, length-set}
use lib.Seq.{get_or-set_same, get_or-set_other}
use Rattle.arithmetic.specs.Numbers.{is_zero, is_larger}
use Rattle.algebra.specs.Fold.{fold}
use Rattle.algebra.specs.Kind.{Arith}
use Rattle.algebra.specs.Product.{at}
use Rattle.algebra.specs.Elimination.{Stopping, larger, pivot_row, swap_rows, less_row, cleared, eliminate_column, eliminate_to, zero_pivot, column_or_stop, stopping}
use Rattle.algebra.proofs.FoldLaws.{fold_more, fold_start, fold-keeps, fold-steps, fold-ext, length-span, span-other}

module _ {A : Type 0} (N : Arith A) where
  -- ---- the pivot's row
  larger-range : (m : List (List A)) (n c r best : ℕ) → c < r → r < n → (c ≤ best) × (best < n) → (c ≤ larger N m c r best) × (larger N m c r best < n)
  unfolding larger
  larger-range m n c r best h l p = go (is_larger (N.value (at N m r c)) (N.value (at N m best c)))
    where
      go : (b : Bool) → (c ≤ cond b r best) × (cond b r best < n)
      go true = (omega arith, l)
      go false = p

  -- it is one of the rows c to n - 1
  pub pivot-range : (n c : ℕ) (m : List (List A)) → c < n → (c ≤ pivot_row N n c m) × (pivot_row N n c m < n)
  unfolding pivot_row
  pivot-range n c m h =
      fold-keeps (λ best. (c ≤ best) × (best < n)) (c + 1) n (λ r best. larger N m c r best) c (omega arith, h)
      (λ r l k best p. larger-range m n c r best (omega arith) k p)

  -- ---- rows after a swap, and after a column
  pub length-swap : (i j : ℕ) (m : List (List A)) → length (swap_rows N i j m) ≡ length m
  unfolding swap_rows
  length-swap i j m = length-set (set m i (get_or m j [])) j (get_or m i []) ∙ length-set m i (get_or m j [])

  swap-first : (i j : ℕ) (m : List (List A)) → i < length m → get_or (swap_rows N i j m) i [] ≡ get_or m j []
  unfolding swap_rows
  swap-first i j m h = go (dec_lt i j) (dec_lt j i)
    where
      go : Dec (i < j) → Dec (j < i) → get_or (set (set m i (get_or m j [])) j (get_or m i [])) i [] ≡ get_or m j []
      go (yes l) k = get_or-set_other (set m i (get_or m j [])) j i (get_or m i []) [] (λ q. omega arith) ∙ get_or-set_same m i (get_or m j []) [] h
      go (no l) (yes k) = get_or-set_other (set m i (get_or m j [])) j i (get_or m i []) [] (λ q. omega arith) ∙ get_or-set_same m i (get_or m j []) [] h
      go (no l) (no k) =
          let e : j ≡ i = omega arith in
          rw e (get_or-set_same (set m i (get_or m i [])) i (get_or m i []) [] (omega (arith, length-set m i (get_or m i []))))

  swap-other : (i j k : ℕ) (m : List (List A)) → k < i → k < j → get_or (swap_rows N i j m) k [] ≡ get_or m k []
  unfolding swap_rows
  swap-other i j k m h l =
      get_or-set_other (set m i (get_or m j [])) j k (get_or m i []) [] (λ q. omega arith) ∙ get_or-set_other m i k (get_or m j []) [] (λ q. omega arith)

  pub length-column : (n w c : ℕ) (m : List (List A)) → length (eliminate_column N n w c m) ≡ length m
  unfolding eliminate_column cleared
  length-column n w c m =
      let s : List (List A) = swap_rows N c (pivot_row N n c m) m in
      length-span (c + 1) n (λ r. less_row N w c (get_or s c []) (get_or s r [])) s ∙ length-swap c (pivot_row N n c m) m

  -- up to row c a column is as its swap made it
  column-row : (n w c i : ℕ) (m : List (List A)) → i ≤ c → get_or (eliminate_column N n w c m) i [] ≡ get_or (swap_rows N c (pivot_row N n c m) m) i []
  unfolding eliminate_column cleared
  column-row n w c i m h =
      let s : List (List A) = swap_rows N c (pivot_row N n c m) m in
      span-other (c + 1) n (λ r. less_row N w c (get_or s c []) (get_or s r [])) s i [] (inl (omega arith))

  -- no column changes a row above it
  pub column-above : (n w c i : ℕ) (m : List (List A)) → c < n → i < c → get_or (eliminate_column N n w c m) i [] ≡ get_or m i []
  column-above n w c i m h l =
      let p = pivot-range n c m h in
      column-row n w c i m (omega arith) ∙ swap-other c (pivot_row N n c m) i m l (omega arith)

  -- the pivot's row is in row c
  pub column-pivot : (n w c : ℕ) (m : List (List A)) → c < length m → get_or (eliminate_column N n w c m) c [] ≡ get_or m (pivot_row N n c m) []
  column-pivot n w c m h = column-row n w c c m (omega arith) ∙ swap-first c (pivot_row N n c m) m h

  -- ---- a zero on the diagonal of the first k columns
  abbrev zero_on_diagonal : ℕ → List (List A) → Bool
  zero_on_diagonal k m = fold 0 k (λ c z. z || is_zero (N.value (at N m c c))) false

  -- one column more adds the test of its pivot
  diagonal-next : (n w k : ℕ) (m : List (List A)) → k < n → n ≤ length m
      → zero_on_diagonal (k + 1) (eliminate_column N n w k m) ≡ (zero_on_diagonal k m || zero_pivot N n k m)
  unfolding zero_pivot
  diagonal-next n w k m h l =
      let e : List (List A) = eliminate_column N n w k m in
      fold_more 0 k (λ c z. z || is_zero (N.value (at N e c c))) false (omega arith)
      ∙ ap (λ (z : Bool). z || is_zero (N.value (at N e k k)))
      (fold-ext 0 k (λ c z. z || is_zero (N.value (at N e c c))) (λ c z. z || is_zero (N.value (at N m c c))) false
      (λ c a b z. ap (λ (x : List A). z || is_zero (N.value (get_or x c N.void))) (column-above n w k c m h b)))
      ∙ ap (λ (x : List A). zero_on_diagonal k m || is_zero (N.value (get_or x k N.void))) (column-pivot n w k m (omega arith))

  pub eliminate_to-more : (k n w : ℕ) (m : List (List A)) → eliminate_to N (k + 1) n w m ≡ eliminate_column N n w k (eliminate_to N k n w m)
  unfolding eliminate_to
  eliminate_to-more k n w m = fold_more 0 k (λ c m. eliminate_column N n w c m) m (omega arith)

  -- ---- the run that stops: refused where the run that goes on meets a zero pivot; its rows are that run's where it is not refused
  unfoldable pub met_zero : ℕ → ℕ → ℕ → List (List A) → Bool
  met_zero k n w m = fold 0 k (λ c z. z || zero_pivot N n c (eliminate_to N c n w m)) false

  pub record Stopped (k n w : ℕ) (m : List (List A)) (s : Stopping A) : Type 0 where
    pub met : s.refused ≡ met_zero k n w m
    pub rows : s.refused ≡ false → s.rows ≡ eliminate_to N k n w m

  stopped_none : (n w : ℕ) (m : List (List A)) → Stopped 0 n w m (record { rows = m; refused = false })
  unfolding met_zero eliminate_to fold
  stopped_none n w m = record { met = refl; rows = λ x. refl }

  met_zero-more : (k n w : ℕ) (m : List (List A)) → met_zero (k + 1) n w m ≡ (met_zero k n w m || zero_pivot N n k (eliminate_to N k n w m))
  unfolding met_zero
  met_zero-more k n w m = fold_more 0 k (λ c z. z || zero_pivot N n c (eliminate_to N c n w m)) false (omega arith)

  stopped_more : (n w : ℕ) (m : List (List A)) (k : ℕ) (s : Stopping A) → Stopped k n w m s → Stopped (k + 1) n w m (column_or_stop N n w k s)
  unfolding column_or_stop
  stopped_more n w m k s g = go s.refused refl (zero_pivot N n k s.rows) refl
    where
      -- what is met so far is b, and the pivot's test says d
      met : (b d : Bool) → s.refused ≡ b → (b ≡ false → zero_pivot N n k s.rows ≡ d) → met_zero (k + 1) n w m ≡ (b || d)
      met true d e f = met_zero-more k n w m ∙ ap (λ (x : Bool). x || zero_pivot N n k (eliminate_to N k n w m)) (sym g.met ∙ e)
      met false d e f =
          met_zero-more k n w m ∙ ap (λ (x : Bool). x || zero_pivot N n k (eliminate_to N k n w m)) (sym g.met ∙ e)
          ∙ ap (zero_pivot N n k) (sym (g.rows e)) ∙ f refl

      go : (b : Bool) → s.refused ≡ b → (d : Bool) → zero_pivot N n k s.rows ≡ d
          → Stopped (k + 1) n w m (cond b s (cond d (record { rows = s.rows; refused = true }) (record { rows = eliminate_column N n w k s.rows; refused = false })))
      go true e d f = record { met = e ∙ sym (met true d e (λ x. f)); rows = λ x. absurd (true≢false (sym e ∙ x)) }
      go false e true f = record { met = sym (met false true e (λ x. f)); rows = λ x. absurd (true≢false x) }
      go false e false f = record {
        met = sym (met false false e (λ x. f));
        rows = λ x. ap (eliminate_column N n w k) (g.rows e) ∙ sym (eliminate_to-more k n w m);
      }

  pub stopping-stopped : (k n w : ℕ) (m : List (List A)) → Stopped k n w m (stopping N k n w m)
  unfolding stopping
  stopping-stopped k n w m =
      fold-steps (λ k s. Stopped k n w m s) 0 k (λ c s. column_or_stop N n w c s) (record { rows = m; refused = false }) (omega arith) (stopped_none n w m)
      (λ c i j s g. stopped_more n w m c s g)

  -- after k columns the diagonal holds a zero just where a pivot was zero
  length-eliminate : (k n w : ℕ) (m : List (List A)) → length (eliminate_to N k n w m) ≡ length m
  unfolding eliminate_to
  length-eliminate k n w m = fold-keeps (λ y. length y ≡ length m) 0 k (λ c m. eliminate_column N n w c m) m refl (λ c i j b q. length-column n w c b ∙ q)

  diagonal-met : (k n w : ℕ) (m : List (List A)) → k ≤ n → n ≤ length m → zero_on_diagonal k (eliminate_to N k n w m) ≡ met_zero k n w m
  unfolding met_zero eliminate_to fold
  diagonal-met zero n w m h l = refl
  diagonal-met (suc k) n w m h l =
      ap (λ (x : ℕ). zero_on_diagonal x (eliminate_to N x n w m)) (sym (add-one k))
      ∙ ap (zero_on_diagonal (k + 1)) (eliminate_to-more k n w m)
      ∙ diagonal-next n w k (eliminate_to N k n w m) h (omega (arith, length-eliminate k n w m))
      ∙ ap (λ (z : Bool). z || zero_pivot N n k (eliminate_to N k n w m)) (diagonal-met k n w m (omega arith) l)
      ∙ sym (met_zero-more k n w m)
      ∙ ap (λ (x : ℕ). met_zero x n w m) (add-one k)

  -- the run that stops in the column of a zero pivot is refused where the run that goes on has a zero on its diagonal at the end
  pub refused-diagonal : (n w : ℕ) (m : List (List A)) → n ≤ length m
      → (stopping N n n w m).refused ≡ fold 0 n (λ c z. z || is_zero (N.value (at N (eliminate_to N n n w m) c c))) false
  refused-diagonal n w m h = (stopping-stopped n n w m).met ∙ sym (diagonal-met n n w m (le_refl n) h)

  -- and where it is not refused, the two runs end with the same matrix
  pub not-refused-rows : (n w : ℕ) (m : List (List A)) → (stopping N n n w m).refused ≡ false → (stopping N n n w m).rows ≡ eliminate_to N n n w m
  not-refused-rows n w m q = (stopping-stopped n n w m).rows q
