-- Two runs of one algorithm, on two kinds of number that are related, give related results. Each algorithm's law is stated once, over the relation.
-- With `marks-floats` it says that the values of a marked run are those of the plain run.
use Prim.Native.Nat.{ℕ, suc, ◌+◌, ◌-◌, ◌<◌, ◌≤◌}
use native.Mathlib.Omega.{arith}
use native.Mathlib.Decide.{dec_lt}
use mathlib.Core.Path.{◌≡◌, refl, sym, ap, ap₂, ◌∙◌}
use mathlib.Core.Bool.{Bool, true, false, cond}
use mathlib.Core.List.{List, [], ◌∷◌, map}
use lib.Dec.{eqb, ltb}
use lib.ListN.{get_or, set, length, length-set, replicate, get_or-replicate, length-replicate, get_or-eq_default}
use lib.Seq.{get_or-set_same, get_or-set_other, set_out}
use lib.Ieee.{Float, lt}
use Rattle.arithmetic.specs.Numbers.{plus_zero, one, is_zero, sign}
use Rattle.arithmetic.proofs.MarkLaws.{add-value, sub-value, mul-value, div_value, root-value, magnitude-value, also-value}
use Rattle.algebra.specs.Fold.{span}
use Rattle.algebra.specs.Table.{row, blank, table}
use Rattle.algebra.specs.Kind.{Arith, floats, marks, zero_of}
use Rattle.algebra.specs.Product.{at, sum, cell, product, transpose, sum_cells, minus_cells, times_number, over_number, identity}
use Rattle.algebra.specs.Elimination.{Stopping, larger, pivot_row, swap_rows, factor, less_by, less_row, cleared, eliminate_column, eliminate_to, zero_pivot, column_or_stop, stopping, back_sum, back_cell, back_to, joined, refused, solution}
use Rattle.algebra.specs.Jacobi.{State, two, ratio, tangent, cosine, sine, turned_first, turned_second, turn_row, turn_columns, rotated_cell, rotated, squared, bound, rotate_tested, rotate, row_to, sweep_to, sweeps_to, mirrored, jacobi}
use Rattle.algebra.specs.Small.{sandwich, given_cells, values, all_marks}
use Rattle.algebra.proofs.FoldLaws.{fold-both, fold-ext}
use Rattle.algebra.proofs.TableLaws.{table-ext}

-- two choices, by tests that agree
pub cond_both : {A B : Type 0} (P : A → B → Type 0) (b c : Bool) (x x' : A) (y y' : B) → b ≡ c → P x y → P x' y' → P (cond b x x') (cond c y y')
cond_both P b true x x' y y' e p q = rw e p
cond_both P b false x x' y y' e p q = rw e q

-- lists of one length with related elements; d and e stand past their ends
pub record Each {A B : Type 0} (R : A → B → Type 0) (d : A) (e : B) (xs : List A) (ys : List B) : Type 0 where
  pub long : length xs ≡ length ys
  pub each : (j : ℕ) → R (get_or xs j d) (get_or ys j e)

module _ {A B : Type 0} {R : A → B → Type 0} {d : A} {e : B} where
  pub each_set : {xs : List A} {ys : List B} (k : ℕ) {x : A} {y : B} → Each R d e xs ys → R x y → Each R d e (set xs k x) (set ys k y)
  each_set {xs} {ys} k {x} {y} r q =
      record { long = length-set xs k x ∙ r.long ∙ sym (length-set ys k y); each = λ j. go j (dec_lt j k) (dec_lt k j) (dec_lt j (length ys)) }
    where
      go : (j : ℕ) → Dec (j < k) → Dec (k < j) → Dec (j < length ys) → R (get_or (set xs k x) j d) (get_or (set ys k y) j e)
      go j (yes h) b l = rw (get_or-set_other xs k j x d (λ p. omega arith), get_or-set_other ys k j y e (λ p. omega arith)) (r.each j)
      go j (no a) (yes h) l = rw (get_or-set_other xs k j x d (λ p. omega arith), get_or-set_other ys k j y e (λ p. omega arith)) (r.each j)
      go j (no a) (no b) (yes l) =
          let p : j ≡ k = omega arith in
          rw (p, get_or-set_same xs k x d (omega (arith, r.long)), get_or-set_same ys k y e (omega arith)) q
      go j (no a) (no b) (no l) =
          let p : j ≡ k = omega arith in
          rw (p, set_out xs k x (omega (arith, r.long)), set_out ys k y (omega arith)) (r.each k)

  pub each_none : R d e → Each R d e [] []
  each_none q = record { long = refl; each = λ j. q }

  pub each-replicate : (n : ℕ) (z : A) (w : B) → R d e → R z w → Each R d e (replicate n z) (replicate n w)
  each-replicate n z w p q = record { long = length-replicate n z ∙ sym (length-replicate n w); each = λ j. go j (dec_lt j n) }
    where
      go : (j : ℕ) → Dec (j < n) → R (get_or (replicate n z) j d) (get_or (replicate n w) j e)
      go j (yes h) = rw (get_or-replicate n j z d h, get_or-replicate n j w e h) q
      go j (no h) =
          rw (
            get_or-eq_default (replicate n z) d {n = j} (omega (arith, length-replicate n z)),
            get_or-eq_default (replicate n w) e {n = j} (omega (arith, length-replicate n w)),
          ) p

  pub each-span : (lo hi : ℕ) (f : ℕ → A) (g : ℕ → B) {xs : List A} {ys : List B} → Each R d e xs ys
      → ((k : ℕ) → lo ≤ k → k < hi → R (f k) (g k)) → Each R d e (span lo hi f xs) (span lo hi g ys)
  each-span lo hi f g {xs} {ys} r s =
      fold-both (λ x y. Each R d e x y) lo hi (λ k x. set x k (f k)) (λ k y. set y k (g k)) xs ys r (λ k h l x y q. each_set k q (s k h l))

-- what two functions make of related elements alike, they make of the lists
pub each_map : {A B C : Type 0} {R : A → B → Type 0} {d : A} {e : B} (f : A → C) (g : B → C) → ((x : A) (y : B) → R x y → f x ≡ g y) → {xs : List A} {ys : List B}
    → Each R d e xs ys → map f xs ≡ map g ys
each_map {A} {B} {C} {R} {d} {e} f g s {xs} {ys} r = go xs ys r.long r.each
  where
    go : (xs : List A) (ys : List B) → length xs ≡ length ys → ((j : ℕ) → R (get_or xs j d) (get_or ys j e)) → map f xs ≡ map g ys
    go [] [] h q = refl
    go [] (y ∷ ys) h q = absurd (omega arith)
    go (x ∷ xs) [] h q = absurd (omega arith)
    go (x ∷ xs) (y ∷ ys) h q = ap₂ ◌∷◌ (s x y (q 0)) (go xs ys (omega arith) (λ j. q (suc j)))

-- matrices with related cells
abbrev pub Cells : {A B : Type 0} → (A → B → Type 0) → A → B → List (List A) → List (List B) → Type 0
Cells R d e = Each (λ x y. Each R d e x y) [] []

module _ {A B : Type 0} {R : A → B → Type 0} {d : A} {e : B} where
  pub row-both : (C c : ℕ) (z : A) (w : B) (f : ℕ → A) (g : ℕ → B) → R d e → R z w → ((j : ℕ) → j < c → R (f j) (g j)) → Each R d e (row z C c f) (row w C c g)
  unfolding row
  row-both C c z w f g p q s = each-span 0 c f g (each-replicate C z w p q) (λ j h l. s j l)

  pub blank-both : (K C : ℕ) (z : A) (w : B) → R d e → R z w → Cells R d e (blank z K C) (blank w K C)
  unfolding blank
  blank-both K C z w p q = each-replicate K (replicate C z) (replicate C w) (each_none p) (each-replicate C z w p q)

  pub table-both : (K C r c : ℕ) (z : A) (w : B) (f : ℕ → ℕ → A) (g : ℕ → ℕ → B) → R d e → R z w
      → ((i j : ℕ) → i < r → j < c → R (f i j) (g i j)) → Cells R d e (table z K C r c f) (table w K C r c g)
  unfolding table
  table-both K C r c z w f g p q s =
      each-span 0 r (λ i. row z C c (f i)) (λ i. row w C c (g i)) (blank-both K C z w p q) (λ i h l. row-both C c z w (f i) (g i) p q (λ j u. s i j l u))

-- R is kept by every operation of two kinds of number, and related numbers have the same value
pub record Alike {A B : Type 0} (R : A → B → Type 0) (N : Arith A) (M : Arith B) : Type 0 where
  pub value : {a : A} {b : B} → R a b → N.value a ≡ M.value b
  pub of : (x : Float) → R (N.of x) (M.of x)
  pub void : R N.void M.void
  pub plus : {a c : A} {b d : B} → R a b → R c d → R (N.plus a c) (M.plus b d)
  pub minus : {a c : A} {b d : B} → R a b → R c d → R (N.minus a c) (M.minus b d)
  pub times : {a c : A} {b d : B} → R a b → R c d → R (N.times a c) (M.times b d)
  pub over : {a c : A} {b d : B} → R a b → R c d → R (N.over a c) (M.over b d)
  pub root : {a : A} {b : B} → R a b → R (N.root a) (M.root b)
  pub unsigned : {a : A} {b : B} → R a b → R (N.unsigned a) (M.unsigned b)
  pub also : {a c : A} {b d : B} → R a b → R c d → R (N.also a c) (M.also b d)

-- a marked number has the value of the plain one
pub marks-floats : Alike (λ a x. a.value ≡ x) marks floats
marks-floats = record {
  value = λ p. p;
  of = λ x. refl;
  void = refl;
  plus = λ p q. rw (add-value, p, q);
  minus = λ p q. rw (sub-value, p, q);
  times = λ p q. rw (mul-value, p, q);
  over = λ p q. rw (div_value, p, q);
  root = λ p. rw (root-value, p);
  unsigned = λ p. rw (magnitude-value, p);
  also = λ p q. rw also-value p;
}

-- ---- sums and products
module _ {A B : Type 0} {R : A → B → Type 0} {N : Arith A} {M : Arith B} (k : Alike R N M) where
  abbrev pub Like : List (List A) → List (List B) → Type 0
  Like = Cells R N.void M.void

  table-alike : (K C r c : ℕ) (f : ℕ → ℕ → A) (g : ℕ → ℕ → B) → ((i j : ℕ) → i < r → j < c → R (f i j) (g i j))
      → Like (table (zero_of N) K C r c f) (table (zero_of M) K C r c g)
  table-alike K C r c f g s = table-both K C r c (zero_of N) (zero_of M) f g k.void (k.of plus_zero) s

  pub sum_alike : (n : ℕ) (f : ℕ → A) (g : ℕ → B) → ((i : ℕ) → i < n → R (f i) (g i)) → R (sum N n f) (sum M n g)
  unfolding sum
  sum_alike n f g s = fold-both R 0 n _ _ (zero_of N) (zero_of M) (k.of plus_zero) (λ i h l x y q. k.plus q (s i l))

  pub cell-alike : (n : ℕ) {a b : List (List A)} {a' b' : List (List B)} (i j : ℕ) → Like a a' → Like b b' → R (cell N n a b i j) (cell M n a' b' i j)
  unfolding cell
  cell-alike n i j p q = sum_alike n _ _ (λ h l. k.times ((p.each i).each h) ((q.each h).each j))

  pub product-alike : (K C r n c : ℕ) {a b : List (List A)} {a' b' : List (List B)} → Like a a' → Like b b'
      → Like (product N K C r n c a b) (product M K C r n c a' b')
  unfolding product
  product-alike K C r n c p q = table-alike K C r c _ _ (λ i j h l. cell-alike n i j p q)

  pub transpose-alike : (K C r c : ℕ) {a : List (List A)} {a' : List (List B)} → Like a a' → Like (transpose N K C r c a) (transpose M K C r c a')
  unfolding transpose
  transpose-alike K C r c p = table-alike K C c r _ _ (λ i j h l. (p.each j).each i)

  pub sum_cells-alike : (r c : ℕ) (f : ℕ → ℕ → A) (g : ℕ → ℕ → B) → ((i j : ℕ) → i < r → j < c → R (f i j) (g i j)) → R (sum_cells N r c f) (sum_cells M r c g)
  unfolding sum_cells
  sum_cells-alike r c f g s =
      fold-both R 0 r _ _ (zero_of N) (zero_of M) (k.of plus_zero) (λ i h l x y q. fold-both R 0 c _ _ x y q (λ j v u x' y' q'. k.plus q' (s i j l u)))

  pub minus_cells-alike : (K C r c : ℕ) {a b : List (List A)} {a' b' : List (List B)} → Like a a' → Like b b'
      → Like (minus_cells N K C r c a b) (minus_cells M K C r c a' b')
  unfolding minus_cells
  minus_cells-alike K C r c p q = table-alike K C r c _ _ (λ i j h l. k.minus ((p.each i).each j) ((q.each i).each j))

  pub times_number-alike : (K C r c : ℕ) {a : List (List A)} {a' : List (List B)} {x : A} {y : B} → Like a a' → R x y
      → Like (times_number N K C r c a x) (times_number M K C r c a' y)
  unfolding times_number
  times_number-alike K C r c p q = table-alike K C r c _ _ (λ i j h l. k.times ((p.each i).each j) q)

  pub over_number-alike : (K C r c : ℕ) {a : List (List A)} {a' : List (List B)} {x : A} {y : B} → Like a a' → R x y
      → Like (over_number N K C r c a x) (over_number M K C r c a' y)
  unfolding over_number
  over_number-alike K C r c p q = table-alike K C r c _ _ (λ i j h l. k.over ((p.each i).each j) q)

  pub identity-alike : (K C n : ℕ) → Like (identity N K C n) (identity M K C n)
  unfolding identity
  identity-alike K C n = table-alike K C n n _ _ (λ i j h l. cond_both R (eqb i j) (eqb i j) _ _ _ _ refl (k.of one) (k.of plus_zero))

  -- ---- elimination
  abbrev pub LikeRow : List A → List B → Type 0
  LikeRow = Each R N.void M.void

  pub larger-alike : {m : List (List A)} {m' : List (List B)} (c i best : ℕ) → Like m m' → larger N m c i best ≡ larger M m' c i best
  unfolding larger
  larger-alike c i best p = rw (k.value ((p.each i).each c), k.value ((p.each best).each c))

  pub pivot_row-alike : {m : List (List A)} {m' : List (List B)} (n c : ℕ) → Like m m' → pivot_row N n c m ≡ pivot_row M n c m'
  unfolding pivot_row
  pivot_row-alike n c p = fold-ext (c + 1) n _ _ c (λ i h l best. larger-alike c i best p)

  pub swap_rows-alike : {m : List (List A)} {m' : List (List B)} (i j : ℕ) → Like m m' → Like (swap_rows N i j m) (swap_rows M i j m')
  unfolding swap_rows
  swap_rows-alike i j p = each_set j (each_set i p (p.each j)) (p.each i)

  pub less_row-alike : {x l : List A} {y l' : List B} (w c : ℕ) → LikeRow x y → LikeRow l l' → LikeRow (less_row N w c x l) (less_row M w c y l')
  unfolding less_by factor
  less_row-alike w c p q = each-span (c + 1) w _ _ q (λ j h l. k.minus (q.each j) (k.times (k.over (q.each c) (p.each c)) (p.each j)))

  pub cleared-alike : {m : List (List A)} {m' : List (List B)} (n w c : ℕ) → Like m m' → Like (cleared N n w c m) (cleared M n w c m')
  unfolding cleared
  cleared-alike n w c p = each-span (c + 1) n _ _ p (λ i h l. less_row-alike w c (p.each c) (p.each i))

  pub eliminate_column-alike : {m : List (List A)} {m' : List (List B)} (n w c : ℕ) → Like m m' → Like (eliminate_column N n w c m) (eliminate_column M n w c m')
  unfolding eliminate_column
  eliminate_column-alike {m} {m'} n w c p = rw (pivot_row-alike n c p) (cleared-alike n w c (swap_rows-alike c (pivot_row M n c m') p))

  pub eliminate_to-alike : {m : List (List A)} {m' : List (List B)} (d n w : ℕ) → Like m m' → Like (eliminate_to N d n w m) (eliminate_to M d n w m')
  unfolding eliminate_to
  eliminate_to-alike {m} {m'} d n w p = fold-both Like 0 d _ _ m m' p (λ c h l x y q. eliminate_column-alike n w c q)

  pub zero_pivot-alike : {m : List (List A)} {m' : List (List B)} (n c : ℕ) → Like m m' → zero_pivot N n c m ≡ zero_pivot M n c m'
  unfolding zero_pivot
  zero_pivot-alike {m} {m'} n c p = rw (pivot_row-alike n c p, k.value ((p.each (pivot_row M n c m')).each c))

  -- two runs that stop: at the same column, if at all
  pub record Stops (s : Stopping A) (t : Stopping B) : Type 0 where
    pub rows : Like s.rows t.rows
    pub refused : s.refused ≡ t.refused

  pub column_or_stop-alike : {s : Stopping A} {t : Stopping B} (n w c : ℕ) → Stops s t → Stops (column_or_stop N n w c s) (column_or_stop M n w c t)
  unfolding column_or_stop
  column_or_stop-alike {s} {t} n w c p =
      cond_both Stops s.refused t.refused _ _ _ _ p.refused p
      (cond_both Stops (zero_pivot N n c s.rows) (zero_pivot M n c t.rows) _ _ _ _ (zero_pivot-alike n c p.rows)
      (record { rows = p.rows; refused = refl })
      (record { rows = eliminate_column-alike n w c p.rows; refused = refl }))

  pub stopping-alike : {m : List (List A)} {m' : List (List B)} (d n w : ℕ) → Like m m' → Stops (stopping N d n w m) (stopping M d n w m')
  unfolding stopping
  stopping-alike d n w p = fold-both Stops 0 d _ _ _ _ (record { rows = p; refused = refl }) (λ c h l x y q. column_or_stop-alike n w c q)

  pub back_sum-alike : {m x : List (List A)} {m' x' : List (List B)} (n hi i j : ℕ) → Like m m' → Like x x'
      → R (back_sum N n hi m x i j) (back_sum M n hi m' x' i j)
  unfolding back_sum
  back_sum-alike n hi i j p q =
      fold-both R (i + 1) hi _ _ _ _ ((p.each i).each (n + j)) (λ h v u s t e. k.minus e (k.times ((p.each i).each h) ((q.each h).each j)))

  pub back_cell-alike : {m x : List (List A)} {m' x' : List (List B)} (n i j : ℕ) → Like m m' → Like x x' → R (back_cell N n m x i j) (back_cell M n m' x' i j)
  unfolding back_cell
  back_cell-alike n i j p q = k.over (back_sum-alike n n i j p q) ((p.each i).each i)

  pub back_to-alike : {m : List (List A)} {m' : List (List B)} (d K C n cols : ℕ) → Like m m' → Like (back_to N d K C n cols m) (back_to M d K C n cols m')
  unfolding back_to
  back_to-alike {m} {m'} d K C n cols p =
      fold-both Like 0 d _ _ _ _ (blank-both K C (zero_of N) (zero_of M) k.void (k.of plus_zero))
      (λ h v u x y q. each_set (n - 1 - h) q
      (row-both C cols (zero_of N) (zero_of M) (back_cell N n m x (n - 1 - h)) (back_cell M n m' y (n - 1 - h)) k.void (k.of plus_zero)
      (λ j l. back_cell-alike n (n - 1 - h) j p q)))

  pub joined-alike : {a b : List (List A)} {a' b' : List (List B)} (K W n cols : ℕ) → Like a a' → Like b b' → Like (joined N K W n cols a b) (joined M K W n cols a' b')
  unfolding joined
  joined-alike K W n cols p q =
      table-alike K W n (n + cols) _ _ (λ i j h l. cond_both R (ltb j n) (ltb j n) _ _ _ _ refl ((p.each i).each j) ((q.each i).each (j - n)))

  pub refused-alike : {a b : List (List A)} {a' b' : List (List B)} (K W n cols : ℕ) → Like a a' → Like b b' → refused N K W n cols a b ≡ refused M K W n cols a' b'
  unfolding refused
  refused-alike K W n cols p q = (stopping-alike n n (n + cols) (joined-alike K W n cols p q)).refused

  pub solution-alike : {a b : List (List A)} {a' b' : List (List B)} (K W C n cols : ℕ) → Like a a' → Like b b'
      → Like (solution N K W C n cols a b) (solution M K W C n cols a' b')
  unfolding solution
  solution-alike K W C n cols p q = back_to-alike n K C n cols (eliminate_to-alike n n (n + cols) (joined-alike K W n cols p q))

  -- ---- Jacobi
  pub ratio-alike : {a b c : A} {a' b' c' : B} → R a a' → R b b' → R c c' → R (ratio N a b c) (ratio M a' b' c')
  unfolding ratio
  ratio-alike p q s = k.over (k.minus q p) (k.times (k.of two) s)

  pub tangent-alike : {z : A} {z' : B} → R z z' → R (tangent N z) (tangent M z')
  unfolding tangent
  tangent-alike {z} {z'} p =
      let e : R (N.of (sign (N.value z))) (M.of (sign (M.value z'))) = rw (k.value p) (k.of (sign (M.value z'))) in
      k.over e (k.plus (k.unsigned p) (k.root (k.plus (k.times p p) (k.of one))))

  pub cosine-alike : {t : A} {t' : B} → R t t' → R (cosine N t) (cosine M t')
  unfolding cosine
  cosine-alike p = k.over (k.of one) (k.root (k.plus (k.times p p) (k.of one)))

  pub sine-alike : {t c : A} {t' c' : B} → R t t' → R c c' → R (sine N t c) (sine M t' c')
  unfolding sine
  sine-alike p q = k.times p q

  pub turn_row-alike : {x : List A} {y : List B} {c s : A} {c' s' : B} (p q : ℕ) → R c c' → R s s' → LikeRow x y
      → LikeRow (turn_row N p q c s x) (turn_row M p q c' s' y)
  unfolding turn_row turned_first turned_second
  turn_row-alike p q e f r =
      each_set q (each_set p r (k.minus (k.times e (r.each p)) (k.times f (r.each q)))) (k.plus (k.times f (r.each p)) (k.times e (r.each q)))

  pub turn_columns-alike : {m : List (List A)} {m' : List (List B)} {c s : A} {c' s' : B} (n p q : ℕ) → R c c' → R s s' → Like m m'
      → Like (turn_columns N n p q c s m) (turn_columns M n p q c' s' m')
  unfolding turn_columns
  turn_columns-alike {m} {m'} n p q e f r = fold-both Like 0 n _ _ m m' r (λ i h l x y g. each_set i g (turn_row-alike p q e f (r.each i)))

  pub rotated_cell-alike : {t : A} {t' : B} {m w : List (List A)} {m' w' : List (List B)} (p q i j : ℕ) → R t t' → Like m m' → Like w w'
      → R (rotated_cell N p q t m w i j) (rotated_cell M p q t' m' w' i j)
  unfolding rotated_cell
  rotated_cell-alike p q i j e f g =
      cond_both R (eqb i p) (eqb i p) _ _ _ _ refl
      (cond_both R (eqb j p) (eqb j p) _ _ _ _ refl (k.minus ((f.each p).each p) (k.times e ((f.each p).each q)))
      (cond_both R (eqb j q) (eqb j q) _ _ _ _ refl (k.of plus_zero) ((g.each j).each p)))
      (cond_both R (eqb i q) (eqb i q) _ _ _ _ refl
      (cond_both R (eqb j q) (eqb j q) _ _ _ _ refl (k.plus ((f.each q).each q) (k.times e ((f.each p).each q)))
      (cond_both R (eqb j p) (eqb j p) _ _ _ _ refl (k.of plus_zero) ((g.each j).each q)))
      ((g.each i).each j))

  pub rotated-alike : {t c s : A} {t' c' s' : B} {m : List (List A)} {m' : List (List B)} (K C n p q : ℕ) → R t t' → R c c' → R s s' → Like m m'
      → Like (rotated N K C n p q t c s m) (rotated M K C n p q t' c' s' m')
  unfolding rotated
  rotated-alike K C n p q e f g r = table-alike K C n n _ _ (λ i j h l. rotated_cell-alike p q i j e r (turn_columns-alike n p q f g r))

  pub squared-alike : {m : List (List A)} {m' : List (List B)} (p q : ℕ) → Like m m' → R (squared N p q m) (squared M p q m')
  unfolding squared
  squared-alike p q r = k.times ((r.each p).each q) ((r.each p).each q)

  pub bound-alike : {m : List (List A)} {m' : List (List B)} (x : Float) (p q : ℕ) → Like m m' → R (bound N x p q m) (bound M x p q m')
  unfolding bound
  bound-alike x p q r = k.times (k.of x) (k.times ((r.each p).each p) ((r.each q).each q))

  -- two states of Jacobi: the same rotations were made
  pub record States (s : State A) (t : State B) : Type 0 where
    pub a : Like s.a t.a
    pub v : Like s.v t.v
    pub count : s.count ≡ t.count
    pub seen : R s.seen t.seen

  pub rotate_tested-alike : {s : State A} {t : State B} (x : Float) (K C n p q : ℕ) → States s t → States (rotate_tested N x K C n p q s) (rotate_tested M x K C n p q t)
  unfolding rotate_tested
  rotate_tested-alike {s} {t} x K C n p q r =
      let e : R (squared N p q s.a) (squared M p q t.a) = squared-alike p q r.a in
      let f : R (bound N x p q s.a) (bound M x p q t.a) = bound-alike x p q r.a in
      let g = k.also r.seen (k.also e f) in
      let h = tangent-alike (ratio-alike ((r.a.each p).each p) ((r.a.each q).each q) ((r.a.each p).each q)) in
      let u = cosine-alike h in
      let v = sine-alike h u in
      let z : lt (N.value (bound N x p q s.a)) (N.value (squared N p q s.a)) ≡ lt (M.value (bound M x p q t.a)) (M.value (squared M p q t.a)) =
      rw (k.value f, k.value e) in
      cond_both States _ _ _ _ _ _ z
      (record { a = rotated-alike K C n p q h u v r.a; v = turn_columns-alike n p q u v r.v; count = ap (λ (i : ℕ). i + 1) r.count; seen = g })
      (record { a = r.a; v = r.v; count = r.count; seen = g })

  pub rotate-alike : {s : State A} {t : State B} (x : Float) (K C n p q : ℕ) → States s t → States (rotate N x K C n p q s) (rotate M x K C n p q t)
  unfolding rotate
  rotate-alike x K C n p q r = cond_both States _ _ _ _ _ _ (ap is_zero (k.value ((r.a.each p).each q))) r (rotate_tested-alike x K C n p q r)

  pub row_to-alike : {s : State A} {t : State B} (d : ℕ) (x : Float) (K C n p : ℕ) → States s t → States (row_to N d x K C n p s) (row_to M d x K C n p t)
  unfolding row_to
  row_to-alike d x K C n p r = fold-both States (p + 1) d _ _ _ _ r (λ q h l y z e. rotate-alike x K C n p q e)

  pub sweep_to-alike : {s : State A} {t : State B} (d : ℕ) (x : Float) (K C n : ℕ) → States s t → States (sweep_to N d x K C n s) (sweep_to M d x K C n t)
  unfolding sweep_to
  sweep_to-alike d x K C n r = fold-both States 0 d _ _ _ _ r (λ p h l y z e. row_to-alike n x K C n p e)

  pub sweeps_to-alike : {s : State A} {t : State B} (d : ℕ) (x : Float) (K C n : ℕ) → States s t → States (sweeps_to N d x K C n s) (sweeps_to M d x K C n t)
  unfolding sweeps_to
  sweeps_to-alike d x K C n r = fold-both States 0 d _ _ _ _ r (λ i h l y z e. sweep_to-alike n x K C n e)

  pub mirrored-alike : {m : List (List A)} {m' : List (List B)} (K C n : ℕ) → Like m m' → Like (mirrored N K C n m) (mirrored M K C n m')
  unfolding mirrored
  mirrored-alike K C n r = table-alike K C n n _ _ (λ i j h l. cond_both R (ltb j i) (ltb j i) _ _ _ _ refl ((r.each j).each i) ((r.each i).each j))

  pub jacobi-alike : {m : List (List A)} {m' : List (List B)} (x : Float) (K C n : ℕ) → Like m m' → States (jacobi N x K C n m) (jacobi M x K C n m')
  unfolding jacobi
  jacobi-alike x K C n r =
      sweeps_to-alike 30 x K C n (record { a = mirrored-alike K C n r; v = identity-alike K C n; count = refl; seen = k.of plus_zero })

  -- ---- small matrices
  pub sandwich-alike : {l m : List (List A)} {l' m' : List (List B)} (K C q p : ℕ) → Like l l' → Like m m' → Like (sandwich N K C q p l m) (sandwich M K C q p l' m')
  unfolding sandwich
  sandwich-alike K C q p e f = product-alike K C q p q (product-alike K C q p p e f) (transpose-alike K C q p e)

  -- the same plain numbers, given to both
  pub given_cells-alike : (K C r c : ℕ) (a : List (List Float)) → Like (given_cells N K C r c a) (given_cells M K C r c a)
  unfolding given_cells
  given_cells-alike K C r c a = table-alike K C r c _ _ (λ i j h l. k.of (at floats a i j))

  pub values-alike : {a : List (List A)} {a' : List (List B)} (K C r c : ℕ) → Like a a' → values N K C r c a ≡ values M K C r c a'
  unfolding values
  values-alike K C r c p = table-ext plus_zero K C r c _ _ (λ i j h l. k.value ((p.each i).each j))

  pub all_marks-alike : {a : List (List A)} {a' : List (List B)} {x : A} {y : B} (r c : ℕ) → Like a a' → R x y → R (all_marks N r c a x) (all_marks M r c a' y)
  unfolding all_marks
  all_marks-alike r c p e = fold-both R 0 r _ _ _ _ e (λ i h l x y q. fold-both R 0 c _ _ x y q (λ j v u s t f. k.also f ((p.each i).each j)))
