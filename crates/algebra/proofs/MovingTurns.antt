-- Jacobi's rotations, for every kind of number: what stands in the cells of a turned and of a rotated matrix, and the sizes and the symmetry that a run keeps.
use Prim.Native.Nat.{ℕ, ◌+◌, ◌≤◌, ◌<◌}
use native.Mathlib.Omega.{arith}
use mathlib.Core.Path.{◌≡◌, refl, sym, ap, ◌∙◌}
use mathlib.Core.Bool.{Bool, true, false, cond}
use mathlib.Core.List.{List, []}
use lib.Dec.{eqb, ltb}
use lib.ListN.{get_or, set, length, length-set}
use lib.Seq.{get_or-set_same, get_or-set_other}
use lib.Ieee.{Float, lt}
use borrow.Author.Tests.{eq-eqb, ne_eqb, ltb-true, ltb-false}
use Rattle.arithmetic.specs.Numbers.{one, is_zero}
use Rattle.algebra.specs.Kind.{Arith, zero_of}
use Rattle.algebra.specs.Product.{at, identity}
use Rattle.algebra.specs.Jacobi.{State, ratio, tangent, cosine, sine, turned_first, turned_second, turn_row, turn_columns, rotated_cell, rotated, squared, bound, rotate_tested, rotate, mirrored}
use Rattle.algebra.proofs.FoldLaws.{span-at, length-span}
use Rattle.algebra.proofs.TableLaws.{table_at}
use Rattle.algebra.proofs.MovingCells.{Place, first, second, other, place, Sized, table-sized, cond_both}

-- ---- the cells of a turned matrix, for every kind of number
module _ {A : Type 0} (N : Arith A) where
  turn_row-length : (p q : ℕ) (c s : A) (r : List A) → length (turn_row N p q c s r) ≡ length r
  unfolding turn_row
  turn_row-length p q c s r = simp length-set

  module _ (n p q : ℕ) (c s : A) (m : List (List A)) (z : Sized n n m) (h : p < q) (l : q < n) where
    turn-row : (i : ℕ) → i < n → get_or (turn_columns N n p q c s m) i [] ≡ turn_row N p q c s (get_or m i [])
    unfolding turn_columns
    turn-row i k = span-at 0 n (λ i. turn_row N p q c s (get_or m i [])) m i [] (omega arith) k z.rows

    pub turn-sized : Sized n n (turn_columns N n p q c s m)
    unfolding turn_columns
    turn-sized = record {
      rows = omega (arith, length-span 0 n (λ i. turn_row N p q c s (get_or m i [])) m, z.rows);
      cells = λ i k. rw (turn-row i k) (omega (arith, turn_row-length p q c s (get_or m i []), z.cells i k));
    }

    pub turn-first : (i : ℕ) → i < n → at N (turn_columns N n p q c s m) i p ≡ turned_first N c s (at N m i p) (at N m i q)
    unfolding turn_row
    turn-first i k =
        let r : List A = get_or m i [] in
        ap (λ (x : List A). get_or x p N.void) (turn-row i k)
        ∙ get_or-set_other (set r p (turned_first N c s (at N m i p) (at N m i q))) q p _ N.void (λ e. omega arith)
        ∙ get_or-set_same r p _ N.void (omega (arith, z.cells i k))

    pub turn-second : (i : ℕ) → i < n → at N (turn_columns N n p q c s m) i q ≡ turned_second N c s (at N m i p) (at N m i q)
    unfolding turn_row
    turn-second i k =
        let r : List A = get_or m i [] in
        let x : A = turned_first N c s (at N m i p) (at N m i q) in
        ap (λ (x : List A). get_or x q N.void) (turn-row i k)
        ∙ get_or-set_same (set r p x) q _ N.void (omega (arith, z.cells i k, length-set r p x))

    pub turn-other : (i j : ℕ) → i < n → (j ≡ p → ⊥) → (j ≡ q → ⊥) → at N (turn_columns N n p q c s m) i j ≡ at N m i j
    unfolding turn_row
    turn-other i j k a b =
        let r : List A = get_or m i [] in
        ap (λ (x : List A). get_or x j N.void) (turn-row i k)
        ∙ get_or-set_other (set r p (turned_first N c s (at N m i p) (at N m i q))) q j _ N.void b
        ∙ get_or-set_other r p j _ N.void a

  -- ---- the rotated matrix
  -- what stands in the cell (i, j) of the rotated matrix, by the places of i and j; w is m with its columns turned
  module _ (p q : ℕ) (t : A) (m w : List (List A)) where
    unfoldable pub value : {i j : ℕ} → Place p q i → Place p q j → A
    value {i} {j} (first _) (first _) = N.minus (at N m p p) (N.times t (at N m p q))
    value {i} {j} (first _) (second _) = zero_of N
    value {i} {j} (first _) (other _ _) = at N w j p
    value {i} {j} (second _) (first _) = zero_of N
    value {i} {j} (second _) (second _) = N.plus (at N m q q) (N.times t (at N m p q))
    value {i} {j} (second _) (other _ _) = at N w j q
    value {i} {j} (other _ _) (first _) = at N w i p
    value {i} {j} (other _ _) (second _) = at N w i q
    value {i} {j} (other _ _) (other _ _) = at N w i j

    rotated-value : p < q → {i j : ℕ} (x : Place p q i) (y : Place p q j) → rotated_cell N p q t m w i j ≡ value x y
    unfolding rotated_cell value
    rotated-value h {i} {j} (first a) (first b) = rw (eq-eqb i p a, eq-eqb j p b)
    rotated-value h {i} {j} (first a) (second b) = rw (eq-eqb i p a, ne_eqb j p (λ e. omega arith), eq-eqb j q b)
    rotated-value h {i} {j} (first a) (other b c) = rw (eq-eqb i p a, ne_eqb j p b, ne_eqb j q c)
    rotated-value h {i} {j} (second a) (first b) = rw (ne_eqb i p (λ e. omega arith), eq-eqb i q a, ne_eqb j q (λ e. omega arith), eq-eqb j p b)
    rotated-value h {i} {j} (second a) (second b) = rw (ne_eqb i p (λ e. omega arith), eq-eqb i q a, eq-eqb j q b)
    rotated-value h {i} {j} (second a) (other b c) = rw (ne_eqb i p (λ e. omega arith), eq-eqb i q a, ne_eqb j q c, ne_eqb j p b)
    rotated-value h {i} {j} (other a d) (first b) = rw (ne_eqb i p a, ne_eqb i q d, b)
    rotated-value h {i} {j} (other a d) (second b) = rw (ne_eqb i p a, ne_eqb i q d, b)
    rotated-value h {i} {j} (other a d) (other b c) = rw (ne_eqb i p a, ne_eqb i q d)

  module _ (R C n : ℕ) (hr : n ≤ R) (hc : n ≤ C) (p q : ℕ) (h : p < q) (l : q < n) where
    pub rotated-at : (t c s : A) (m : List (List A)) (i j : ℕ) → i < n → j < n → (x : Place p q i) (y : Place p q j)
        → at N (rotated N R C n p q t c s m) i j ≡ value p q t m (turn_columns N n p q c s m) x y
    unfolding rotated
    rotated-at t c s m i j k o x y =
        let w : List (List A) = turn_columns N n p q c s m in
        table_at (zero_of N) R C n n (rotated_cell N p q t m w) i j N.void k o hr hc ∙ rotated-value p q t m w h x y

  -- ---- the states of a run
  -- sizes, and the symmetry of the matrix
  pub record Fit (n : ℕ) (x : State A) : Type 0 where
    pub matrix : Sized n n x.a
    pub vectors : Sized n n x.v
    pub mirror : (i j : ℕ) → i < n → j < n → at N x.a i j ≡ at N x.a j i

  abbrev pub tangent_at : ℕ → ℕ → List (List A) → A
  tangent_at p q m = tangent N (ratio N (at N m p p) (at N m q q) (at N m p q))

  abbrev pub cosine_at : ℕ → ℕ → List (List A) → A
  cosine_at p q m = cosine N (tangent_at p q m)

  abbrev pub sine_at : ℕ → ℕ → List (List A) → A
  sine_at p q m = sine N (tangent_at p q m) (cosine_at p q m)

  -- what the test says, and the two results of a tested pair
  abbrev pub turns : Float → ℕ → ℕ → List (List A) → Bool
  turns limit p q m = lt (N.value (bound N limit p q m)) (N.value (squared N p q m))

  abbrev pub seen_at : Float → ℕ → ℕ → State A → A
  seen_at limit p q x = N.also x.seen (N.also (squared N p q x.a) (bound N limit p q x.a))

  abbrev pub turned_state : Float → ℕ → ℕ → ℕ → ℕ → ℕ → State A → State A
  turned_state limit R C n p q x = record {
    a = rotated N R C n p q (tangent_at p q x.a) (cosine_at p q x.a) (sine_at p q x.a) x.a;
    v = turn_columns N n p q (cosine_at p q x.a) (sine_at p q x.a) x.v;
    count = x.count + 1;
    seen = seen_at limit p q x;
  }

  abbrev pub kept_state : Float → ℕ → ℕ → State A → State A
  kept_state limit p q x = record { a = x.a; v = x.v; count = x.count; seen = seen_at limit p q x }

  module _ (limit : Float) (R C n : ℕ) (hr : n ≤ R) (hc : n ≤ C) (p q : ℕ) (h : p < q) (l : q < n) where
    turned-fit : (x : State A) → Fit n x → Fit n (turned_state limit R C n p q x)
    unfolding rotated value
    turned-fit x f =
        let m : List (List A) = x.a in
        let t : A = tangent_at p q m in
        let c : A = cosine_at p q m in
        let s : A = sine_at p q m in
        let w : List (List A) = turn_columns N n p q c s m in
        record {
          matrix = table-sized (zero_of N) R C n n (rotated_cell N p q t m w) hr hc;
          vectors = turn-sized n p q c s x.v f.vectors h l;
          mirror = λ i j k o.
              rotated-at R C n hr hc p q h l t c s m i j k o (place p q i) (place p q j)
              ∙ swapped t c s m f.matrix f.mirror k o (place p q i) (place p q j)
              ∙ sym (rotated-at R C n hr hc p q h l t c s m j i o k (place p q j) (place p q i));
        }
      where
        swapped : (t c s : A) (m : List (List A)) → Sized n n m → ((i j : ℕ) → i < n → j < n → at N m i j ≡ at N m j i) → {i j : ℕ} → i < n → j < n
            → (x : Place p q i) (y : Place p q j)
            → value p q t m (turn_columns N n p q c s m) x y ≡ value p q t m (turn_columns N n p q c s m) y x
        swapped t c s m z e k o (first _) (first _) = refl
        swapped t c s m z e k o (first _) (second _) = refl
        swapped t c s m z e k o (first _) (other _ _) = refl
        swapped t c s m z e k o (second _) (first _) = refl
        swapped t c s m z e k o (second _) (second _) = refl
        swapped t c s m z e k o (second _) (other _ _) = refl
        swapped t c s m z e k o (other _ _) (first _) = refl
        swapped t c s m z e k o (other _ _) (second _) = refl
        swapped t c s m z e {i} {j} k o (other a b) (other a' b') =
            turn-other n p q c s m z h l i j k a' b' ∙ e i j k o ∙ sym (turn-other n p q c s m z h l j i o a b)

    pub rotate-fit : (x : State A) → Fit n x → Fit n (rotate N limit R C n p q x)
    unfolding rotate rotate_tested
    rotate-fit x f =
        cond_both (Fit n) (is_zero (N.value (at N x.a p q))) x (rotate_tested N limit R C n p q x) f
        (cond_both (Fit n) (turns limit p q x.a) (turned_state limit R C n p q x) (kept_state limit p q x) (turned-fit x f)
        (record { matrix = f.matrix; vectors = f.vectors; mirror = f.mirror }))

  -- ---- the first state
  abbrev pub start : ℕ → ℕ → ℕ → List (List A) → State A
  start R C n m = record { a = mirrored N R C n m; v = identity N R C n; count = 0; seen = zero_of N }

  unfoldable pub mirror_cell : List (List A) → ℕ → ℕ → A
  mirror_cell m i j = cond (ltb j i) (at N m j i) (at N m i j)

  mirror-swap : (m : List (List A)) (i j : ℕ) → mirror_cell m i j ≡ mirror_cell m j i
  unfolding mirror_cell
  mirror-swap m i j = go (ltb j i) (ltb i j) refl refl
    where
      go : (b d : Bool) → ltb j i ≡ b → ltb i j ≡ d → cond b (at N m j i) (at N m i j) ≡ cond d (at N m i j) (at N m j i)
      go true true e f = absurd (omega (arith, ltb-true j i e, ltb-true i j f))
      go true false e f = refl
      go false true e f = refl
      go false false e f =
          let g : i ≡ j = omega (arith, ltb-false j i e, ltb-false i j f) in
          rw g

  module _ (R C n : ℕ) (hr : n ≤ R) (hc : n ≤ C) (m : List (List A)) where
    pub mirrored-at : (i j : ℕ) → i < n → j < n → at N (mirrored N R C n m) i j ≡ mirror_cell m i j
    unfolding mirrored mirror_cell
    mirrored-at i j k o = table_at (zero_of N) R C n n (mirror_cell m) i j N.void k o hr hc

    pub start-fit : Fit n (start R C n m)
    unfolding mirrored identity mirror_cell
    start-fit = record {
      matrix = table-sized (zero_of N) R C n n (mirror_cell m) hr hc;
      vectors = table-sized (zero_of N) R C n n (λ i j. cond (eqb i j) (N.of one) (zero_of N)) hr hc;
      mirror = λ i j k o. mirrored-at i j k o ∙ mirror-swap m i j ∙ sym (mirrored-at j i o k);
    }
