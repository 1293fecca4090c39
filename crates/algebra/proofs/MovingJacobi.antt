-- Jacobi's rotations of a matrix of marked numbers: where all that a run ends with bears a shift, a second run on the matrix scaled by 2 ^ w makes the same
-- rotations, its matrix is the first's scaled, and its vectors are the first's.
use Prim.Native.Nat.{ℕ, ◌+◌, ◌≤◌, ◌<◌}
use native.Mathlib.Omega.{arith}
use mathlib.Core.Path.{◌≡◌, refl, sym, ap, ◌∙◌}
use mathlib.Core.Bool.{Bool, true, false, cond}
use mathlib.Core.List.{List}
use lib.Dec.{T, eqb, ltb}
use lib.IntN.{ℤ, pos, nat_abs, ◌+ℤ◌}
use lib.Ieee.{Float, binary64, fits, lt}
use borrow.Author.Tests.{ltb-true, ltb-false, le-ltb}
use Rattle.arithmetic.specs.declared.Marked.{Marked}
use Rattle.arithmetic.specs.Numbers.{plus_zero, one, minus_one, is_zero, sign}
use Rattle.arithmetic.specs.Marks.{given, marked_add, marked_sub, marked_mul, marked_root, marked_magnitude, also}
use Rattle.arithmetic.proofs.ScaleLaws.{scale-zero}
use Rattle.arithmetic.proofs.PlainLaws.{sign-scale}
use Rattle.arithmetic.proofs.MarkLaws.{Bears, Moves, given-moves, add-bears, sub-bears, mul-bears, div-bears, magnitude-bears, also-bears, add-moves, sub-moves, mul-moves, root-moves, magnitude-moves, also-moves}
use Rattle.algebra.specs.Kind.{marks}
use Rattle.algebra.specs.Product.{at}
use Rattle.algebra.specs.Jacobi.{State, two, ratio, tangent, cosine, sine, turned_first, turned_second, turn_columns, rotated_cell, rotated, squared, bound, rotate_tested, rotate, row_to, sweep_to, sweeps_to, mirrored, jacobi}
use Rattle.algebra.proofs.FoldLaws.{fold-both, fold-keeps}
use Rattle.algebra.proofs.MovingCells.{Place, first, second, other, place, BearsCells, MovesCells, Sized, table-moves, nil-moves, constant-moves, still-times, alike-over, cond-moves, cond_both, cond-two, half-small, less-agrees, zero-agrees}
use Rattle.algebra.proofs.MovingProducts.{identity-moves}
use Rattle.algebra.proofs.MovingTurns.{value, turn-first, turn-second, turn-other, rotated-at, Fit, tangent_at, cosine_at, sine_at, turns, turned_state, kept_state, rotate-fit, mirror_cell, mirrored-at, start, start-fit}

abbrev Matrix : Type 0
Matrix = List (List Marked)

-- ---- the numbers of a rotation do not move
sign_fits : (x : Float) → T (fits binary64 (sign x))
unfolding sign fits
sign_fits x = cond_both (λ y. T (fits binary64 y)) (lt x plus_zero) minus_one one tt tt

module _ {t : ℕ} where
  pub ratio-moves : (w : ℤ) → nat_abs w ≤ t → (aa bb ab aa' bb' ab' : Marked) → Moves t w aa aa' → Moves t w bb bb' → Moves t w ab ab'
      → Moves t (pos 0) (ratio marks aa bb ab) (ratio marks aa' bb' ab')
  unfolding ratio fits
  ratio-moves w m aa bb ab aa' bb' ab' p q r =
      alike-over w (marked_sub bb aa) (marked_mul (given two) ab) (marked_sub bb' aa') (marked_mul (given two) ab')
      (sub-moves w m bb aa bb' aa' q p) (still-times w m (given two) ab (given two) ab' (constant-moves two tt) r)

  -- sqrt (x² + 1)
  root-one : (x x' : Marked) → Moves t (pos 0) x x'
      → Moves t (pos 0) (marked_root (marked_add (marked_mul x x) (given one))) (marked_root (marked_add (marked_mul x' x') (given one)))
  unfolding fits
  root-one x x' p =
      root-moves (pos 0) (marked_add (marked_mul x x) (given one)) (marked_add (marked_mul x' x') (given one))
      (add-moves (pos 0) (omega arith) (marked_mul x x) (given one) (marked_mul x' x') (given one)
      (still-times (pos 0) (omega arith) x x x' x' p p) (constant-moves one tt))

  pub tangent-bears : (z : Marked) → Bears t (tangent marks z) → Bears t z
  unfolding tangent
  tangent-bears z h =
      let r : Marked = marked_root (marked_add (marked_mul z z) (given one)) in
      magnitude-bears z (add-bears (marked_magnitude z) r (div-bears (given (sign z.value)) (marked_add (marked_magnitude z) r) h).1).0

  pub tangent-moves : (z z' : Marked) → Moves t (pos 0) z z' → Moves t (pos 0) (tangent marks z) (tangent marks z')
  unfolding tangent
  tangent-moves z z' p h =
      let r : Marked = marked_root (marked_add (marked_mul z z) (given one)) in
      let r' : Marked = marked_root (marked_add (marked_mul z' z') (given one)) in
      let s : Float = sign z.value in
      let s' : Float = sign z'.value in
      let e : s' ≡ s = ap sign (p (tangent-bears z h)).moved ∙ sign-scale (pos 0) z.value in
      alike-over (pos 0) (given s) (marked_add (marked_magnitude z) r) (given s') (marked_add (marked_magnitude z') r')
      (given-moves (pos 0) s s' (record { fine = sign_fits z.value; moved = e ∙ sym (scale-zero s) }))
      (add-moves (pos 0) (omega arith) (marked_magnitude z) r (marked_magnitude z') r' (magnitude-moves (pos 0) z z' p) (root-one z z' p)) h

  pub cosine-moves : (x x' : Marked) → Moves t (pos 0) x x' → Moves t (pos 0) (cosine marks x) (cosine marks x')
  unfolding cosine fits
  cosine-moves x x' p =
      alike-over (pos 0) (given one) (marked_root (marked_add (marked_mul x x) (given one))) (given one) (marked_root (marked_add (marked_mul x' x') (given one)))
      (constant-moves one tt) (root-one x x' p)

  pub sine-moves : (x c x' c' : Marked) → Moves t (pos 0) x x' → Moves t (pos 0) c c' → Moves t (pos 0) (sine marks x c) (sine marks x' c')
  unfolding sine
  sine-moves x c x' c' p q = still-times (pos 0) (omega arith) x c x' c' p q

  -- ---- the turned numbers move as the two that are turned
  module _ (c s x y : Marked) where
    pub turned_first-bears : Bears t (turned_first marks c s x y) → Bears t x × Bears t y
    unfolding turned_first
    turned_first-bears h = let b = sub-bears (marked_mul c x) (marked_mul s y) h in ((mul-bears c x b.0).1, (mul-bears s y b.1).1)

    module _ (u : ℤ) (m : nat_abs u ≤ t) (c' s' x' y' : Marked) (pc : Moves t (pos 0) c c') (ps : Moves t (pos 0) s s') (px : Moves t u x x') (py : Moves t u y y') where
      pub turned_first-moves : Moves t u (turned_first marks c s x y) (turned_first marks c' s' x' y')
      unfolding turned_first
      turned_first-moves =
          sub-moves u m (marked_mul c x) (marked_mul s y) (marked_mul c' x') (marked_mul s' y') (still-times u m c x c' x' pc px) (still-times u m s y s' y' ps py)

      pub turned_second-moves : Moves t u (turned_second marks c s x y) (turned_second marks c' s' x' y')
      unfolding turned_second
      turned_second-moves =
          add-moves u m (marked_mul s x) (marked_mul c y) (marked_mul s' x') (marked_mul c' y') (still-times u m s x s' x' ps px) (still-times u m c y c' y' pc py)

  -- ---- the matrices
  module _ (n p q : ℕ) (h : p < q) (l : q < n) where
    pub turn-bears : (c s : Marked) (m : Matrix) → Sized n n m → BearsCells t n n (turn_columns marks n p q c s m) → BearsCells t n n m
    turn-bears c s m z b = record { cell = λ i j k o. go i j k o (place p q j) }
      where
        both : (i : ℕ) → i < n → Bears t (at marks m i p) × Bears t (at marks m i q)
        both i k =
            turned_first-bears c s (at marks m i p) (at marks m i q) (rw (turn-first marks n p q c s m z h l i k) at (b.cell i p k (omega arith)))

        go : (i j : ℕ) → i < n → j < n → Place p q j → Bears t (at marks m i j)
        go i j k o (first e) = rw e (both i k).0
        go i j k o (second e) = rw e (both i k).1
        go i j k o (other d e) = rw (turn-other marks n p q c s m z h l i j k d e) at (b.cell i j k o)

    pub turn-moves : (u : ℤ) → nat_abs u ≤ t → (c s c' s' : Marked) → Moves t (pos 0) c c' → Moves t (pos 0) s s'
        → (m m' : Matrix) → Sized n n m → Sized n n m' → MovesCells t u n n m m'
        → MovesCells t u n n (turn_columns marks n p q c s m) (turn_columns marks n p q c' s' m')
    turn-moves u small c s c' s' pc ps m m' z z' f = record { cell = λ i j k o. go i j k o (place p q j) }
      where
        go : (i j : ℕ) → i < n → j < n → Place p q j → Moves t u (at marks (turn_columns marks n p q c s m) i j) (at marks (turn_columns marks n p q c' s' m') i j)
        go i j k o (first e) =
            rw (e, turn-first marks n p q c s m z h l i k, turn-first marks n p q c' s' m' z' h l i k)
            (turned_first-moves c s (at marks m i p) (at marks m i q) u small c' s' (at marks m' i p) (at marks m' i q) pc ps (f.cell i p k (omega arith)) (f.cell i q k l))
        go i j k o (second e) =
            rw (e, turn-second marks n p q c s m z h l i k, turn-second marks n p q c' s' m' z' h l i k)
            (turned_second-moves c s (at marks m i p) (at marks m i q) u small c' s' (at marks m' i p) (at marks m' i q) pc ps (f.cell i p k (omega arith)) (f.cell i q k l))
        go i j k o (other d e) =
            rw (turn-other marks n p q c s m z h l i j k d e, turn-other marks n p q c' s' m' z' h l i j k d e) (f.cell i j k o)

    module _ (R C : ℕ) (hr : n ≤ R) (hc : n ≤ C) where
      -- every cell of m is taken in, or mirrors one that is
      pub rotated-bears : (x c s : Marked) (m : Matrix) → Sized n n m → ((i j : ℕ) → i < n → j < n → at marks m i j ≡ at marks m j i)
          → BearsCells t n n (rotated marks R C n p q x c s m) → BearsCells t n n m
      unfolding value
      rotated-bears x c s m z f b = record { cell = λ i j k o. go i j k o (place p q i) (place p q j) }
        where
          cells : (i j : ℕ) → i < n → j < n → (a : Place p q i) (d : Place p q j) → Bears t (value marks p q x m (turn_columns marks n p q c s m) a d)
          cells i j k o a d = rw (rotated-at marks R C n hr hc p q h l x c s m i j k o a d) at (b.cell i j k o)

          -- row i, elsewhere than at p and q, in the columns p and q
          both : (i : ℕ) → i < n → (i ≡ p → ⊥) → (i ≡ q → ⊥) → Bears t (at marks m i p) × Bears t (at marks m i q)
          both i k d e =
              turned_first-bears c s (at marks m i p) (at marks m i q)
              (rw (turn-first marks n p q c s m z h l i k) at (cells i p k (omega arith) (other d e) (first refl)))

          pp : Bears t (at marks m p p) × Bears t (marked_mul x (at marks m p q))
          pp = sub-bears (at marks m p p) (marked_mul x (at marks m p q)) (cells p p (omega arith) (omega arith) (first refl) (first refl))

          pq : Bears t (at marks m p q)
          pq = (mul-bears x (at marks m p q) pp.1).1

          qq : Bears t (at marks m q q)
          qq = (add-bears (at marks m q q) (marked_mul x (at marks m p q)) (cells q q l l (second refl) (second refl))).0

          go : (i j : ℕ) → i < n → j < n → Place p q i → Place p q j → Bears t (at marks m i j)
          go i j k o (first a) (first b) = rw (a, b) pp.0
          go i j k o (first a) (second b) = rw (a, b) pq
          go i j k o (first a) (other d e) = rw (f i j k o, a) (both j o d e).0
          go i j k o (second a) (first b) = rw (f i j k o, a, b) pq
          go i j k o (second a) (second b) = rw (a, b) qq
          go i j k o (second a) (other d e) = rw (f i j k o, a) (both j o d e).1
          go i j k o (other d e) (first b) = rw b (both i k d e).0
          go i j k o (other d e) (second b) = rw b (both i k d e).1
          go i j k o (other a b) (other d e) = rw (turn-other marks n p q c s m z h l i j k d e) at (cells i j k o (other a b) (other d e))

      pub rotated-moves : (w : ℤ) → nat_abs w ≤ t → (x c s x' c' s' : Marked) → Moves t (pos 0) x x' → Moves t (pos 0) c c' → Moves t (pos 0) s s'
          → (m m' : Matrix) → Sized n n m → Sized n n m' → MovesCells t w n n m m'
          → MovesCells t w n n (rotated marks R C n p q x c s m) (rotated marks R C n p q x' c' s' m')
      unfolding rotated rotated_cell
      rotated-moves w small x c s x' c' s' px pc ps m m' z z' f =
          let y : Matrix = turn_columns marks n p q c s m in
          let y' : Matrix = turn_columns marks n p q c' s' m' in
          let g : MovesCells t w n n y y' = turn-moves w small c s c' s' pc ps m m' z z' f in
          let e : Marked = marked_mul x (at marks m p q) in
          let e' : Marked = marked_mul x' (at marks m' p q) in
          let d : Moves t w e e' = still-times w small x (at marks m p q) x' (at marks m' p q) px (f.cell p q (omega arith) l) in
          table-moves w R C n n (rotated_cell marks p q x m y) (rotated_cell marks p q x' m' y') hr hc
          (λ i j k o.
          cond-moves (eqb i p) _ _ _ _
          (cond-moves (eqb j p) _ _ _ _
          (sub-moves w small (at marks m p p) e (at marks m' p p) e' (f.cell p p (omega arith) (omega arith)) d)
          (cond-moves (eqb j q) _ _ _ _ (nil-moves w) (g.cell j p o (omega arith))))
          (cond-moves (eqb i q) _ _ _ _
          (cond-moves (eqb j q) _ _ _ _
          (add-moves w small (at marks m q q) e (at marks m' q q) e' (f.cell q q l l) d)
          (cond-moves (eqb j p) _ _ _ _ (nil-moves w) (g.cell j q o l)))
          (g.cell i j k o)))

-- ---- the states
-- every number of a state bears t
pub record StateBears (t n : ℕ) (x : State Marked) : Type 0 where
  pub matrix : BearsCells t n n x.a
  pub vectors : BearsCells t n n x.v
  pub seen : Bears t x.seen

-- the second run's state: the matrix moved by w, the vectors where they were, and as many rotations
pub record StateMoves (t : ℕ) (w : ℤ) (n : ℕ) (x x' : State Marked) : Type 0 where
  pub matrix : MovesCells t w n n x.a x'.a
  pub vectors : MovesCells t (pos 0) n n x.v x'.v
  pub count : x'.count ≡ x.count
  pub seen : Moves t w x.seen x'.seen

-- what the two runs keep: where the first's state bears t, the second's is moved
pub record Together (t : ℕ) (w : ℤ) (n : ℕ) (x x' : State Marked) : Type 0 where
  pub fit : Fit marks n x
  pub fit' : Fit marks n x'
  pub moves : StateBears t n x → StateMoves t w n x x'

-- a state reached from x: it fits, and takes in x
record From (t n : ℕ) (x y : State Marked) : Type 0 where
  pub fit : Fit marks n y
  pub bears : StateBears t n y → StateBears t n x

module _ {t : ℕ} (limit : Float) (R C n : ℕ) (hr : n ≤ R) (hc : n ≤ C) where
  module _ (p q : ℕ) (h : p < q) (l : q < n) where
    -- ---- backward: a state takes in all of the state before it, and the two sides of the test
    tested-bears : (x : State Marked) → Fit marks n x → StateBears t n (rotate_tested marks limit R C n p q x) → StateBears t n x
    unfolding rotate_tested
    tested-bears x f =
        let m : Matrix = x.a in
        let z : Marked = tangent_at marks p q m in
        let c : Marked = cosine_at marks p q m in
        let s : Marked = sine_at marks p q m in
        let sides : Marked = also (squared marks p q m) (bound marks limit p q m) in
        cond_both (λ y. StateBears t n y → StateBears t n x) (turns marks limit p q m) (turned_state marks limit R C n p q x) (kept_state marks limit p q x)
        (λ b. record {
          matrix = rotated-bears n p q h l R C hr hc z c s m f.matrix f.mirror b.matrix;
          vectors = turn-bears n p q h l c s x.v f.vectors b.vectors;
          seen = (also-bears x.seen sides b.seen).0;
        })
        (λ b. record { matrix = b.matrix; vectors = b.vectors; seen = (also-bears x.seen sides b.seen).0 })

    pub rotate-bears : (x : State Marked) → Fit marks n x → StateBears t n (rotate marks limit R C n p q x) → StateBears t n x
    unfolding rotate
    rotate-bears x f =
        cond_both (λ y. StateBears t n y → StateBears t n x) (is_zero (at marks x.a p q).value) x (rotate_tested marks limit R C n p q x) (λ b. b)
        (tested-bears x f)

    sides-bear : (x : State Marked) → StateBears t n (rotate_tested marks limit R C n p q x)
        → Bears t (squared marks p q x.a) × Bears t (bound marks limit p q x.a)
    unfolding rotate_tested
    sides-bear x =
        let m : Matrix = x.a in
        let a : Marked = squared marks p q m in
        let b : Marked = bound marks limit p q m in
        cond_both (λ y. StateBears t n y → Bears t a × Bears t b) (turns marks limit p q m) (turned_state marks limit R C n p q x) (kept_state marks limit p q x)
        (λ y. also-bears a b (also-bears x.seen (also a b) y.seen).1) (λ y. also-bears a b (also-bears x.seen (also a b) y.seen).1)

    -- ---- forward
    module _ (fine : T (fits binary64 limit)) (w : ℤ) (small : nat_abs (w +ℤ w) ≤ t) where
      squared-moves : (m m' : Matrix) → MovesCells t w n n m m' → Moves t (w +ℤ w) (squared marks p q m) (squared marks p q m')
      unfolding squared
      squared-moves m m' f =
          let g = f.cell p q (omega arith) l in
          mul-moves w w small (at marks m p q) (at marks m p q) (at marks m' p q) (at marks m' p q) g g

      bound-moves : (m m' : Matrix) → MovesCells t w n n m m' → Moves t (w +ℤ w) (bound marks limit p q m) (bound marks limit p q m')
      unfolding bound
      bound-moves m m' f =
          still-times (w +ℤ w) small (given limit) (marked_mul (at marks m p p) (at marks m q q)) (given limit) (marked_mul (at marks m' p p) (at marks m' q q))
          (constant-moves limit fine)
          (mul-moves w w small (at marks m p p) (at marks m q q) (at marks m' p p) (at marks m' q q) (f.cell p p (omega arith) (omega arith)) (f.cell q q l l))

      -- the test says the same
      turns-agree : (x x' : State Marked) → MovesCells t w n n x.a x'.a → StateBears t n (rotate_tested marks limit R C n p q x)
          → turns marks limit p q x'.a ≡ turns marks limit p q x.a
      turns-agree x x' f b =
          let e = sides-bear x b in
          less-agrees (w +ℤ w) (bound marks limit p q x.a).value (squared marks p q x.a).value (bound marks limit p q x'.a).value (squared marks p q x'.a).value
          (bound-moves x.a x'.a f e.1) (squared-moves x.a x'.a f e.0)

      turned-moves : (x x' : State Marked) → Fit marks n x → Fit marks n x' → StateMoves t w n x x'
          → StateMoves t w n (turned_state marks limit R C n p q x) (turned_state marks limit R C n p q x')
      turned-moves x x' f f' r =
          let k : nat_abs w ≤ t = half-small w small in
          let m : Matrix = x.a in
          let m' : Matrix = x'.a in
          let z : Marked = tangent_at marks p q m in
          let z' : Marked = tangent_at marks p q m' in
          let c : Marked = cosine_at marks p q m in
          let c' : Marked = cosine_at marks p q m' in
          let s : Marked = sine_at marks p q m in
          let s' : Marked = sine_at marks p q m' in
          let pz : Moves t (pos 0) z z' =
          tangent-moves (ratio marks (at marks m p p) (at marks m q q) (at marks m p q)) (ratio marks (at marks m' p p) (at marks m' q q) (at marks m' p q))
          (ratio-moves w k (at marks m p p) (at marks m q q) (at marks m p q) (at marks m' p p) (at marks m' q q) (at marks m' p q)
          (r.matrix.cell p p (omega arith) (omega arith)) (r.matrix.cell q q l l) (r.matrix.cell p q (omega arith) l)) in
          let pc : Moves t (pos 0) c c' = cosine-moves z z' pz in
          let ps : Moves t (pos 0) s s' = sine-moves z c z' c' pz pc in
          record {
            matrix = rotated-moves n p q h l R C hr hc w k z c s z' c' s' pz pc ps m m' f.matrix f'.matrix r.matrix;
            vectors = turn-moves n p q h l (pos 0) (omega arith) c s c' s' pc ps x.v x'.v f.vectors f'.vectors r.vectors;
            count = ap (λ (i : ℕ). i + 1) r.count;
            seen =
                also-moves w x.seen (also (squared marks p q m) (bound marks limit p q m)) x'.seen (also (squared marks p q m') (bound marks limit p q m')) r.seen;
          }

      tested-moves : (x x' : State Marked) → Fit marks n x → Fit marks n x' → StateMoves t w n x x' → StateBears t n (rotate_tested marks limit R C n p q x)
          → StateMoves t w n (rotate_tested marks limit R C n p q x) (rotate_tested marks limit R C n p q x')
      unfolding rotate_tested
      tested-moves x x' f f' r b =
          rw (turns-agree x x' r.matrix b)
          (cond-two (StateMoves t w n) (turns marks limit p q x.a) (turned_state marks limit R C n p q x) (kept_state marks limit p q x)
          (turned_state marks limit R C n p q x') (kept_state marks limit p q x') (turned-moves x x' f f' r)
          (record {
            matrix = r.matrix;
            vectors = r.vectors;
            count = r.count;
            seen =
                also-moves w x.seen (also (squared marks p q x.a) (bound marks limit p q x.a)) x'.seen
                (also (squared marks p q x'.a) (bound marks limit p q x'.a)) r.seen;
          }))

      pub rotate-moves : (x x' : State Marked) → Together t w n x x' → Together t w n (rotate marks limit R C n p q x) (rotate marks limit R C n p q x')
      unfolding rotate
      rotate-moves x x' g = record {
        fit = rotate-fit marks limit R C n hr hc p q h l x g.fit;
        fit' = rotate-fit marks limit R C n hr hc p q h l x' g.fit';
        moves = λ b.
            let a : StateBears t n x = rotate-bears x g.fit b in
            let r : StateMoves t w n x x' = g.moves a in
            let e : is_zero (at marks x'.a p q).value ≡ is_zero (at marks x.a p q).value =
            zero-agrees w (at marks x.a p q).value (at marks x'.a p q).value (r.matrix.cell p q (omega arith) l (a.matrix.cell p q (omega arith) l)) in
            rw e (cond-two (λ y y'. StateBears t n y → StateMoves t w n y y') (is_zero (at marks x.a p q).value) x (rotate_tested marks limit R C n p q x) x'
            (rotate_tested marks limit R C n p q x') (λ d. r) (tested-moves x x' g.fit g.fit' r) b);
      }

  -- ---- the loops: rows, sweeps
  row_from : (k p : ℕ) → k ≤ n → (x y : State Marked) → From t n x y → From t n x (row_to marks k limit R C n p y)
  unfolding row_to
  row_from k p o x y f =
      fold-keeps (From t n x) (p + 1) k (λ q y. rotate marks limit R C n p q y) y f
      (λ q i j b g. record {
        fit = rotate-fit marks limit R C n hr hc p q (omega arith) (omega arith) b g.fit;
        bears = λ d. g.bears (rotate-bears p q (omega arith) (omega arith) b g.fit d);
      })

  sweep-from : (k : ℕ) → k ≤ n → (x y : State Marked) → From t n x y → From t n x (sweep_to marks k limit R C n y)
  unfolding sweep_to
  sweep-from k o x y f = fold-keeps (From t n x) 0 k (λ p y. row_to marks n limit R C n p y) y f (λ p i j b g. row_from n p (omega arith) x b g)

  sweeps-from : (k : ℕ) (x y : State Marked) → From t n x y → From t n x (sweeps_to marks k limit R C n y)
  unfolding sweeps_to
  sweeps-from k x y f = fold-keeps (From t n x) 0 k (λ i y. sweep_to marks n limit R C n y) y f (λ p i j b g. sweep-from n (omega arith) x b g)

  -- backward: the state before bears what the state after does
  module _ (x : State Marked) (f : Fit marks n x) where
    pub sweeps_to-bears : (k : ℕ) → StateBears t n (sweeps_to marks k limit R C n x) → StateBears t n x
    sweeps_to-bears k = (sweeps-from k x x (record { fit = f; bears = λ b. b })).bears

  -- forward: the two runs stay together
  module _ (fine : T (fits binary64 limit)) (w : ℤ) (small : nat_abs (w +ℤ w) ≤ t) where
    pub row_to-moves : (k p : ℕ) → k ≤ n → (x x' : State Marked) → Together t w n x x'
        → Together t w n (row_to marks k limit R C n p x) (row_to marks k limit R C n p x')
    unfolding row_to
    row_to-moves k p o x x' g =
        fold-both (Together t w n) (p + 1) k (λ q y. rotate marks limit R C n p q y) (λ q y. rotate marks limit R C n p q y) x x' g
        (λ q i j y y' f. rotate-moves p q (omega arith) (omega arith) fine w small y y' f)

    pub sweep_to-moves : (k : ℕ) → k ≤ n → (x x' : State Marked) → Together t w n x x'
        → Together t w n (sweep_to marks k limit R C n x) (sweep_to marks k limit R C n x')
    unfolding sweep_to
    sweep_to-moves k o x x' g =
        fold-both (Together t w n) 0 k (λ p y. row_to marks n limit R C n p y) (λ p y. row_to marks n limit R C n p y) x x' g
        (λ p i j y y' f. row_to-moves n p (omega arith) y y' f)

    pub sweeps_to-moves : (k : ℕ) (x x' : State Marked) → Together t w n x x'
        → Together t w n (sweeps_to marks k limit R C n x) (sweeps_to marks k limit R C n x')
    unfolding sweeps_to
    sweeps_to-moves k x x' g =
        fold-both (Together t w n) 0 k (λ i y. sweep_to marks n limit R C n y) (λ i y. sweep_to marks n limit R C n y) x x' g
        (λ p i j y y' f. sweep_to-moves n (omega arith) y y' f)

  -- ---- the whole run
  -- the upper half that a run reads bears what its result does
  pub jacobi-bears : (m : Matrix) → StateBears t n (jacobi marks limit R C n m) → (i j : ℕ) → i ≤ j → j < n → Bears t (at marks m i j)
  unfolding jacobi mirror_cell
  jacobi-bears m b i j k o =
      let d : Bears t (mirror_cell marks m i j) = rw (mirrored-at marks R C n hr hc m i j (omega arith) o) at ((sweeps_to-bears (start marks R C n m) (start-fit marks R C n hr hc m) 30 b).matrix.cell i j (omega arith) o) in
      rw (le-ltb j i k) at d

  -- the upper half moved by w: the same number of rotations, the matrix moved by w, the vectors where they were
  pub jacobi-moves : T (fits binary64 limit) → (w : ℤ) → nat_abs (w +ℤ w) ≤ t → (m m' : Matrix)
      → ((i j : ℕ) → i ≤ j → j < n → Moves t w (at marks m i j) (at marks m' i j))
      → StateBears t n (jacobi marks limit R C n m) → StateMoves t w n (jacobi marks limit R C n m) (jacobi marks limit R C n m')
  unfolding jacobi mirrored mirror_cell
  jacobi-moves fine w small m m' f b =
      (sweeps_to-moves fine w small 30 (start marks R C n m) (start marks R C n m')
      (record {
        fit = start-fit marks R C n hr hc m;
        fit' = start-fit marks R C n hr hc m';
        moves = λ d. record {
          matrix = table-moves w R C n n (mirror_cell marks m) (mirror_cell marks m') hr hc (λ i j k o. go i j k o (ltb j i) refl);
          vectors = identity-moves R C n hr hc;
          count = refl;
          seen = nil-moves w;
        };
      })).moves b
    where
      go : (i j : ℕ) → i < n → j < n → (b : Bool) → ltb j i ≡ b → Moves t w (cond b (at marks m j i) (at marks m i j)) (cond b (at marks m' j i) (at marks m' i j))
      go i j k o true e = f j i (omega (arith, ltb-true j i e)) k
      go i j k o false e = f i j (ltb-false j i e) o
