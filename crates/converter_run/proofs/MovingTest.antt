-- One test: with Φ and Φ_A times 4 ^ k, each P over 4 ^ k, and β and β_H times 2 ^ k, a test that is marked inside is refused where it was, and its verdict is what it was.
-- In multiples of k: A moves by 2, A⁻¹L by -2, Θ by -2, ΘΦ and each u_i by 0, D and LD by 1, v by 2, Y by -1, Wald by 0.
use Prim.Native.Nat.{ℕ, ◌≤◌, ◌<◌}
use native.Mathlib.Omega.{arith}
use mathlib.Core.Path.{◌≡◌, refl, sym, ap, ◌∙◌, subst}
use mathlib.Core.Bool.{Bool, true, false, not, cond, ◌&&◌, ◌||◌, true≢false}
use mathlib.Core.List.{List, []}
use lib.Dec.{eqb}
use lib.IntN.{ℤ, pos, neg_ℤ, nat_abs, ◌+ℤ◌, ◌-ℤ◌, +ℤ_idl, +ℤ_assoc, +ℤ_invr, +ℤ_invl, neg_ℤ-+ℤ}
use lib.ListN.{get_or, set, replicate, length-replicate}
use lib.Ieee.{Float, nan}
use borrow.Author.Tests.{eqb-true}
use Rattle.arithmetic.specs.declared.Marked.{Marked}
use Rattle.arithmetic.specs.Numbers.{plus_zero}
use Rattle.arithmetic.specs.Marks.{given, marked_sub, marked_mul}
use Rattle.arithmetic.proofs.Tied.{Tied}
use Rattle.arithmetic.proofs.MarkLaws.{Bears, Moves, given-moves, also-bears, sub-moves, mul-moves}
use Rattle.algebra.specs.Fold.{fold}
use Rattle.algebra.specs.Table.{blank}
use Rattle.algebra.specs.Kind.{marks}
use Rattle.algebra.specs.Product.{at, product, transpose}
use Rattle.algebra.specs.Elimination as elimination
use Rattle.algebra.proofs.FoldLaws.{fold-ext, span-at}
use Rattle.algebra.proofs.MovingCells.{BearsCells, MovesCells, table-moves, moves-by, nil-moves, cond-moves, still-value, half-small}
use Rattle.algebra.proofs.MovingProducts.{sum-moves, product-moves, transpose-moves}
use Rattle.algebra.proofs.MovingElimination.{SolvedAlike, solution-moves}
use Rattle.algebra.specs.Small.{MarkedRows, Rows, given_cells, values, all_marks}
use Rattle.arithmetic_cutoffs.specs.declared.Cutoffs.{Cutoffs}
use Rattle.std.specs.Prelude.{Option, None}
use Rattle.tests.specs.Answer.{number_of}
use Rattle.tests.specs.declared.Basis.{Basis}
use Rattle.tests.specs.declared.Tested.{Tested}
use Rattle.tests.specs.KenwardRoger.{Scaled, scaling_seen, difference, theta_of, u_of, u_stack, u_values, wald_many, a_rows, x_rows, theta_phi, us, ld_rows, v_rows, y_rows, wald_marked, wald_number, test_seen, a1, a2, tested}
use Rattle.tests.specs.Both.{is_positive, square_one, stack_seen}
use Rattle.tests.specs.Verdict.{verdict}
use Rattle.converter_run.specs.joints.ConvertedInput.{WrittenCells}
use Rattle.algebra_products.proofs.MovingSmall.{tied-still, cells-by, all_marks-first, all_marks-cells, stack-first, stack-cells, given-cells, sandwich-moves, values_agree}
use Rattle.tests.proofs.MovingVariance.{positive-agrees}
use Rattle.tests.proofs.MovingComponents.{square_one-moves}
use Rattle.converter_run.proofs.MovingScaling.{abs_neg}

-- ---- shifts
back-by-one : (k : ℤ) → k -ℤ (k +ℤ k) ≡ neg_ℤ k
back-by-one k = ap (λ (z : ℤ). k +ℤ z) (neg_ℤ-+ℤ k k) ∙ sym (+ℤ_assoc k (neg_ℤ k) (neg_ℤ k)) ∙ ap (λ (z : ℤ). z +ℤ neg_ℤ k) (+ℤ_invr k) ∙ +ℤ_idl (neg_ℤ k)

none_left : (k : ℤ) → k +ℤ (k -ℤ (k +ℤ k)) ≡ pos 0
none_left k = ap (λ (z : ℤ). k +ℤ z) (back-by-one k) ∙ +ℤ_invr k

-- ---- what a test's mark counts
-- the scaling: Φ, Φ_A, each P, and what was seen before
pub record ScalingBears (t : ℕ) (s : Scaled Marked) (seen : Marked) : Type 0 where
  pub before : Bears t seen
  pub phi : BearsCells t s.p s.p s.phi
  pub phi_a : BearsCells t s.p s.p s.phi_a
  pub ps : (r : ℕ) → r < s.matrices → BearsCells t s.p s.p (get_or s.ps r [])

pub scaling-bears : {t : ℕ} (s : Scaled Marked) (seen : Marked) → Bears t (scaling_seen marks s seen) → ScalingBears t s seen
unfolding scaling_seen stack_seen
scaling-bears {t} s seen h =
    let p : ℕ = s.p in
    let s1 : Marked = all_marks marks p p s.phi seen in
    let s2 : Marked = all_marks marks p p s.phi_a s1 in
    let h2 : Bears t s2 = stack-first s.matrices p p s.ps s2 h in
    let h1 : Bears t s1 = all_marks-first p p s.phi_a s1 h2 in
    record {
      before = all_marks-first p p s.phi seen h1;
      phi = all_marks-cells p p s.phi seen h1;
      phi_a = all_marks-cells p p s.phi_a s1 h2;
      ps = stack-cells s.matrices p p s.ps s2 h;
    }

-- every matrix of a test
pub record TestBears (t : ℕ) (c : Cutoffs) (s : Scaled Marked) (beta beta_h : List Float) (b : Basis Marked) : Type 0 where
  pub scaling : ScalingBears t s b.seen
  pub d : BearsCells t s.p 1 (difference marks s.p beta beta_h)
  pub x : BearsCells t b.rank s.p (x_rows marks c s beta beta_h b)
  pub u : (i : ℕ) → i < s.matrices → BearsCells t s.p s.p (get_or (us marks c s beta beta_h b) i [])
  pub v : BearsCells t b.rank b.rank (v_rows marks c s beta beta_h b)
  pub y : eqb b.rank 1 ≡ false → BearsCells t b.rank 1 (y_rows marks c s beta beta_h b)
  pub wald : Bears t (wald_marked marks c s beta beta_h b)

pub test-bears : {t : ℕ} (c : Cutoffs) (s : Scaled Marked) (beta beta_h : List Float) (b : Basis Marked) → Bears t (test_seen marks c s beta beta_h b) → TestBears t c s beta beta_h b
unfolding test_seen stack_seen
test-bears {t} c s beta beta_h b h =
    record {
      scaling = scaling-bears s b.seen (all_marks-first p 1 d s0 h1);
      d = all_marks-cells p 1 d s0 h1;
      x = all_marks-cells q p x s1a h2;
      u = stack-cells s.matrices p p (us marks c s beta beta_h b) s2a h3;
      v = all_marks-cells q q v s3a h4;
      y = λ e. last e (eqb q 1) refl h5.0;
      wald = h5.1;
    }
  where
    p : ℕ
    p = s.p

    q : ℕ
    q = b.rank

    d : MarkedRows
    d = difference marks p beta beta_h

    a : MarkedRows
    a = a_rows marks c s beta beta_h b

    x : MarkedRows
    x = x_rows marks c s beta beta_h b

    tp : MarkedRows
    tp = theta_phi marks c s beta beta_h b

    ld : MarkedRows
    ld = ld_rows marks c s beta beta_h b

    v : MarkedRows
    v = v_rows marks c s beta beta_h b

    y : MarkedRows
    y = y_rows marks c s beta beta_h b

    s0 : Marked
    s0 = scaling_seen marks s b.seen

    s1 : Marked
    s1 = all_marks marks p 1 d s0

    s1a : Marked
    s1a = all_marks marks q q a s1

    s2 : Marked
    s2 = all_marks marks q p x s1a

    s2a : Marked
    s2a = all_marks marks p p tp s2

    s3 : Marked
    s3 = fold 0 s.matrices (λ i z. all_marks marks p p (get_or (us marks c s beta beta_h b) i []) z) s2a

    s3a : Marked
    s3a = all_marks marks q 1 ld s3

    s4 : Marked
    s4 = all_marks marks q q v s3a

    s5 : Marked
    s5 = cond (eqb q 1) s4 (all_marks marks q 1 y s4)

    h5 : Bears t s5 × Bears t (wald_marked marks c s beta beta_h b)
    h5 = also-bears s5 (wald_marked marks c s beta beta_h b) h

    first : (e : Bool) → Bears t (cond e s4 (all_marks marks q 1 y s4)) → Bears t s4
    first true k = k
    first false k = all_marks-first q 1 y s4 k

    last : eqb q 1 ≡ false → (e : Bool) → eqb q 1 ≡ e → Bears t (cond e s4 (all_marks marks q 1 y s4)) → BearsCells t q 1 y
    last f true g k = absurd (true≢false (sym g ∙ f))
    last f false g k = all_marks-cells q 1 y s4 k

    h4 : Bears t s4
    h4 = first (eqb q 1) h5.0

    h3 : Bears t s3
    h3 = all_marks-first q 1 ld s3 (all_marks-first q q v s3a h4)

    h2 : Bears t s2
    h2 = all_marks-first p p tp s2 (stack-first s.matrices p p (us marks c s beta beta_h b) s2a h3)

    h1 : Bears t s1
    h1 = all_marks-first q q a s1 (all_marks-first q p x s1a h2)

-- ---- two tests
pub record SameTested (x x' : Tested) : Type 0 where
  pub refusal : x'.refused ≡ x.refused
  pub same : verdict x'.entry ≡ verdict x.entry

-- the inputs of the two: Φ and Φ_A moved by 2k, the Ps by -2k, W, L and the rank the same, β and β_H times 2 ^ k
module _ {t : ℕ} (c : Cutoffs) (p N q : ℕ) (hp : p ≤ 6) (p1 : 0 < p) (hN : N ≤ 4) (hq : q ≤ 6) (k : ℤ) (n2 : nat_abs (k +ℤ k) ≤ t) (phi phi_a phi' phiA' : MarkedRows)
    (ps ps' : List MarkedRows) (w : Rows) (beta beta_h beta' betaH' : List Float) (rows : Rows) (seen seen' : Marked) (mphi : MovesCells t (k +ℤ k) p p phi phi')
    (mphiA : MovesCells t (k +ℤ k) p p phi_a phiA') (mps : (r : ℕ) → r < N → MovesCells t (neg_ℤ (k +ℤ k)) p p (get_or ps r []) (get_or ps' r []))
    (ebeta : (i : ℕ) → i < p → Tied k (get_or beta i nan) (get_or beta' i nan)) (ebetaH : (i : ℕ) → i < p → Tied k (get_or beta_h i nan) (get_or betaH' i nan))
    (written : WrittenCells q p rows) where
  abbrev s : Scaled Marked
  s = record { p = p; matrices = N; phi = phi; phi_a = phi_a; ps = ps; w = w }

  abbrev s' : Scaled Marked
  s' = record { p = p; matrices = N; phi = phi'; phi_a = phiA'; ps = ps'; w = w }

  abbrev b : Basis Marked
  b = record { rows = rows; rank = q; seen = seen }

  abbrev b' : Basis Marked
  b' = record { rows = rows; rank = q; seen = seen' }

  abbrev u : ℤ
  u = k +ℤ k

  abbrev l : MarkedRows
  l = given_cells marks 6 6 q p rows

  n1 : nat_abs k ≤ t
  n1 = half-small k n2

  nn : nat_abs (neg_ℤ u) ≤ t
  nn = rw abs_neg n2

  l-moves : MovesCells t (pos 0) q p l l
  l-moves = given-cells 6 6 q p hq hp (pos 0) rows rows (λ i j h o. tied-still _ (written i j h o))

  a-moves : MovesCells t u q q (a_rows marks c s beta beta_h b) (a_rows marks c s' beta' betaH' b')
  unfolding a_rows
  a-moves = sandwich-moves 6 6 q p hq hq hp hp u n2 l phi l phi' l-moves mphi

  v-moves : MovesCells t u q q (v_rows marks c s beta beta_h b) (v_rows marks c s' beta' betaH' b')
  unfolding v_rows
  v-moves = sandwich-moves 6 6 q p hq hq hp hp u n2 l phi_a l phiA' l-moves mphiA

  d-moves : MovesCells t k p 1 (difference marks p beta beta_h) (difference marks p beta' betaH')
  unfolding difference
  d-moves =
      table-moves k 6 6 p 1 (λ i j. marked_sub (given (get_or beta i nan)) (given (get_or beta_h i nan))) (λ i j. marked_sub (given (get_or beta' i nan)) (given (get_or betaH' i nan))) hp (omega arith)
      (λ i j h o. sub-moves k n1 (given (get_or beta i nan)) (given (get_or beta_h i nan)) (given (get_or beta' i nan)) (given (get_or betaH' i nan))
      (given-moves k (get_or beta i nan) (get_or beta' i nan) (ebeta i h)) (given-moves k (get_or beta_h i nan) (get_or betaH' i nan) (ebetaH i h)))

  ld-moves : MovesCells t k q 1 (ld_rows marks c s beta beta_h b) (ld_rows marks c s' beta' betaH' b')
  unfolding ld_rows
  ld-moves =
      cells-by (+ℤ_idl k)
      (product-moves 6 6 q 1 hq (omega arith) (pos 0) k (rw +ℤ_idl n1) p l (difference marks p beta beta_h) l (difference marks p beta' betaH') l-moves d-moves)

  -- the two eliminations
  module _ (bears : TestBears t c s beta beta_h b) where
    x-alike : SolvedAlike t (neg_ℤ u) 6 12 6 q p (a_rows marks c s beta beta_h b) l (a_rows marks c s' beta' betaH' b') l
    unfolding x_rows
    x-alike =
        let less : nat_abs (pos 0 -ℤ u) ≤ t = rw (+ℤ_idl (neg_ℤ u)) nn in
        subst (λ (z : ℤ). SolvedAlike t z 6 12 6 q p (a_rows marks c s beta beta_h b) l (a_rows marks c s' beta' betaH' b') l) (+ℤ_idl (neg_ℤ u))
        (solution-moves 6 12 6 q p hq (omega arith) hp p1 t u (pos 0) n2 (omega arith) less (a_rows marks c s beta beta_h b) l (a_rows marks c s' beta' betaH' b') l a-moves l-moves bears.x)

    y-alike : eqb q 1 ≡ false
        → SolvedAlike t (k -ℤ u) 6 12 6 q 1 (v_rows marks c s beta beta_h b) (ld_rows marks c s beta beta_h b) (v_rows marks c s' beta' betaH' b') (ld_rows marks c s' beta' betaH' b')
    unfolding y_rows
    y-alike e =
        let less : nat_abs (k -ℤ u) ≤ t = rw (back-by-one k, abs_neg) n1 in
        solution-moves 6 12 6 q 1 hq (omega arith) (omega arith) (omega arith) t u k n2 n1 less (v_rows marks c s beta beta_h b) (ld_rows marks c s beta beta_h b)
        (v_rows marks c s' beta' betaH' b') (ld_rows marks c s' beta' betaH' b') v-moves ld-moves (bears.y e)

    x-moves : MovesCells t (neg_ℤ u) q p (x_rows marks c s beta beta_h b) (x_rows marks c s' beta' betaH' b')
    unfolding x_rows
    x-moves = x-alike.cells

    theta-moves : MovesCells t (neg_ℤ u) p p (theta_of marks p q l (x_rows marks c s beta beta_h b)) (theta_of marks p q l (x_rows marks c s' beta' betaH' b'))
    unfolding theta_of
    theta-moves =
        cells-by (+ℤ_idl (neg_ℤ u))
        (product-moves 6 6 p p hp hp (pos 0) (neg_ℤ u) (rw +ℤ_idl nn) q (transpose marks 6 6 q p l) (x_rows marks c s beta beta_h b) (transpose marks 6 6 q p l)
        (x_rows marks c s' beta' betaH' b') (transpose-moves 6 6 p q hp hq (pos 0) l l l-moves) x-moves)

    -- ΘΦ does not move, nor does any u_i
    theta_phi-moves : MovesCells t (pos 0) p p (theta_phi marks c s beta beta_h b) (theta_phi marks c s' beta' betaH' b')
    unfolding theta_phi
    theta_phi-moves =
        cells-by (+ℤ_invl u)
        (product-moves 6 6 p p hp hp (neg_ℤ u) u (rw +ℤ_invl (omega arith)) p (theta_of marks p q l (x_rows marks c s beta beta_h b)) phi (theta_of marks p q l (x_rows marks c s' beta' betaH' b')) phi'
        theta-moves mphi)

    u-at : (tp : MarkedRows) (ps : List MarkedRows) (phi : MarkedRows) (i : ℕ) → i < N → get_or (u_stack marks N p tp ps phi) i [] ≡ u_of marks p tp (get_or ps i []) phi
    unfolding u_stack
    u-at tp ps phi i h =
        span-at 0 N (λ i. u_of marks p tp (get_or ps i []) phi) (replicate 4 (blank (given plus_zero) 6 6)) i [] (omega arith) h
        (omega (arith, length-replicate 4 (blank (given plus_zero) 6 6), hN))

    u-moves : (i : ℕ) → i < N → MovesCells t (pos 0) p p (get_or (us marks c s beta beta_h b) i []) (get_or (us marks c s' beta' betaH' b') i [])
    unfolding us u_of
    u-moves i h =
        let tp : MarkedRows = theta_phi marks c s beta beta_h b in
        let tp' : MarkedRows = theta_phi marks c s' beta' betaH' b' in
        let first : MovesCells t (neg_ℤ u) p p (product marks 6 6 p p p tp (get_or ps i [])) (product marks 6 6 p p p tp' (get_or ps' i [])) =
        cells-by (+ℤ_idl (neg_ℤ u)) (product-moves 6 6 p p hp hp (pos 0) (neg_ℤ u) (rw +ℤ_idl nn) p tp (get_or ps i []) tp' (get_or ps' i []) theta_phi-moves (mps i h)) in
        rw (u-at tp ps phi i h, u-at tp' ps' phi' i h)
        (cells-by (+ℤ_invl u)
        (product-moves 6 6 p p hp hp (neg_ℤ u) u (rw +ℤ_invl (omega arith)) p (product marks 6 6 p p p tp (get_or ps i [])) phi (product marks 6 6 p p p tp' (get_or ps' i [])) phi'
        first mphi))

    -- so the unmarked part is the same
    u-agree : u_values marks N p (us marks c s' beta' betaH' b') ≡ u_values marks N p (us marks c s beta beta_h b)
    unfolding u_values
    u-agree =
        fold-ext 0 N (λ i ys. set ys i (values marks 6 6 p p (get_or (us marks c s' beta' betaH' b') i []))) (λ i ys. set ys i (values marks 6 6 p p (get_or (us marks c s beta beta_h b) i [])))
        (replicate 4 (blank plus_zero 6 6))
        (λ i h o ys. ap (λ (m : Rows). set ys i m)
        (values_agree 6 6 p p (get_or (us marks c s beta beta_h b) i []) (get_or (us marks c s' beta' betaH' b') i []) (u-moves i o) (bears.u i o)))

    -- Wald does not move
    many-moves : eqb q 1 ≡ false
        → Moves t (pos 0) (wald_many marks q (ld_rows marks c s beta beta_h b) (y_rows marks c s beta beta_h b)) (wald_many marks q (ld_rows marks c s' beta' betaH' b') (y_rows marks c s' beta' betaH' b'))
    unfolding wald_many y_rows
    many-moves e =
        let ld : MarkedRows = ld_rows marks c s beta beta_h b in
        let ld' : MarkedRows = ld_rows marks c s' beta' betaH' b' in
        let y : MarkedRows = y_rows marks c s beta beta_h b in
        let y' : MarkedRows = y_rows marks c s' beta' betaH' b' in
        sum-moves (pos 0) (omega arith) q (λ i. marked_mul (at marks ld i 0) (at marks y i 0)) (λ i. marked_mul (at marks ld' i 0) (at marks y' i 0))
        (λ i h. moves-by (marked_mul (at marks ld i 0) (at marks y i 0)) (marked_mul (at marks ld' i 0) (at marks y' i 0)) (none_left k)
        (mul-moves k (k -ℤ u) (rw (none_left k) (omega arith)) (at marks ld i 0) (at marks y i 0) (at marks ld' i 0) (at marks y' i 0)
        (ld-moves.cell i 0 h (omega arith)) ((y-alike e).cells.cell i 0 h (omega arith))))

    given-agrees : eqb q 1 ≡ true → is_positive (at marks (v_rows marks c s' beta' betaH' b') 0 0).value ≡ is_positive (at marks (v_rows marks c s beta beta_h b) 0 0).value
    given-agrees e =
        let h : 0 < q = omega (arith, eqb-true q 1 e) in
        positive-agrees u (at marks (v_rows marks c s beta beta_h b) 0 0).value (at marks (v_rows marks c s' beta' betaH' b') 0 0).value (v-moves.cell 0 0 h h (bears.v.cell 0 0 h h))

    wald-moves : Moves t (pos 0) (wald_marked marks c s beta beta_h b) (wald_marked marks c s' beta' betaH' b')
    unfolding wald_marked
    wald-moves = go (eqb q 1) refl
      where
        v : Marked
        v = at marks (v_rows marks c s beta beta_h b) 0 0

        v' : Marked
        v' = at marks (v_rows marks c s' beta' betaH' b') 0 0

        ld : Marked
        ld = at marks (ld_rows marks c s beta beta_h b) 0 0

        ld' : Marked
        ld' = at marks (ld_rows marks c s' beta' betaH' b') 0 0

        many : Marked
        many = wald_many marks q (ld_rows marks c s beta beta_h b) (y_rows marks c s beta beta_h b)

        many' : Marked
        many' = wald_many marks q (ld_rows marks c s' beta' betaH' b') (y_rows marks c s' beta' betaH' b')

        go : (e : Bool) → eqb q 1 ≡ e
            → Moves t (pos 0) (cond e (cond (is_positive v.value) (square_one marks ld v) (given plus_zero)) many) (cond e (cond (is_positive v'.value) (square_one marks ld' v') (given plus_zero)) many')
        go true e =
            let h : 0 < q = omega (arith, eqb-true q 1 e) in
            rw (given-agrees e)
            (cond-moves (is_positive v.value) (square_one marks ld v) (given plus_zero) (square_one marks ld' v') (given plus_zero)
            (square_one-moves k ld v ld' v' (ld-moves.cell 0 0 h (omega arith)) (v-moves.cell 0 0 h h)) (nil-moves (pos 0)))
        go false e = many-moves e

    wald-agrees : wald_number marks c s' beta' betaH' b' ≡ wald_number marks c s beta beta_h b
    unfolding wald_number
    wald-agrees = go (eqb q 1) refl (still-value (wald_marked marks c s beta beta_h b) (wald_marked marks c s' beta' betaH' b') wald-moves bears.wald)
      where
        x : Float
        x = (wald_marked marks c s beta beta_h b).value

        x' : Float
        x' = (wald_marked marks c s' beta' betaH' b').value

        v : Marked
        v = at marks (v_rows marks c s beta beta_h b) 0 0

        v' : Marked
        v' = at marks (v_rows marks c s' beta' betaH' b') 0 0

        go : (e : Bool) → eqb q 1 ≡ e → x' ≡ x
            → ◌≡◌ {A = Option Float} (cond (e && not (is_positive v'.value)) None (number_of x')) (cond (e && not (is_positive v.value)) None (number_of x))
        go true e h = rw (given-agrees e, h)
        go false e h = rw h

    -- the pivots of both eliminations are zero where they were
    refused-agrees : (tested marks c s' beta' betaH' b').refused ≡ (tested marks c s beta beta_h b).refused
    unfolding tested
    refused-agrees = rw x-alike.refusals (ap (λ (z : Bool). elimination.refused marks 6 12 q p (a_rows marks c s beta beta_h b) l || z) (go (eqb q 1) refl))
      where
        r : Bool
        r = elimination.refused marks 6 12 q 1 (v_rows marks c s beta beta_h b) (ld_rows marks c s beta beta_h b)

        r' : Bool
        r' = elimination.refused marks 6 12 q 1 (v_rows marks c s' beta' betaH' b') (ld_rows marks c s' beta' betaH' b')

        go : (e : Bool) → eqb q 1 ≡ e → cond e false r' ≡ cond e false r
        go true e = refl
        go false e = (y-alike e).refusals

    pub verdict-agrees : verdict (tested marks c s' beta' betaH' b').entry ≡ verdict (tested marks c s beta beta_h b).entry
    unfolding tested a1 a2
    verdict-agrees = rw (u-agree, wald-agrees)

  pub test-survives : Bears t (test_seen marks c s beta beta_h b) → SameTested (tested marks c s beta beta_h b) (tested marks c s' beta' betaH' b')
  test-survives h =
      let bears : TestBears t c s beta beta_h b = test-bears c s beta beta_h b h in
      record { refusal = refused-agrees bears; same = verdict-agrees bears }
