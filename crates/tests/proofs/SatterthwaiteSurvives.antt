-- Document 01's third demand, for the Satterthwaite test: v and every Jacobian times 4 ^ k, β and β_H times 2 ^ k, all else the same. Where the first test's mark bears t and t covers 4|k|, the
-- second is refused or accepted as the first, with the same rank, F and degrees of freedom, bit for bit.
use Prim.Native.Nat.{ℕ, ◌*◌, ◌≤◌, ◌<◌}
use native.Mathlib.Omega.{arith}
use mathlib.Core.Path.{◌≡◌, refl, sym, ap, ◌∙◌}
use mathlib.Core.Bool.{Bool, true, false, cond}
use mathlib.Core.List.{[]}
use lib.Dec.{T, eqb}
use lib.IntN.{ℤ, pos, nat_abs, ◌+ℤ◌}
use lib.ListN.{get_or}
use lib.Ieee.{nan, binary64, fits}
use Rattle.arithmetic.specs.declared.Marked.{Marked}
use Rattle.arithmetic.specs.Numbers.{plus_zero}
use Rattle.arithmetic.specs.Marks.{MarkBears, given, also}
use Rattle.arithmetic.proofs.Tied.{Tied}
use Rattle.arithmetic.proofs.MarkLaws.{Bears, Moves, mark-bears, also-bears}
use Rattle.algebra.specs.Kind.{floats, marks}
use Rattle.algebra.specs.Product.{at}
use Rattle.algebra.proofs.MovingCells.{BearsCells, MovesCells, abs-twice, still-value}
use Rattle.algebra.proofs.MovingJacobi.{StateBears, StateMoves, jacobi-moves}
use Rattle.algebra.specs.Small.{all_marks}
use Rattle.arithmetic_cutoffs.specs.declared.Cutoffs.{Cutoffs}
use Rattle.tests.specs.Answer.{number_of}
use Rattle.tests.specs.VarianceDf.{entry_at}
use Rattle.tests.specs.declared.Tested.{Tested}
use Rattle.tests.specs.Satterthwaite.{Inputs, gradient_one, projected, several_df, l_rows, ld_rows, v_rows, j_stack, rotated_v, variances, directions, jx_stack, f_one, f_several, df_one, df_several, start_seen, seen_one, seen_several, one_row, several_rows, satterthwaite}
use Rattle.algebra_products.proofs.MovingSmall.{given-cells, all_marks-first, all_marks-cells}
use Rattle.tests.proofs.MovingVariance.{gradient-first, variance_df-agrees}
use Rattle.tests.proofs.MovingComponents.{MovesStack, contrast_of-moves, transformed-moves, transformed_all-moves, square_one-moves, gradient_one-moves, not_positive-agrees, variances_of-moves, variances_of-bear, directions_of-moves, projected-moves, turned_all-moves, gradient_at-moves, squares_over-moves, stack-first, components-first, component_dfs-agree}

-- ---- the statement's words
-- the sizes that document 01 allows: coefficients 1–6, contrast rows 1–6, parameters 1–4
pub record InputSizes (s : Inputs) : Type 0 where
  pub p : s.p ≤ 6
  pub some : 0 < s.q
  pub q : s.q ≤ 6
  pub n : s.n ≤ 4

-- s' is s after a change of converter by 2 ^ k: the same sizes, L and A; β and β_H times 2 ^ k, v and each Jacobian times 4 ^ k, exactly, cell by cell
pub record ConvertedInputs (k : ℤ) (s s' : Inputs) : Type 0 where
  pub p : s'.p ≡ s.p
  pub q : s'.q ≡ s.q
  pub n : s'.n ≡ s.n
  pub l : (i j : ℕ) → i < s.q → j < s.p → Tied (pos 0) (at floats s.l i j) (at floats s'.l i j)
  pub beta : (i : ℕ) → i < s.p → Tied k (get_or s.beta i nan) (get_or s'.beta i nan)
  pub beta_h : (i : ℕ) → i < s.p → Tied k (get_or s.beta_h i nan) (get_or s'.beta_h i nan)
  pub v : (i j : ℕ) → i < s.p → j < s.p → Tied (k +ℤ k) (at floats s.v i j) (at floats s'.v i j)
  pub js : (r i j : ℕ) → r < s.n → i < s.p → j < s.p → Tied (k +ℤ k) (at floats (get_or s.js r []) i j) (at floats (get_or s'.js r []) i j)
  pub a : (i j : ℕ) → i < s.n → j < s.n → at floats s'.a i j ≡ at floats s.a i j

-- the same refusal and the same verdict; the mark may change
pub record SameOutcome (x x' : Tested) : Type 0 where
  pub refused : x'.refused ≡ x.refused
  pub f : x'.entry.f ≡ x.entry.f
  pub df : x'.entry.df ≡ x.entry.df
  pub rank : x'.entry.rank ≡ x.entry.rank

-- ---- two tests of the same sizes
-- s with other numbers
abbrev pub with_numbers : Inputs → Inputs → Inputs
with_numbers s r = record { p = s.p; q = s.q; n = s.n; l = r.l; beta = r.beta; beta_h = r.beta_h; v = r.v; js = r.js; a = r.a }

-- t covers 4|k|, the shift of V's squares in Jacobi's rotation tests: nothing that is marked moves further
module _ {t : ℕ} (c : Cutoffs) (fine : T (fits binary64 c.rotation)) (k : ℤ) (small : 4 * nat_abs k ≤ t) (s r : Inputs) (z : InputSizes s) (e : ConvertedInputs k s (with_numbers s r)) where
  abbrev other : Inputs
  other = with_numbers s r

  abbrev w : ℤ
  w = k +ℤ k

  one-small : nat_abs k ≤ t
  one-small = omega arith

  two-small : nat_abs w ≤ t
  two-small = omega (arith, abs-twice k)

  four-small : nat_abs (w +ℤ w) ≤ t
  four-small = omega (arith, abs-twice k, abs-twice w)

  -- what both kinds of test start from
  l-moves : MovesCells t (pos 0) s.q s.p (l_rows marks c s) (l_rows marks c other)
  l-moves = given-cells 6 6 s.q s.p z.q z.p (pos 0) s.l r.l e.l

  ld-moves : MovesCells t k s.q 1 (ld_rows marks c s) (ld_rows marks c other)
  unfolding ld_rows
  ld-moves = contrast_of-moves s.p s.q z.p z.q (l_rows marks c s) (l_rows marks c other) l-moves k one-small s.beta s.beta_h r.beta r.beta_h e.beta e.beta_h

  v-moves : MovesCells t w s.q s.q (v_rows marks c s) (v_rows marks c other)
  unfolding v_rows
  v-moves = transformed-moves s.p s.q z.p z.q (l_rows marks c s) (l_rows marks c other) l-moves w two-small s.v r.v e.v

  js-moves : MovesStack t (λ i. w) s.n s.q s.q (j_stack marks c s) (j_stack marks c other)
  unfolding j_stack
  js-moves = transformed_all-moves s.p s.q z.p z.q (l_rows marks c s) (l_rows marks c other) l-moves (λ i. w) s.n (λ i l. two-small) z.n s.js r.js e.js

  start-v : Bears t (start_seen marks c s) → BearsCells t s.q s.q (v_rows marks c s)
  unfolding start_seen
  start-v b =
      all_marks-cells s.q s.q (v_rows marks c s) (all_marks marks s.q 1 (ld_rows marks c s) (given plus_zero))
      (stack-first s.n s.q (j_stack marks c s) (all_marks marks s.q s.q (v_rows marks c s) (all_marks marks s.q 1 (ld_rows marks c s) (given plus_zero))) b)

  few : s.n ≤ 6
  few = omega (arith, z.n)

  -- ---- one row
  module _ (b : Bears t (seen_one marks c s)) where
    one-bears : Bears t (start_seen marks c s) × Bears t (f_one marks c s)
    unfolding seen_one
    one-bears =
        also-bears (start_seen marks c s) (f_one marks c s) (gradient-first s.n few (at marks (v_rows marks c s) 0 0) (gradient_one marks s.n (j_stack marks c s)) (also (start_seen marks c s) (f_one marks c s)) b)

    f_one-agrees : (f_one marks c other).value ≡ (f_one marks c s).value
    unfolding f_one
    f_one-agrees =
        still-value (f_one marks c s) (f_one marks c other)
        (square_one-moves k (at marks (ld_rows marks c s) 0 0) (at marks (v_rows marks c s) 0 0) (at marks (ld_rows marks c other) 0 0) (at marks (v_rows marks c other) 0 0)
        (ld-moves.cell 0 0 z.some (omega arith)) (v-moves.cell 0 0 z.some z.some)) one-bears.1

    df_one-agrees : df_one marks c other ≡ df_one marks c s
    unfolding df_one seen_one
    df_one-agrees =
        variance_df-agrees s.n few w (at marks (v_rows marks c s) 0 0) (at marks (v_rows marks c other) 0 0) (gradient_one marks s.n (j_stack marks c s)) (gradient_one marks s.n (j_stack marks c other))
        (v-moves.cell 0 0 z.some z.some) (gradient_one-moves (λ i. w) s.n s.q z.n z.some (j_stack marks c s) (j_stack marks c other) js-moves)
        s.a r.a (also (start_seen marks c s) (f_one marks c s)) e.a ((start-v one-bears.0).cell 0 0 z.some z.some) b

    one-survives : SameOutcome (one_row marks c s) (one_row marks c other)
    unfolding one_row
    one-survives = record { refused = refl; f = ap number_of f_one-agrees; df = df_one-agrees; rank = refl }

  -- ---- several rows
  module _ (b : Bears t (seen_several marks c s)) where
    abbrev vectors_seen : Marked
    vectors_seen = all_marks marks s.q s.q (rotated_v marks c s).v (all_marks marks s.q s.q (rotated_v marks c s).a (start_seen marks c s))

    abbrev rotations_seen : Marked
    rotations_seen = also vectors_seen (rotated_v marks c s).seen

    several-bears : Bears t rotations_seen × Bears t (f_several marks c s)
    unfolding seen_several
    several-bears = also-bears rotations_seen (f_several marks c s) (components-first s.n s.q few (variances marks c s) (directions marks c s) (jx_stack marks c s) (also rotations_seen (f_several marks c s)) b)

    state-bears : StateBears t s.q (rotated_v marks c s)
    state-bears =
        let h : Bears t vectors_seen × Bears t (rotated_v marks c s).seen = also-bears vectors_seen (rotated_v marks c s).seen several-bears.0 in
        record {
          matrix =
              all_marks-cells s.q s.q (rotated_v marks c s).a (start_seen marks c s)
              (all_marks-first s.q s.q (rotated_v marks c s).v (all_marks marks s.q s.q (rotated_v marks c s).a (start_seen marks c s)) h.0);
          vectors = all_marks-cells s.q s.q (rotated_v marks c s).v (all_marks marks s.q s.q (rotated_v marks c s).a (start_seen marks c s)) h.0;
          seen = h.1;
        }

    state-moves : StateMoves t w s.q (rotated_v marks c s) (rotated_v marks c other)
    unfolding rotated_v
    state-moves =
        jacobi-moves c.rotation 6 6 s.q z.q z.q fine w four-small (v_rows marks c s) (v_rows marks c other)
        (λ i j h l. v-moves.cell i j (omega arith) l) state-bears

    variances-move : (i : ℕ) → i < s.q → Moves t w (entry_at marks (variances marks c s) i) (entry_at marks (variances marks c other) i)
    unfolding variances
    variances-move = variances_of-moves w s.q z.q z.some (rotated_v marks c s).a (rotated_v marks c other).a state-moves.matrix state-bears.matrix

    variances-bear : (i : ℕ) → i < s.q → Bears t (entry_at marks (variances marks c s) i)
    unfolding variances
    variances-bear = variances_of-bear w s.q z.q z.some (rotated_v marks c s).a (rotated_v marks c other).a state-moves.matrix state-bears.matrix

    directions-move : MovesCells t (pos 0) s.q s.q (directions marks c s) (directions marks c other)
    unfolding directions
    directions-move =
        directions_of-moves w s.q z.q z.some (rotated_v marks c s).a (rotated_v marks c other).a state-moves.matrix state-bears.matrix (rotated_v marks c s).v (rotated_v marks c other).v state-moves.vectors

    jx-moves : MovesStack t (λ i. w) s.n s.q s.q (jx_stack marks c s) (jx_stack marks c other)
    unfolding jx_stack
    jx-moves = turned_all-moves s.q z.q (directions marks c s) (directions marks c other) directions-move (λ i. w) s.n (λ i l. two-small) z.n (j_stack marks c s) (j_stack marks c other) js-moves

    f_several-agrees : (f_several marks c other).value ≡ (f_several marks c s).value
    unfolding f_several
    f_several-agrees =
        still-value (f_several marks c s) (f_several marks c other)
        (squares_over-moves k two-small s.q (projected marks s.q (directions marks c s) (ld_rows marks c s)) (projected marks s.q (directions marks c other) (ld_rows marks c other)) (variances marks c s) (variances marks c other)
        (projected-moves s.q z.q (directions marks c s) (directions marks c other) directions-move k one-small (ld_rows marks c s) (ld_rows marks c other) ld-moves) variances-move) several-bears.1

    df_several-agrees : df_several marks c other ≡ df_several marks c s
    unfolding df_several seen_several
    df_several-agrees =
        ap (several_df s.q)
        (component_dfs-agree s.n s.q few (variances marks c s) (directions marks c s) (jx_stack marks c s) (also rotations_seen (f_several marks c s)) b w c s.a r.a
        (variances marks c other) (directions marks c other) (jx_stack marks c other) e.a variances-move variances-bear
        (λ i h. gradient_at-moves s.q z.q (directions marks c s) (directions marks c other) directions-move (λ i. w) s.n (λ i l. two-small) z.n (jx_stack marks c s) (jx_stack marks c other) jx-moves i h))

    several-survives : SameOutcome (several_rows marks c s) (several_rows marks c other)
    unfolding several_rows
    several-survives = record {
      refused = not_positive-agrees w s.q z.q z.some (rotated_v marks c s).a (rotated_v marks c other).a state-moves.matrix state-bears.matrix;
      f = ap number_of f_several-agrees;
      df = df_several-agrees;
      rank = refl;
    }

  -- ---- whole
  one-borne : MarkBears t (one_row marks c s).entry.inside → SameOutcome (one_row marks c s) (one_row marks c other)
  unfolding one_row
  one-borne h = one-survives (mark-bears (seen_one marks c s) h)

  several-borne : MarkBears t (several_rows marks c s).entry.inside → SameOutcome (several_rows marks c s) (several_rows marks c other)
  unfolding several_rows
  several-borne h = several-survives (mark-bears (seen_several marks c s) h)

  numbers-survive : MarkBears t (satterthwaite marks c s).entry.inside → SameOutcome (satterthwaite marks c s) (satterthwaite marks c other)
  unfolding satterthwaite
  numbers-survive = go (eqb s.q 1)
    where
      go : (x : Bool) → MarkBears t (cond x (one_row marks c s) (several_rows marks c s)).entry.inside
          → SameOutcome (cond x (one_row marks c s) (several_rows marks c s)) (cond x (one_row marks c other) (several_rows marks c other))
      go true h = one-borne h
      go false h = several-borne h

-- ---- DEMAND 3 for the Satterthwaite test
pub satterthwaite-survives : {t : ℕ} (c : Cutoffs) → T (fits binary64 c.rotation) → (k : ℤ) → 4 * nat_abs k ≤ t → (s s' : Inputs) → InputSizes s → ConvertedInputs k s s'
    → MarkBears t (satterthwaite marks c s).entry.inside → SameOutcome (satterthwaite marks c s) (satterthwaite marks c s')
satterthwaite-survives c fine k small s s' z e h = rw same at (numbers-survive c fine k small s s' z (rw same e) h)
  where
    sized : ℕ → ℕ → ℕ → Inputs
    sized p q n = record { p = p; q = q; n = n; l = s'.l; beta = s'.beta; beta_h = s'.beta_h; v = s'.v; js = s'.js; a = s'.a }

    same : with_numbers s s' ≡ s'
    same = ap (λ (x : ℕ). sized x s.q s.n) (sym e.p) ∙ ap (λ (x : ℕ). sized s'.p x s.n) (sym e.q) ∙ ap (sized s'.p s'.q) (sym e.n)
