-- The numbers that a Satterthwaite test starts from: where the test's mark bears t and |u| ≤ t, β and β_H times 2 ^ u, and v and each Jacobian times 2 ^ u, are f64 numbers again.
use Prim.Native.Nat.{ℕ, ◌<◌, ◌≤◌}
use native.Mathlib.Omega.{arith}
use mathlib.Core.Path.{◌≡◌}
use mathlib.Core.Bool.{Bool, true, false, cond}
use mathlib.Core.List.{List, []}
use lib.Dec.{T, eqb, lit≤}
use lib.IntN.{ℤ, nat_abs}
use lib.ListN.{get_or, replicate, length-replicate}
use lib.Ieee.{Float, nan, binary64, fits}
use Rattle.arithmetic.specs.declared.Marked.{Marked}
use Rattle.arithmetic.specs.Numbers.{plus_zero}
use Rattle.arithmetic.specs.Scale.{scale}
use Rattle.arithmetic.specs.Marks.{MarkBears, given, marked_mul, also}
use Rattle.arithmetic.proofs.MarkLaws.{Bears, mark-bears, also-bears, mul-bears, mul-operands}
use Rattle.algebra.specs.Fold.{fold}
use Rattle.algebra.specs.Table.{blank}
use Rattle.algebra.specs.Kind.{floats, marks}
use Rattle.algebra.specs.Product.{at, cell, product, transpose}
use Rattle.algebra.proofs.FoldLaws.{span-at}
use Rattle.algebra.proofs.TableLaws.{table_at}
use Rattle.algebra.proofs.MovingCells.{step-bears, table-bears}
use Rattle.algebra.proofs.MovingProducts.{sum-bears, minus_cells-bears}
use Rattle.algebra.specs.Small.{MarkedRows, Rows, sandwich, given_cells, all_marks}
use Rattle.arithmetic_cutoffs.specs.declared.Cutoffs.{Cutoffs}
use Rattle.tests.specs.Satterthwaite.{Inputs, column, contrast_of, transformed, transformed_all, gradient_one, l_rows, ld_rows, v_rows, j_stack, rotated_v, variances, directions, jx_stack, f_one, f_several, start_seen, seen_one, seen_several, one_row, several_rows, satterthwaite}
use Rattle.tests.specs.Both.{stack_seen}
use Rattle.algebra_products.proofs.MovingSmall.{all_marks-first, all_marks-cells}
use Rattle.tests.proofs.MovingVariance.{gradient-first}
use Rattle.tests.proofs.MovingComponents.{stack-first, components-first}
use Rattle.tests.proofs.SatterthwaiteSurvives.{InputSizes}
use Rattle.converter_run.specs.joints.ConvertedInput.{WrittenCells}

-- the numbers of a test's input are f64 numbers
pub record Written (x : Inputs) : Type 0 where
  pub l : WrittenCells x.q x.p x.l
  pub beta : (i : ℕ) → i < x.p → T (fits binary64 (get_or x.beta i nan))
  pub beta_h : (i : ℕ) → i < x.p → T (fits binary64 (get_or x.beta_h i nan))
  pub v : WrittenCells x.p x.p x.v
  pub js : (r : ℕ) → r < x.n → WrittenCells x.p x.p (get_or x.js r [])

module _ {t : ℕ} where
  -- each term of a product's cell bears what the cell bears
  product_term : (r n c : ℕ) → r ≤ 6 → c ≤ 6 → (a b : MarkedRows) (i j : ℕ) → i < r → j < c → Bears t (at marks (product marks 6 6 r n c a b) i j)
      → (k : ℕ) → k < n → Bears t (marked_mul (at marks a i k) (at marks b k j))
  unfolding product cell
  product_term r n c hr hc a b i j h l x k o =
      sum-bears n (λ k. marked_mul (at marks a i k) (at marks b k j)) (table-bears 6 6 r c (cell marks n a b) hr hc i j h l x) k o

  module _ (p q : ℕ) (hp : p ≤ 6) (hq : q ≤ 6) (some : 0 < q) (l : Rows) (wl : WrittenCells q p l) (u : ℤ) (n : nat_abs u ≤ t) where
    l-at : (i : ℕ) → i < p → at marks (given_cells marks 6 6 q p l) 0 i ≡ given (at floats l 0 i)
    unfolding given_cells
    l-at i h = table_at (given plus_zero) 6 6 q p (λ i j. given (at floats l i j)) 0 i marks.void some h hq hp

    -- Lb
    column_again : (b : List Float) → ((i : ℕ) → i < p → T (fits binary64 (get_or b i nan)))
        → Bears t (at marks (product marks 6 6 q p 1 (given_cells marks 6 6 q p l) (column marks p b)) 0 0) → (i : ℕ) → i < p → T (fits binary64 (scale u (get_or b i nan)))
    unfolding column
    column_again b f x i h =
        let e : Bears t (marked_mul (at marks (given_cells marks 6 6 q p l) 0 i) (at marks (column marks p b) i 0)) =
        product_term q p 1 hq (lit≤ tt) (given_cells marks 6 6 q p l) (column marks p b) 0 0 some (lit≤ tt) x i h in
        let g : Bears t (marked_mul (given (at floats l 0 i)) (given (get_or b i nan))) =
        rw (l-at i h, table_at (given plus_zero) 6 6 p 1 (λ i j. given (get_or b i nan)) i 0 marks.void h (lit≤ tt) hp (lit≤ tt)) at e in
        (mul-operands u n (given (at floats l 0 i)) (given (get_or b i nan)) g (wl 0 i some h) (f i h)).1

    cell_at : (m : Rows) (i j : ℕ) → i < p → j < p → at marks (given_cells marks 6 6 p p m) i j ≡ given (at floats m i j)
    unfolding given_cells
    cell_at m i j h o = table_at (given plus_zero) 6 6 p p (λ i j. given (at floats m i j)) i j marks.void h o hp hp

    -- L m Lᵀ
    matrix-again : (m : Rows) → WrittenCells p p m → Bears t (at marks (transformed marks p q (given_cells marks 6 6 q p l) m) 0 0)
        → (i j : ℕ) → i < p → j < p → T (fits binary64 (scale u (at floats m i j)))
    unfolding transformed sandwich
    matrix-again m w x i j h o =
        let a : MarkedRows = given_cells marks 6 6 q p l in
        let b : MarkedRows = given_cells marks 6 6 p p m in
        let d : MarkedRows = transpose marks 6 6 q p a in
        let first : Bears t (at marks (product marks 6 6 q p p a b) 0 j) =
        (mul-bears (at marks (product marks 6 6 q p p a b) 0 j) (at marks d j 0) (product_term q p q hq hq (product marks 6 6 q p p a b) d 0 0 some some x j o)).0 in
        let e : Bears t (marked_mul (at marks a 0 i) (at marks b i j)) = product_term q p p hq hp a b 0 j some o first i h in
        let g : Bears t (marked_mul (given (at floats l 0 i)) (given (at floats m i j))) = rw (l-at i h, cell_at m i j h o) at e in
        (mul-operands u n (given (at floats l 0 i)) (given (at floats m i j)) g (wl 0 i some h) (w i j h o)).1

few : (x : Inputs) → InputSizes x → x.n ≤ 6
few x z = omega (arith, z.n)

-- ---- a test whose mark bears t
module _ {t : ℕ} (c : Cutoffs) (x : Inputs) (z : InputSizes x) where
  one-start : Bears t (seen_one marks c x) → Bears t (start_seen marks c x)
  unfolding seen_one
  one-start b =
      (also-bears (start_seen marks c x) (f_one marks c x) (gradient-first x.n (few x z) (at marks (v_rows marks c x) 0 0) (gradient_one marks x.n (j_stack marks c x)) (also (start_seen marks c x) (f_one marks c x)) b)).0

  several-start : Bears t (seen_several marks c x) → Bears t (start_seen marks c x)
  unfolding seen_several
  several-start b =
      let matrixSeen : Marked = all_marks marks x.q x.q (rotated_v marks c x).a (start_seen marks c x) in
      let vectors_seen : Marked = all_marks marks x.q x.q (rotated_v marks c x).v matrixSeen in
      let rotations_seen : Marked = also vectors_seen (rotated_v marks c x).seen in
      let r : Bears t rotations_seen =
      (also-bears rotations_seen (f_several marks c x) (components-first x.n x.q (few x z) (variances marks c x) (directions marks c x) (jx_stack marks c x) (also rotations_seen (f_several marks c x)) b)).0 in
      all_marks-first x.q x.q (rotated_v marks c x).a (start_seen marks c x)
      (all_marks-first x.q x.q (rotated_v marks c x).v matrixSeen (also-bears vectors_seen (rotated_v marks c x).seen r).0)

  pub start-bears : MarkBears t (satterthwaite marks c x).entry.inside → Bears t (start_seen marks c x)
  unfolding satterthwaite one_row several_rows
  start-bears = go (eqb x.q 1)
    where
      go : (b : Bool) → MarkBears t (cond b (one_row marks c x) (several_rows marks c x)).entry.inside → Bears t (start_seen marks c x)
      go true h = one-start (mark-bears (seen_one marks c x) h)
      go false h = several-start (mark-bears (seen_several marks c x) h)

  module _ (b : Bears t (start_seen marks c x)) (w : Written x) (u : ℤ) (n : nat_abs u ≤ t) where
    abbrev l_seen : Marked
    l_seen = all_marks marks x.q 1 (ld_rows marks c x) (given plus_zero)

    abbrev v_seen : Marked
    v_seen = all_marks marks x.q x.q (v_rows marks c x) l_seen

    before-js : Bears t v_seen
    unfolding start_seen
    before-js = stack-first x.n x.q (j_stack marks c x) v_seen b

    ld-bears : Bears t (at marks (ld_rows marks c x) 0 0)
    ld-bears = (all_marks-cells x.q 1 (ld_rows marks c x) (given plus_zero) (all_marks-first x.q x.q (v_rows marks c x) l_seen before-js)).cell 0 0 z.some (lit≤ tt)

    v-bears : Bears t (at marks (v_rows marks c x) 0 0)
    v-bears = (all_marks-cells x.q x.q (v_rows marks c x) l_seen before-js).cell 0 0 z.some z.some

    j-bears : (r : ℕ) → r < x.n → Bears t (at marks (transformed marks x.p x.q (l_rows marks c x) (get_or x.js r [])) 0 0)
    unfolding start_seen stack_seen j_stack transformed_all
    j-bears r h =
        let ms : List MarkedRows = j_stack marks c x in
        let step : ℕ → Marked → Marked = λ i s. all_marks marks x.q x.q (get_or ms i []) s in
        let e : Bears t (step r (fold 0 r step v_seen)) =
        step-bears 0 x.n step v_seen (λ i s y. all_marks-first x.q x.q (get_or ms i []) s y) b r (omega arith) h in
        let f : Bears t (at marks (get_or ms r []) 0 0) =
        (all_marks-cells x.q x.q (get_or ms r []) (fold 0 r step v_seen) e).cell 0 0 z.some z.some in
        rw (span-at 0 x.n (λ i. transformed marks x.p x.q (l_rows marks c x) (get_or x.js i [])) (replicate 4 (blank (given plus_zero) 6 6)) r [] (omega arith) h
        (omega (arith, z.n, length-replicate 4 (blank (given plus_zero) 6 6)))) at f

    estimates-bear : Bears t (at marks (product marks 6 6 x.q x.p 1 (l_rows marks c x) (column marks x.p x.beta)) 0 0)
        × Bears t (at marks (product marks 6 6 x.q x.p 1 (l_rows marks c x) (column marks x.p x.beta_h)) 0 0)
    unfolding ld_rows contrast_of
    estimates-bear =
        minus_cells-bears 6 6 x.q 1 z.q (lit≤ tt) (product marks 6 6 x.q x.p 1 (l_rows marks c x) (column marks x.p x.beta))
        (product marks 6 6 x.q x.p 1 (l_rows marks c x) (column marks x.p x.beta_h)) 0 0 z.some (lit≤ tt) ld-bears

    pub beta-again : (i : ℕ) → i < x.p → T (fits binary64 (scale u (get_or x.beta i nan)))
    beta-again = column_again x.p x.q z.p z.q z.some x.l w.l u n x.beta w.beta estimates-bear.0

    pub beta_h-again : (i : ℕ) → i < x.p → T (fits binary64 (scale u (get_or x.beta_h i nan)))
    beta_h-again = column_again x.p x.q z.p z.q z.some x.l w.l u n x.beta_h w.beta_h estimates-bear.1

    pub v-again : (i j : ℕ) → i < x.p → j < x.p → T (fits binary64 (scale u (at floats x.v i j)))
    unfolding v_rows
    v-again = matrix-again x.p x.q z.p z.q z.some x.l w.l u n x.v w.v v-bears

    pub js-again : (r i j : ℕ) → r < x.n → i < x.p → j < x.p → T (fits binary64 (scale u (at floats (get_or x.js r []) i j)))
    js-again r i j h = matrix-again x.p x.q z.p z.q z.some x.l w.l u n (get_or x.js r []) (w.js r h) (j-bears r h) i j
