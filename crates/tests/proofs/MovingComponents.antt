-- The steps of a Satterthwaite test on marked matrices that a second run has scaled: V and the eigenvalues by 2 ^ 2k, each J by a power of its own, LβD and x·LβD by 2 ^ k; eigenvectors and F stay.
use Prim.Native.Nat.{ℕ, ◌≤◌, ◌<◌}
use native.Mathlib.Omega.{arith}
use mathlib.Core.Path.{◌≡◌}
use mathlib.Core.Bool.{false, not, ◌||◌}
use mathlib.Core.List.{List, []}
use lib.IntN.{ℤ, pos, nat_abs, ◌+ℤ◌, +ℤ_idl, +ℤ_idr}
use lib.ListN.{get_or, replicate, length-replicate}
use lib.Ieee.{Float, nan}
use Rattle.arithmetic.specs.declared.Marked.{Marked}
use Rattle.arithmetic.specs.Numbers.{plus_zero, of_count}
use Rattle.arithmetic.specs.Marks.{given, marked_mul, marked_div, marked_root}
use Rattle.arithmetic.proofs.Tied.{Tied}
use Rattle.arithmetic.proofs.PlainLaws.{count_fits}
use Rattle.arithmetic.proofs.MarkLaws.{Bears, Moves, given-moves, mul-moves, root-moves}
use Rattle.algebra.specs.Fold.{fold, span}
use Rattle.algebra.specs.Table.{row, blank}
use Rattle.algebra.specs.Kind.{floats, marks}
use Rattle.algebra.specs.Product.{at, sum, cell, product, transpose}
use Rattle.algebra.proofs.FoldLaws.{fold-ext, span-at}
use Rattle.algebra.proofs.TableLaws.{row_at}
use Rattle.algebra.proofs.MovingCells.{BearsCells, MovesCells, first-bears, step-bears, moves-by, constant-moves, still-times, alike-over, table-moves}
use Rattle.algebra.proofs.MovingProducts.{sum-moves, cell-moves, product-moves, transpose-moves, minus_cells-moves}
use Rattle.algebra.specs.Small.{MarkedRows, Rows, given_cells, all_marks}
use Rattle.arithmetic_cutoffs.specs.declared.Cutoffs.{Cutoffs}
use Rattle.tests.specs.Answer.{float_of}
use Rattle.tests.specs.Order.{index_at}
use Rattle.tests.specs.VarianceDf.{entry_at, variance_df, gradient_seen}
use Rattle.tests.specs.Both.{is_positive, square_one, stack_seen}
use Rattle.tests.specs.Satterthwaite.{column, contrast_of, transformed, transformed_all, gradient_one, eigenvalues, not_positive, variances_of, directions_of, projected, squares_over, jx_all, gradient_at, capped, component_df, component_dfs, components_seen}
use Rattle.algebra_products.proofs.MovingSmall.{cells-by, given-cells, sandwich-moves, all_marks-first}
use Rattle.tests.proofs.MovingVariance.{positive-agrees, row-moves, gradient-first, variance_df-agrees}
use Rattle.tests.proofs.MovingOrder.{index_below, index_at-agrees}

-- the first n matrices of a stack move, matrix i by its own shift u i
pub record MovesStack (t : ℕ) (u : ℕ → ℤ) (n r c : ℕ) (ms ms' : List MarkedRows) : Type 0 where
  pub matrix : (i : ℕ) → i < n → MovesCells t (u i) r c (get_or ms i []) (get_or ms' i [])

module _ {t : ℕ} where
  stack-moves : (u : ℕ → ℤ) (n r c : ℕ) → n ≤ 4 → (f f' : ℕ → MarkedRows) → ((i : ℕ) → i < n → MovesCells t (u i) r c (f i) (f' i))
      → MovesStack t u n r c (span 0 n f (replicate 4 (blank (given plus_zero) 6 6))) (span 0 n f' (replicate 4 (blank (given plus_zero) 6 6)))
  stack-moves u n r c h f f' p = record {
    matrix = λ i l.
        rw (
          span-at 0 n f (replicate 4 (blank (given plus_zero) 6 6)) i [] (omega arith) l (omega (arith, length-replicate 4 (blank (given plus_zero) 6 6))),
          span-at 0 n f' (replicate 4 (blank (given plus_zero) 6 6)) i [] (omega arith) l (omega (arith, length-replicate 4 (blank (given plus_zero) 6 6))),
        ) (p i l);
  }

  -- ---- LβD, V and the Js
  column-moves : (p : ℕ) → p ≤ 6 → (u : ℤ) (b b' : List Float) → ((i : ℕ) → i < p → Tied u (get_or b i nan) (get_or b' i nan)) → MovesCells t u p 1 (column marks p b) (column marks p b')
  unfolding column
  column-moves p h u b b' f =
      table-moves u 6 6 p 1 (λ i j. given (get_or b i nan)) (λ i j. given (get_or b' i nan)) h (omega arith) (λ i j l m. given-moves u (get_or b i nan) (get_or b' i nan) (f i l))

  module _ (p q : ℕ) (hp : p ≤ 6) (hq : q ≤ 6) (l l' : MarkedRows) (pl : MovesCells t (pos 0) q p l l') where
    pub contrast_of-moves : (k : ℤ) → nat_abs k ≤ t → (b h b' h' : List Float) → ((i : ℕ) → i < p → Tied k (get_or b i nan) (get_or b' i nan))
        → ((i : ℕ) → i < p → Tied k (get_or h i nan) (get_or h' i nan)) → MovesCells t k q 1 (contrast_of marks p q l b h) (contrast_of marks p q l' b' h')
    unfolding contrast_of
    contrast_of-moves k m b h b' h' pb ph =
        minus_cells-moves 6 6 q 1 hq (omega arith) k m (product marks 6 6 q p 1 l (column marks p b)) (product marks 6 6 q p 1 l (column marks p h)) (product marks 6 6 q p 1 l' (column marks p b'))
        (product marks 6 6 q p 1 l' (column marks p h')) (applied b b' pb) (applied h h' ph)
      where
        applied : (b b' : List Float) → ((i : ℕ) → i < p → Tied k (get_or b i nan) (get_or b' i nan))
            → MovesCells t k q 1 (product marks 6 6 q p 1 l (column marks p b)) (product marks 6 6 q p 1 l' (column marks p b'))
        applied b b' f =
            cells-by (+ℤ_idl k) (product-moves 6 6 q 1 hq (omega arith) (pos 0) k (rw +ℤ_idl m) p l (column marks p b) l' (column marks p b') pl (column-moves p hp k b b' f))

    pub transformed-moves : (u : ℤ) → nat_abs u ≤ t → (m m' : Rows) → ((i j : ℕ) → i < p → j < p → Tied u (at floats m i j) (at floats m' i j))
        → MovesCells t u q q (transformed marks p q l m) (transformed marks p q l' m')
    unfolding transformed
    transformed-moves u h m m' f =
        sandwich-moves 6 6 q p hq hq hp hp u h l (given_cells marks 6 6 p p m) l' (given_cells marks 6 6 p p m') pl (given-cells 6 6 p p hp hp u m m' f)

    pub transformed_all-moves : (u : ℕ → ℤ) (n : ℕ) → ((r : ℕ) → r < n → nat_abs (u r) ≤ t) → n ≤ 4 → (js js' : List Rows)
        → ((r i j : ℕ) → r < n → i < p → j < p → Tied (u r) (at floats (get_or js r []) i j) (at floats (get_or js' r []) i j))
        → MovesStack t u n q q (transformed_all marks n p q l js) (transformed_all marks n p q l' js')
    unfolding transformed_all
    transformed_all-moves u n h hn js js' f =
        stack-moves u n q q hn (λ i. transformed marks p q l (get_or js i [])) (λ i. transformed marks p q l' (get_or js' i []))
        (λ r o. transformed-moves (u r) (h r o) (get_or js r []) (get_or js' r []) (λ i j x y. f r i j o x y))

  -- ---- one row
  pub square_one-moves : (k : ℤ) (ld v ld' v' : Marked) → Moves t k ld ld' → Moves t (k +ℤ k) v v' → Moves t (pos 0) (square_one marks ld v) (square_one marks ld' v')
  unfolding square_one
  square_one-moves k ld v ld' v' p q =
      let x : Marked = marked_div ld (marked_root v) in
      let x' : Marked = marked_div ld' (marked_root v') in
      let f : Moves t (pos 0) x x' = alike-over k ld (marked_root v) ld' (marked_root v') p (root-moves k v v' q) in
      still-times (pos 0) (omega arith) x x x' x' f f

  pub gradient_one-moves : (u : ℕ → ℤ) (n q : ℕ) → n ≤ 4 → 0 < q → (js js' : List MarkedRows) → MovesStack t u n q q js js'
      → (i : ℕ) → i < n → Moves t (u i) (entry_at marks (gradient_one marks n js) i) (entry_at marks (gradient_one marks n js') i)
  unfolding gradient_one
  gradient_one-moves u n q h o js js' f =
      row-moves 6 n (omega arith) u (λ i. at marks (get_or js i []) 0 0) (λ i. at marks (get_or js' i []) 0 0) (λ i l. (f.matrix i l).cell 0 0 o o)

  -- ---- several rows: the eigenvalues d, the eigenvectors v
  module _ (w : ℤ) (q : ℕ) (hq : q ≤ 6) (o : 0 < q) (d d' : MarkedRows) (pd : MovesCells t w q q d d') (bd : BearsCells t q q d) where
    pub eigenvalues-tied : (i : ℕ) → i < q → Tied w (get_or (eigenvalues marks q d) i nan) (get_or (eigenvalues marks q d') i nan)
    unfolding eigenvalues
    eigenvalues-tied i l =
        rw (row_at plus_zero 6 q (λ i. (at marks d i i).value) i nan l hq, row_at plus_zero 6 q (λ i. (at marks d' i i).value) i nan l hq)
        (pd.cell i i l l (bd.cell i i l l))

    place-agrees : (k : ℕ) → index_at q (eigenvalues marks q d') k ≡ index_at q (eigenvalues marks q d) k
    place-agrees k = index_at-agrees q w (eigenvalues marks q d) (eigenvalues marks q d') eigenvalues-tied k

    -- refusal 11 holds of both or of none
    pub not_positive-agrees : not_positive q (eigenvalues marks q d') ≡ not_positive q (eigenvalues marks q d)
    unfolding not_positive
    not_positive-agrees =
        fold-ext 0 q (λ i s. s || not (is_positive (get_or (eigenvalues marks q d') i nan))) (λ i s. s || not (is_positive (get_or (eigenvalues marks q d) i nan))) false
        (λ i h l b. rw (positive-agrees w (get_or (eigenvalues marks q d) i nan) (get_or (eigenvalues marks q d') i nan) (eigenvalues-tied i l)))

    pub variances_of-moves : (k : ℕ) → k < q → Moves t w (entry_at marks (variances_of marks q (eigenvalues marks q d) d) k) (entry_at marks (variances_of marks q (eigenvalues marks q d') d') k)
    unfolding variances_of
    variances_of-moves =
        row-moves 6 q hq (λ k. w) (λ k. at marks d (index_at q (eigenvalues marks q d) k) (index_at q (eigenvalues marks q d) k))
        (λ k. at marks d' (index_at q (eigenvalues marks q d') k) (index_at q (eigenvalues marks q d') k))
        (λ k l.
        let i : index_at q (eigenvalues marks q d) k < q = index_below q (eigenvalues marks q d) k o in
        rw (place-agrees k) (pd.cell (index_at q (eigenvalues marks q d) k) (index_at q (eigenvalues marks q d) k) i i))

    pub variances_of-bear : (k : ℕ) → k < q → Bears t (entry_at marks (variances_of marks q (eigenvalues marks q d) d) k)
    unfolding variances_of
    variances_of-bear k l =
        let i : index_at q (eigenvalues marks q d) k < q = index_below q (eigenvalues marks q d) k o in
        rw (row_at (given plus_zero) 6 q (λ k. at marks d (index_at q (eigenvalues marks q d) k) (index_at q (eigenvalues marks q d) k)) k marks.void l hq)
        (bd.cell (index_at q (eigenvalues marks q d) k) (index_at q (eigenvalues marks q d) k) i i)

    pub directions_of-moves : (v v' : MarkedRows) → MovesCells t (pos 0) q q v v' → MovesCells t (pos 0) q q (directions_of marks q (eigenvalues marks q d) v) (directions_of marks q (eigenvalues marks q d') v')
    unfolding directions_of
    directions_of-moves v v' f =
        table-moves (pos 0) 6 6 q q (λ r k. at marks v r (index_at q (eigenvalues marks q d) k)) (λ r k. at marks v' r (index_at q (eigenvalues marks q d') k)) hq hq
        (λ r k l m. rw (place-agrees k) (f.cell r (index_at q (eigenvalues marks q d) k) l (index_below q (eigenvalues marks q d) k o)))

  module _ (q : ℕ) (hq : q ≤ 6) (x x' : MarkedRows) (px : MovesCells t (pos 0) q q x x') where
    turned-x : MovesCells t (pos 0) q q (transpose marks 6 6 q q x) (transpose marks 6 6 q q x')
    turned-x = transpose-moves 6 6 q q hq hq (pos 0) x x' px

    -- x·LβD
    pub projected-moves : (k : ℤ) → nat_abs k ≤ t → (ld ld' : MarkedRows) → MovesCells t k q 1 ld ld' → MovesCells t k q 1 (projected marks q x ld) (projected marks q x' ld')
    unfolding projected
    projected-moves k m ld ld' f =
        cells-by (+ℤ_idl k)
        (product-moves 6 6 q 1 hq (omega arith) (pos 0) k (rw +ℤ_idl m) q (transpose marks 6 6 q q x) ld (transpose marks 6 6 q q x') ld' turned-x f)

    -- Jx, and x·(Jx)
    pub turned_all-moves : (u : ℕ → ℤ) (n : ℕ) → ((i : ℕ) → i < n → nat_abs (u i) ≤ t) → n ≤ 4 → (js js' : List MarkedRows) → MovesStack t u n q q js js'
        → MovesStack t u n q q (jx_all marks n q js x) (jx_all marks n q js' x')
    unfolding jx_all
    turned_all-moves u n m h js js' f =
        stack-moves u n q q h (λ i. product marks 6 6 q q q (get_or js i []) x) (λ i. product marks 6 6 q q q (get_or js' i []) x')
        (λ i l. cells-by (+ℤ_idr (u i)) (product-moves 6 6 q q hq hq (u i) (pos 0) (rw +ℤ_idr (m i l)) q (get_or js i []) x (get_or js' i []) x' (f.matrix i l) px))

    pub gradient_at-moves : (u : ℕ → ℤ) (n : ℕ) → ((i : ℕ) → i < n → nat_abs (u i) ≤ t) → n ≤ 4 → (jx jx' : List MarkedRows) → MovesStack t u n q q jx jx' → (k : ℕ) → k < q
        → (i : ℕ) → i < n → Moves t (u i) (entry_at marks (gradient_at marks n q x jx k) i) (entry_at marks (gradient_at marks n q x' jx' k) i)
    unfolding gradient_at
    gradient_at-moves u n m h jx jx' f k l =
        row-moves 6 n (omega arith) u (λ i. cell marks q (transpose marks 6 6 q q x) (get_or jx i []) k k) (λ i. cell marks q (transpose marks 6 6 q q x') (get_or jx' i []) k k)
        (λ i j. moves-by (cell marks q (transpose marks 6 6 q q x) (get_or jx i []) k k) (cell marks q (transpose marks 6 6 q q x') (get_or jx' i []) k k) (+ℤ_idl (u i))
        (cell-moves (pos 0) (u i) (rw +ℤ_idl (m i j)) q q q (transpose marks 6 6 q q x) (get_or jx i []) (transpose marks 6 6 q q x') (get_or jx' i []) turned-x (f.matrix i j) k k l l))

  -- F
  pub squares_over-moves : (k : ℤ) → nat_abs (k +ℤ k) ≤ t → (q : ℕ) (y y' : MarkedRows) (es es' : List Marked) → MovesCells t k q 1 y y'
      → ((i : ℕ) → i < q → Moves t (k +ℤ k) (entry_at marks es i) (entry_at marks es' i)) → Moves t (pos 0) (squares_over marks q y es) (squares_over marks q y' es')
  unfolding squares_over
  squares_over-moves k m q y y' es es' f g =
      alike-over (pos 0) (sum marks q (term y es)) (given (of_count q)) (sum marks q (term y' es')) (given (of_count q))
      (sum-moves (pos 0) (omega arith) q (term y es) (term y' es')
      (λ i l. alike-over (k +ℤ k) (marked_mul (at marks y i 0) (at marks y i 0)) (entry_at marks es i) (marked_mul (at marks y' i 0) (at marks y' i 0)) (entry_at marks es' i)
      (mul-moves k k m (at marks y i 0) (at marks y i 0) (at marks y' i 0) (at marks y' i 0) (f.cell i 0 l (omega arith)) (f.cell i 0 l (omega arith))) (g i l)))
      (constant-moves (of_count q) (count_fits q))
    where
      term : MarkedRows → List Marked → ℕ → Marked
      term y es k = marked_div (marked_mul (at marks y k 0) (at marks y k 0)) (entry_at marks es k)

  -- ---- marks that are counted matrix by matrix, and component by component
  pub stack-first : (n q : ℕ) (ms : List MarkedRows) (seen : Marked) → Bears t (stack_seen marks n q ms seen) → Bears t seen
  unfolding stack_seen
  stack-first n q ms seen b = first-bears 0 n (λ i s. all_marks marks q q (get_or ms i []) s) seen (λ i s y. all_marks-first q q (get_or ms i []) s y) b

  module _ (n q : ℕ) (h : n ≤ 6) (es : List Marked) (x : MarkedRows) (jx : List MarkedRows) (seen : Marked) (b : Bears t (components_seen marks n q es x jx seen)) where
    abbrev step : ℕ → Marked → Marked
    step k s = gradient_seen marks n (entry_at marks es k) (gradient_at marks n q x jx k) s

    pub components-first : Bears t seen
    unfolding components_seen
    components-first = first-bears 0 q step seen (λ k s y. gradient-first n h (entry_at marks es k) (gradient_at marks n q x jx k) s y) b

    pub components-each : (k : ℕ) → k < q → Bears t (gradient_seen marks n (entry_at marks es k) (gradient_at marks n q x jx k) (fold 0 k step seen))
    unfolding components_seen
    components-each k l = step-bears 0 q step seen (λ k s y. gradient-first n h (entry_at marks es k) (gradient_at marks n q x jx k) s y) b k (omega arith) l

    -- the components' degrees of freedom are the same
    pub component_dfs-agree : (w : ℤ) (c : Cutoffs) (a a' : Rows) (es' : List Marked) (x' : MarkedRows) (jx' : List MarkedRows)
        → ((j k : ℕ) → j < n → k < n → at floats a' j k ≡ at floats a j k)
        → ((k : ℕ) → k < q → Moves t w (entry_at marks es k) (entry_at marks es' k)) → ((k : ℕ) → k < q → Bears t (entry_at marks es k))
        → ((k : ℕ) → k < q → (i : ℕ) → i < n → Moves t w (entry_at marks (gradient_at marks n q x jx k) i) (entry_at marks (gradient_at marks n q x' jx' k) i))
        → component_dfs marks c n q a' es' x' jx' ≡ component_dfs marks c n q a es x jx
    unfolding component_dfs component_df row
    component_dfs-agree w c a a' es' x' jx' d pe be pg =
        fold-ext 0 q (λ k ys. lib.ListN.set ys k (float_of (capped c (variance_df marks n a' (entry_at marks es' k) (gradient_at marks n q x' jx' k)))))
        (λ k ys. lib.ListN.set ys k (float_of (capped c (variance_df marks n a (entry_at marks es k) (gradient_at marks n q x jx k))))) (replicate 6 plus_zero)
        (λ k i l ys. rw (variance_df-agrees n h w (entry_at marks es k) (entry_at marks es' k) (gradient_at marks n q x jx k) (gradient_at marks n q x' jx' k) (pe k l) (pg k l) a a' (fold 0 k step seen) d (be k l) (components-each k l)))
