-- The Satterthwaite test on two kinds of number that are related (`Alike`): refused alike, with the same F, df and rank, and marks that are related as the numbers are.
use Prim.Native.Nat.{ℕ}
use mathlib.Core.Path.{◌≡◌, refl, ap}
use mathlib.Core.Bool.{Bool}
use mathlib.Core.List.{List, []}
use lib.Dec.{eqb}
use lib.ListN.{get_or, replicate, set}
use lib.Ieee.{Float, nan}
use Rattle.arithmetic.specs.Numbers.{plus_zero, of_count}
use Rattle.algebra.specs.Table.{row}
use Rattle.algebra.specs.Kind.{Arith, zero_of}
use Rattle.algebra.specs.Small.{Rows}
use Rattle.algebra.proofs.FoldLaws.{fold-both, fold-ext}
use Rattle.algebra.proofs.ValueLaws.{cond_both, row-both, table-both, Alike, Like, LikeRow, States, sum_alike, cell-alike, product-alike, transpose-alike, minus_cells-alike, jacobi-alike, sandwich-alike, given_cells-alike, all_marks-alike}
use Rattle.arithmetic_cutoffs.specs.declared.Cutoffs.{Cutoffs}
use Rattle.tests.specs.Answer.{number_of, float_of}
use Rattle.tests.specs.Order.{index_at}
use Rattle.tests.specs.Both.{is_positive}
use Rattle.tests.specs.VarianceDf.{relative_gradient, variance_df, gradient_seen}
use Rattle.tests.specs.declared.Tested.{Tested}
use Rattle.tests.specs.Satterthwaite.{Inputs, column, contrast_of, transformed, transformed_all, gradient_one, eigenvalues, not_positive, variances_of, directions_of, projected, squares_over, jx_all, gradient_at, capped, component_df, component_dfs, several_df, components_seen, l_rows, ld_rows, v_rows, j_stack, rotated_v, variances, directions, jx_stack, f_one, f_several, df_one, df_several, start_seen, seen_one, seen_several, one_row, several_rows, satterthwaite}
use Rattle.tests.proofs.VarianceLaws.{gradient_values-agree}
use Rattle.tests.proofs.TestsAlike.{EntriesAlike, Stacks, stack-alike, square_one-alike, stack_seen-alike}

-- two tests: both refused or neither, and their entries
pub record OutcomesAlike (Q : Bool → Bool → Type 0) (t t' : Tested) : Type 0 where
  pub refused : t.refused ≡ t'.refused
  pub entry : EntriesAlike Q t.entry t'.entry

module _ {A B : Type 0} {R : A → B → Type 0} {N : Arith A} {M : Arith B} (k : Alike R N M) where
  -- ---- the degrees of freedom of a variance
  pub relative_gradient-alike : {v : A} {v' : B} {g : List A} {g' : List B} (n : ℕ) → R v v' → LikeRow k g g'
      → LikeRow k (relative_gradient N n v g) (relative_gradient M n v' g')
  unfolding relative_gradient
  relative_gradient-alike n p q = row-both 6 n (zero_of N) (zero_of M) _ _ k.void (k.of plus_zero) (λ i h. k.over (q.each i) p)

  pub variance_df-alike : {v : A} {v' : B} {g : List A} {g' : List B} (n : ℕ) (a : Rows) → R v v' → LikeRow k g g' → variance_df N n a v g ≡ variance_df M n a v' g'
  unfolding variance_df
  variance_df-alike {v} {v'} {g} {g'} n a p q =
      rw (k.value p, gradient_values-agree N M n (relative_gradient N n v g) (relative_gradient M n v' g') (λ i h. k.value ((relative_gradient-alike n p q).each i)))

  pub gradient_seen-alike : {v x : A} {v' y : B} {g : List A} {g' : List B} (n : ℕ) → R v v' → LikeRow k g g' → R x y
      → R (gradient_seen N n v g x) (gradient_seen M n v' g' y)
  unfolding gradient_seen
  gradient_seen-alike n p q e =
      cond_both R _ _ _ _ _ _ (ap is_positive (k.value p)) (fold-both R 0 n _ _ _ _ e (λ i h l x y f. k.also f ((relative_gradient-alike n p q).each i))) e

  -- ---- the parts of a test
  column-alike : (p : ℕ) (b : List Float) → Like k (column N p b) (column M p b)
  unfolding column
  column-alike p b = table-both 6 6 p 1 (zero_of N) (zero_of M) _ _ k.void (k.of plus_zero) (λ i j h l. k.of (get_or b i nan))

  contrast_of-alike : {l : List (List A)} {l' : List (List B)} (p q : ℕ) (beta beta_h : List Float) → Like k l l'
      → Like k (contrast_of N p q l beta beta_h) (contrast_of M p q l' beta beta_h)
  unfolding contrast_of
  contrast_of-alike p q beta beta_h e = minus_cells-alike k 6 6 q 1 (product-alike k 6 6 q p 1 e (column-alike p beta)) (product-alike k 6 6 q p 1 e (column-alike p beta_h))

  transformed-alike : {l : List (List A)} {l' : List (List B)} (p q : ℕ) (m : Rows) → Like k l l' → Like k (transformed N p q l m) (transformed M p q l' m)
  unfolding transformed
  transformed-alike p q m e = sandwich-alike k 6 6 q p e (given_cells-alike k 6 6 p p m)

  gradient_one-alike : {js : List (List (List A))} {js' : List (List (List B))} (n : ℕ) → Stacks k js js' → LikeRow k (gradient_one N n js) (gradient_one M n js')
  unfolding gradient_one
  gradient_one-alike n e = row-both 6 n (zero_of N) (zero_of M) _ _ k.void (k.of plus_zero) (λ i h. ((e.each i).each 0).each 0)

  eigenvalues-alike : {d : List (List A)} {d' : List (List B)} (q : ℕ) → Like k d d' → eigenvalues N q d ≡ eigenvalues M q d'
  unfolding eigenvalues row
  eigenvalues-alike q e = fold-ext 0 q _ _ (replicate 6 plus_zero) (λ i h l ys. ap (set ys i) (k.value ((e.each i).each i)))

  variances_of-alike : {d : List (List A)} {d' : List (List B)} (q : ℕ) (es : List Float) → Like k d d' → LikeRow k (variances_of N q es d) (variances_of M q es d')
  unfolding variances_of
  variances_of-alike q es e = row-both 6 q (zero_of N) (zero_of M) _ _ k.void (k.of plus_zero) (λ i h. (e.each (index_at q es i)).each (index_at q es i))

  directions_of-alike : {v : List (List A)} {v' : List (List B)} (q : ℕ) (es : List Float) → Like k v v' → Like k (directions_of N q es v) (directions_of M q es v')
  unfolding directions_of
  directions_of-alike q es e = table-both 6 6 q q (zero_of N) (zero_of M) _ _ k.void (k.of plus_zero) (λ i j h l. (e.each i).each (index_at q es j))

  squares_over-alike : {y : List (List A)} {y' : List (List B)} {es : List A} {es' : List B} (q : ℕ) → Like k y y' → LikeRow k es es'
      → R (squares_over N q y es) (squares_over M q y' es')
  unfolding squares_over
  squares_over-alike q e f =
      k.over (sum_alike k q _ _ (λ i h. k.over (k.times ((e.each i).each 0) ((e.each i).each 0)) (f.each i))) (k.of (of_count q))

  gradient_at-alike : {x : List (List A)} {x' : List (List B)} {jx : List (List (List A))} {jx' : List (List (List B))} (n q : ℕ) → Like k x x' → Stacks k jx jx'
      → (i : ℕ) → LikeRow k (gradient_at N n q x jx i) (gradient_at M n q x' jx' i)
  unfolding gradient_at
  gradient_at-alike n q e f i =
      row-both 6 n (zero_of N) (zero_of M) _ _ k.void (k.of plus_zero) (λ j h. cell-alike k q i i (transpose-alike k 6 6 q q e) (f.each j))

  component_dfs-alike : {es : List A} {es' : List B} {x : List (List A)} {x' : List (List B)} {jx : List (List (List A))} {jx' : List (List (List B))} (c : Cutoffs) (n q : ℕ)
      (a : Rows) → LikeRow k es es' → Like k x x' → Stacks k jx jx' → component_dfs N c n q a es x jx ≡ component_dfs M c n q a es' x' jx'
  unfolding component_dfs component_df row
  component_dfs-alike c n q a d e f =
      fold-ext 0 q _ _ (replicate 6 plus_zero) (λ i h l ys. ap (λ z. set ys i (float_of (capped c z))) (variance_df-alike n a (d.each i) (gradient_at-alike n q e f i)))

  components_seen-alike : {es : List A} {es' : List B} {x : List (List A)} {x' : List (List B)} {jx : List (List (List A))} {jx' : List (List (List B))} {z : A} {z' : B} (n q : ℕ)
      → LikeRow k es es' → Like k x x' → Stacks k jx jx' → R z z' → R (components_seen N n q es x jx z) (components_seen M n q es' x' jx' z')
  unfolding components_seen
  components_seen-alike n q d e f g = fold-both R 0 q _ _ _ _ g (λ i h l u v r. gradient_seen-alike n (d.each i) (gradient_at-alike n q e f i) r)

  -- ---- a test, whole
  module _ (c : Cutoffs) (s : Inputs) where
    l-alike : Like k (l_rows N c s) (l_rows M c s)
    l-alike = given_cells-alike k 6 6 s.q s.p s.l

    ld-alike : Like k (ld_rows N c s) (ld_rows M c s)
    unfolding ld_rows
    ld-alike = contrast_of-alike s.p s.q s.beta s.beta_h l-alike

    v-alike : Like k (v_rows N c s) (v_rows M c s)
    unfolding v_rows
    v-alike = transformed-alike s.p s.q s.v l-alike

    j-alike : Stacks k (j_stack N c s) (j_stack M c s)
    unfolding j_stack transformed_all
    j-alike = stack-alike k s.n _ _ (λ i h. transformed-alike s.p s.q (get_or s.js i []) l-alike)

    rotated-alike : States k (rotated_v N c s) (rotated_v M c s)
    unfolding rotated_v
    rotated-alike = jacobi-alike k c.rotation 6 6 s.q v-alike

    eigen-alike : eigenvalues N s.q (rotated_v N c s).a ≡ eigenvalues M s.q (rotated_v M c s).a
    eigen-alike = eigenvalues-alike s.q rotated-alike.a

    variances-alike : LikeRow k (variances N c s) (variances M c s)
    unfolding variances
    variances-alike = rw eigen-alike (variances_of-alike s.q (eigenvalues M s.q (rotated_v M c s).a) rotated-alike.a)

    directions-alike : Like k (directions N c s) (directions M c s)
    unfolding directions
    directions-alike = rw eigen-alike (directions_of-alike s.q (eigenvalues M s.q (rotated_v M c s).a) rotated-alike.v)

    jx-alike : Stacks k (jx_stack N c s) (jx_stack M c s)
    unfolding jx_stack jx_all
    jx-alike = stack-alike k s.n _ _ (λ i h. product-alike k 6 6 s.q s.q s.q (j-alike.each i) directions-alike)

    f_one-alike : R (f_one N c s) (f_one M c s)
    unfolding f_one
    f_one-alike = square_one-alike k ((ld-alike.each 0).each 0) ((v-alike.each 0).each 0)

    f_several-alike : R (f_several N c s) (f_several M c s)
    unfolding f_several projected
    f_several-alike =
        squares_over-alike s.q (product-alike k 6 6 s.q s.q 1 (transpose-alike k 6 6 s.q s.q directions-alike) ld-alike) variances-alike

    start_seen-alike : R (start_seen N c s) (start_seen M c s)
    unfolding start_seen
    start_seen-alike = stack_seen-alike k s.n s.q j-alike (all_marks-alike k s.q s.q v-alike (all_marks-alike k s.q 1 ld-alike (k.of plus_zero)))

    pub seen_one-alike : R (seen_one N c s) (seen_one M c s)
    unfolding seen_one
    seen_one-alike = gradient_seen-alike s.n ((v-alike.each 0).each 0) (gradient_one-alike s.n j-alike) (k.also start_seen-alike f_one-alike)

    pub seen_several-alike : R (seen_several N c s) (seen_several M c s)
    unfolding seen_several
    seen_several-alike =
        let e = k.also (all_marks-alike k s.q s.q rotated-alike.v (all_marks-alike k s.q s.q rotated-alike.a start_seen-alike)) rotated-alike.seen in
        components_seen-alike s.n s.q variances-alike directions-alike jx-alike (k.also e f_several-alike)

    module _ (Q : Bool → Bool → Type 0) (shows : (a : A) (b : B) → R a b → Q (N.inside a) (M.inside b)) where
      one_row-alike : OutcomesAlike Q (one_row N c s) (one_row M c s)
      unfolding one_row df_one
      one_row-alike = record {
        refused = refl;
        entry = record {
          f = ap number_of (k.value f_one-alike);
          df = variance_df-alike s.n s.a ((v-alike.each 0).each 0) (gradient_one-alike s.n j-alike);
          rank = refl;
          inside = shows _ _ seen_one-alike;
        };
      }

      several_rows-alike : OutcomesAlike Q (several_rows N c s) (several_rows M c s)
      unfolding several_rows df_several
      several_rows-alike = record {
        refused = ap (not_positive s.q) eigen-alike;
        entry = record {
          f = ap number_of (k.value f_several-alike);
          df = ap (several_df s.q) (component_dfs-alike c s.n s.q s.a variances-alike directions-alike jx-alike);
          rank = refl;
          inside = shows _ _ seen_several-alike;
        };
      }

      -- A SATTERTHWAITE TEST on two kinds of number: refused alike, with the same F, df and rank
      pub satterthwaite-alike : OutcomesAlike Q (satterthwaite N c s) (satterthwaite M c s)
      unfolding satterthwaite
      satterthwaite-alike = cond_both (λ t t'. OutcomesAlike Q t t') (eqb s.q 1) (eqb s.q 1) _ _ _ _ refl one_row-alike several_rows-alike
