-- The Kenward–Roger test and the run, on two kinds of number that are related (`Alike`): refused alike, with the same F, df and rank, and marks that are related as the numbers are.
-- What Q says of two marks is what related numbers show (`shows`): nothing, where the second kind has no marks (PlainTests); that they are equal, where both kinds show the same.
use Prim.Native.Nat.{ℕ, ◌<◌}
use mathlib.Core.Path.{◌≡◌, refl, sym, ap, subst, subst₂}
use mathlib.Core.Bool.{Bool, false}
use mathlib.Core.List.{List, []}
use lib.Dec.{eqb}
use lib.ListN.{get_or, replicate, set}
use lib.Ieee.{Float, nan, lt}
use Rattle.arithmetic.specs.Numbers.{plus_zero}
use Rattle.algebra.specs.Fold.{span}
use Rattle.algebra.specs.Table.{blank}
use Rattle.algebra.specs.Kind.{Arith, zero_of, floats}
use Rattle.algebra.specs.Product.{at}
use Rattle.algebra.specs.Small.{Rows, given_cells, values}
use Rattle.algebra.proofs.FoldLaws.{fold-both, fold-ext}
use Rattle.algebra.proofs.ValueLaws.{cond_both, Each, each_set, each_none, each-replicate, each-span, blank-both, table-both, Alike, Like, sum_alike, product-alike, transpose-alike, refused-alike, solution-alike, sandwich-alike, given_cells-alike, values-alike, all_marks-alike}
use Rattle.arithmetic_cutoffs.specs.declared.Cutoffs.{Cutoffs}
use Rattle.adjustment.specs.Adjusted.{Adjustment}
use Rattle.adjustment.proofs.AlikeScaling.{scaled_up-alike, scaled_down-alike}
use Rattle.tests.specs.declared.Entry.{Entry}
use Rattle.tests.specs.Answer.{no_entry}
use Rattle.tests.specs.Both.{is_positive, square_one, stack_seen}
use Rattle.tests.specs.declared.Basis.{Basis}
use Rattle.tests.specs.Basis.{largest, divided_cell, divided, contrast_basis}
use Rattle.tests.specs.declared.Tested.{Tested}
use Rattle.tests.specs.declared.Run.{Run}
use Rattle.tests.specs.KenwardRoger.{Scaled, scaled_ps, scaled_by, scaling_seen, difference, theta_of, u_of, u_stack, u_values, wald_many, a_rows, x_rows, theta_phi, us, a1, a2, ld_rows, v_rows, y_rows, wald_marked, wald_number, test_seen, tested, unit_row, coefficient_test, contrast_test, with_test, coefficients_to, run_of}

-- two entries: the same F, df and rank, and marks that Q relates
pub record EntriesAlike (Q : Bool → Bool → Type 0) (e e' : Entry) : Type 0 where
  pub f : e.f ≡ e'.f
  pub df : e.df ≡ e'.df
  pub rank : e.rank ≡ e'.rank
  pub inside : Q e.inside e'.inside

-- two tests, and two runs, entry for entry: both refused or neither
pub record TestsAlike (Q : Bool → Bool → Type 0) (t t' : Tested) : Type 0 where
  pub refused : t.refused ≡ t'.refused
  pub entry : EntriesAlike Q t.entry t'.entry

pub record RunsAlike (Q : Bool → Bool → Type 0) (r r' : Run) : Type 0 where
  pub refused : r.refused ≡ r'.refused
  pub entries : Each (λ x y. EntriesAlike Q x y) no_entry no_entry r.entries r'.entries

module _ {A B : Type 0} {R : A → B → Type 0} {N : Arith A} {M : Arith B} (k : Alike R N M) where
  -- ---- what both tests take
  -- several matrices with related cells
  abbrev pub Stacks : List (List (List A)) → List (List (List B)) → Type 0
  Stacks = Each (λ x y. Like k x y) [] []

  pub stack-alike : (n : ℕ) (f : ℕ → List (List A)) (g : ℕ → List (List B)) → ((i : ℕ) → i < n → Like k (f i) (g i))
      → Stacks (span 0 n f (replicate 4 (blank (zero_of N) 6 6))) (span 0 n g (replicate 4 (blank (zero_of M) 6 6)))
  stack-alike n f g s =
      each-span 0 n f g
      (each-replicate 4 (blank (zero_of N) 6 6) (blank (zero_of M) 6 6) (each_none (each_none k.void)) (blank-both 6 6 (zero_of N) (zero_of M) k.void (k.of plus_zero)))
      (λ i h l. s i l)

  pub square_one-alike : {x v : A} {x' v' : B} → R x x' → R v v' → R (square_one N x v) (square_one M x' v')
  unfolding square_one
  square_one-alike p q = let t = k.over p (k.root q) in k.times t t

  pub stack_seen-alike : {ms : List (List (List A))} {ms' : List (List (List B))} {x : A} {y : B} (n r : ℕ) → Stacks ms ms' → R x y
      → R (stack_seen N n r ms x) (stack_seen M n r ms' y)
  unfolding stack_seen
  stack_seen-alike n r p e = fold-both R 0 n _ _ _ _ e (λ i h l x y q. all_marks-alike k r r (p.each i) q)

  -- ---- the basis of a contrast
  pub divided_cell-alike : (p : ℕ) (l : Rows) (i j : ℕ) → R (divided_cell N p l i j) (divided_cell M p l i j)
  unfolding divided_cell
  divided_cell-alike p l i j =
      cond_both R (lt plus_zero (largest p (get_or l i []))) (lt plus_zero (largest p (get_or l i []))) _ _ _ _ refl
      (k.over (k.of (at floats l i j)) (k.of (largest p (get_or l i [])))) (k.of (at floats l i j))

  pub divided-alike : (rows p : ℕ) (l : Rows) → Like k (divided N rows p l) (divided M rows p l)
  unfolding divided
  divided-alike rows p l =
      table-both 6 6 rows p (zero_of N) (zero_of M) (divided_cell N p l) (divided_cell M p l) k.void (k.of plus_zero) (λ i j h u. divided_cell-alike p l i j)

  -- two bases: the same rows and rank
  pub record Bases (b : Basis A) (b' : Basis B) : Type 0 where
    pub rows : b.rows ≡ b'.rows
    pub rank : b.rank ≡ b'.rank
    pub seen : R b.seen b'.seen

  pub contrast_basis-alike : (rows p : ℕ) (l : Rows) → Bases (contrast_basis N rows p l) (contrast_basis M rows p l)
  unfolding contrast_basis
  contrast_basis-alike rows p l =
      let v : values N 6 6 rows p (divided N rows p l) ≡ values M 6 6 rows p (divided M rows p l) = values-alike k 6 6 rows p (divided-alike rows p l) in
      let e = all_marks-alike k rows p (divided-alike rows p l) (k.of plus_zero) in
      cond_both Bases (eqb rows 1) (eqb rows 1) _ _ _ _ refl (record { rows = v; rank = refl; seen = e }) (record { rows = rw v; rank = rw v; seen = e })

  -- ---- what a test starts from
  pub record Starts (s : Scaled A) (s' : Scaled B) : Type 0 where
    pub p : s.p ≡ s'.p
    pub matrices : s.matrices ≡ s'.matrices
    pub phi : Like k s.phi s'.phi
    pub phi_a : Like k s.phi_a s'.phi_a
    pub ps : Stacks s.ps s'.ps
    pub w : s.w ≡ s'.w

  -- from the same plain numbers
  pub scaled_by-alike : (p n : ℕ) (phi : Rows) (sigma2 : Float) (a : Adjustment) → Starts (scaled_by N p n phi sigma2 a) (scaled_by M p n phi sigma2 a)
  unfolding scaled_by scaled_ps
  scaled_by-alike p n phi sigma2 a = record {
    p = refl;
    matrices = refl;
    phi = scaled_up-alike k p phi sigma2;
    phi_a = scaled_up-alike k p a.phi_a sigma2;
    ps = stack-alike n _ _ (λ i h. scaled_down-alike k p (get_or a.ps i []) sigma2);
    w = refl;
  }

  -- ---- one test
  module _ (c : Cutoffs) where
    -- with p, the number of matrices, W, the basis and its rank in common
    module _ (p n : ℕ) (w : Rows) (phi phi_a : List (List A)) (ps : List (List (List A))) (phi' phiA' : List (List B)) (ps' : List (List (List B))) (eP : Like k phi phi')
        (eA : Like k phi_a phiA') (eS : Stacks ps ps') (beta beta_h : List Float) (rows : Rows) (q : ℕ) (seen : A) (seen' : B) (eB : R seen seen') where
      abbrev s : Scaled A
      s = record { p = p; matrices = n; phi = phi; phi_a = phi_a; ps = ps; w = w }

      abbrev s' : Scaled B
      s' = record { p = p; matrices = n; phi = phi'; phi_a = phiA'; ps = ps'; w = w }

      abbrev b : Basis A
      b = record { rows = rows; rank = q; seen = seen }

      abbrev b' : Basis B
      b' = record { rows = rows; rank = q; seen = seen' }

      l-alike : Like k (given_cells N 6 6 q p rows) (given_cells M 6 6 q p rows)
      l-alike = given_cells-alike k 6 6 q p rows

      a-alike : Like k (a_rows N c s beta beta_h b) (a_rows M c s' beta beta_h b')
      unfolding a_rows
      a-alike = sandwich-alike k 6 6 q p l-alike eP

      x-alike : Like k (x_rows N c s beta beta_h b) (x_rows M c s' beta beta_h b')
      unfolding x_rows
      x-alike = solution-alike k 6 12 6 q p a-alike l-alike

      theta-alike : Like k (theta_phi N c s beta beta_h b) (theta_phi M c s' beta beta_h b')
      unfolding theta_phi theta_of
      theta-alike = product-alike k 6 6 p p p (product-alike k 6 6 p q p (transpose-alike k 6 6 q p l-alike) x-alike) eP

      us-alike : Stacks (us N c s beta beta_h b) (us M c s' beta beta_h b')
      unfolding us u_stack u_of
      us-alike = stack-alike n _ _ (λ i h. product-alike k 6 6 p p p (product-alike k 6 6 p p p theta-alike (eS.each i)) eP)

      u_values-alike : u_values N n p (us N c s beta beta_h b) ≡ u_values M n p (us M c s' beta beta_h b')
      unfolding u_values
      u_values-alike = fold-ext 0 n _ _ (replicate 4 (blank plus_zero 6 6)) (λ i h u ys. ap (set ys i) (values-alike k 6 6 p p (us-alike.each i)))

      a1-alike : a1 N c s beta beta_h b ≡ a1 M c s' beta beta_h b'
      unfolding a1
      a1-alike = rw u_values-alike

      a2-alike : a2 N c s beta beta_h b ≡ a2 M c s' beta beta_h b'
      unfolding a2
      a2-alike = rw u_values-alike

      d-alike : Like k (difference N p beta beta_h) (difference M p beta beta_h)
      unfolding difference
      d-alike = table-both 6 6 p 1 (zero_of N) (zero_of M) _ _ k.void (k.of plus_zero) (λ i j h u. k.minus (k.of (get_or beta i nan)) (k.of (get_or beta_h i nan)))

      ld-alike : Like k (ld_rows N c s beta beta_h b) (ld_rows M c s' beta beta_h b')
      unfolding ld_rows
      ld-alike = product-alike k 6 6 q p 1 l-alike d-alike

      v-alike : Like k (v_rows N c s beta beta_h b) (v_rows M c s' beta beta_h b')
      unfolding v_rows
      v-alike = sandwich-alike k 6 6 q p l-alike eA

      y-alike : Like k (y_rows N c s beta beta_h b) (y_rows M c s' beta beta_h b')
      unfolding y_rows
      y-alike = solution-alike k 6 12 6 q 1 v-alike ld-alike

      positive-alike : is_positive (N.value (at N (v_rows N c s beta beta_h b) 0 0)) ≡ is_positive (M.value (at M (v_rows M c s' beta beta_h b') 0 0))
      positive-alike = ap is_positive (k.value ((v-alike.each 0).each 0))

      wald-alike : R (wald_marked N c s beta beta_h b) (wald_marked M c s' beta beta_h b')
      unfolding wald_marked wald_many
      wald-alike =
          cond_both R (eqb q 1) (eqb q 1) _ _ _ _ refl
          (cond_both R _ _ _ _ _ _ positive-alike (square_one-alike ((ld-alike.each 0).each 0) ((v-alike.each 0).each 0)) (k.of plus_zero))
          (sum_alike k q _ _ (λ i u. k.times ((ld-alike.each i).each 0) ((y-alike.each i).each 0)))

      wald_number-alike : wald_number N c s beta beta_h b ≡ wald_number M c s' beta beta_h b'
      unfolding wald_number
      wald_number-alike = rw (positive-alike, k.value wald-alike)

      seen_alike : R (test_seen N c s beta beta_h b) (test_seen M c s' beta beta_h b')
      unfolding test_seen scaling_seen
      seen_alike =
          let s0 = stack_seen-alike n p eS (all_marks-alike k p p eA (all_marks-alike k p p eP eB)) in
          let s1 = all_marks-alike k p 1 d-alike s0 in
          let s2 = all_marks-alike k q p x-alike (all_marks-alike k q q a-alike s1) in
          let s3 = stack_seen-alike n p us-alike (all_marks-alike k p p theta-alike s2) in
          let s4 = all_marks-alike k q q v-alike (all_marks-alike k q 1 ld-alike s3) in
          k.also (cond_both R (eqb q 1) (eqb q 1) _ _ _ _ refl s4 (all_marks-alike k q 1 y-alike s4)) wald-alike

      test-alike : (Q : Bool → Bool → Type 0) → ((a : A) (b : B) → R a b → Q (N.inside a) (M.inside b)) → TestsAlike Q (tested N c s beta beta_h b) (tested M c s' beta beta_h b')
      unfolding tested
      test-alike Q shows = record {
        refused = rw (refused-alike k 6 12 q p a-alike l-alike, refused-alike k 6 12 q 1 v-alike ld-alike);
        entry = record { f = rw (a1-alike, a2-alike, wald_number-alike); df = rw (a1-alike, a2-alike); rank = refl; inside = shows _ _ seen_alike };
      }

    module _ {s : Scaled A} {s' : Scaled B} {b : Basis A} {b' : Basis B} (e : Starts s s') (g : Bases b b') where
      -- what holds of s and b with the second test's plain parts in them holds of s and b
      in-common : (P : Scaled A → Basis A → Type 0)
          → P (record { p = s'.p; matrices = s'.matrices; phi = s.phi; phi_a = s.phi_a; ps = s.ps; w = s'.w }) (record { rows = b'.rows; rank = b'.rank; seen = b.seen })
          → P s b
      in-common P h = subst₂ P (sym start) (sym basis) h
        where
          start : s ≡ record { p = s'.p; matrices = s'.matrices; phi = s.phi; phi_a = s.phi_a; ps = s.ps; w = s'.w }
          start = λ i. record { p = e.p i; matrices = e.matrices i; phi = s.phi; phi_a = s.phi_a; ps = s.ps; w = e.w i }

          basis : b ≡ record { rows = b'.rows; rank = b'.rank; seen = b.seen }
          basis = λ i. record { rows = g.rows i; rank = g.rank i; seen = b.seen }

      pub test_seen-alike : (beta beta_h : List Float) → R (test_seen N c s beta beta_h b) (test_seen M c s' beta beta_h b')
      test_seen-alike beta beta_h =
          in-common (λ x y. R (test_seen N c x beta beta_h y) (test_seen M c s' beta beta_h b'))
          (seen_alike s'.p s'.matrices s'.w s.phi s.phi_a s.ps s'.phi s'.phi_a s'.ps e.phi e.phi_a e.ps beta beta_h b'.rows b'.rank b.seen b'.seen g.seen)

      -- ONE TEST on two kinds of number: refused alike, with the same F, df and rank
      pub tested-alike : (Q : Bool → Bool → Type 0) → ((a : A) (b : B) → R a b → Q (N.inside a) (M.inside b)) → (beta beta_h : List Float)
          → TestsAlike Q (tested N c s beta beta_h b) (tested M c s' beta beta_h b')
      tested-alike Q shows beta beta_h =
          in-common (λ x y. TestsAlike Q (tested N c x beta beta_h y) (tested M c s' beta beta_h b'))
          (test-alike s'.p s'.matrices s'.w s.phi s.phi_a s.ps s'.phi s'.phi_a s'.ps e.phi e.phi_a e.ps beta beta_h b'.rows b'.rank b.seen b'.seen g.seen Q shows)

    -- ---- the run
    module _ (Q : Bool → Bool → Type 0) (shows : (a : A) (b : B) → R a b → Q (N.inside a) (M.inside b)) (none : Q false false) {s : Scaled A} {s' : Scaled B} (e : Starts s s')
        (beta beta_h : List Float) where
      pub coefficient_test-alike : (i : ℕ) → TestsAlike Q (coefficient_test N c s beta i) (coefficient_test M c s' beta i)
      unfolding coefficient_test
      coefficient_test-alike i =
          tested-alike e
          (subst (λ (z : ℕ). Bases (contrast_basis N 1 z (unit_row z i)) (contrast_basis M 1 s'.p (unit_row s'.p i))) (sym e.p) (contrast_basis-alike 1 s'.p (unit_row s'.p i)))
          Q shows beta (replicate 6 plus_zero)

      pub contrast_test-alike : (rows : ℕ) (l : Rows) → TestsAlike Q (contrast_test N c s beta beta_h rows l) (contrast_test M c s' beta beta_h rows l)
      unfolding contrast_test
      contrast_test-alike rows l =
          tested-alike e (subst (λ (z : ℕ). Bases (contrast_basis N rows z l) (contrast_basis M rows s'.p l)) (sym e.p) (contrast_basis-alike rows s'.p l)) Q shows beta beta_h

      with_test-alike : {t t' : Tested} {r r' : Run} (i : ℕ) → TestsAlike Q t t' → RunsAlike Q r r' → RunsAlike Q (with_test i t r) (with_test i t' r')
      unfolding with_test
      with_test-alike i x y = record { refused = rw (x.refused, y.refused); entries = each_set i y.entries x.entry }

      coefficients_to-alike : (d : ℕ) → RunsAlike Q (coefficients_to N d c s beta) (coefficients_to M d c s' beta)
      unfolding coefficients_to
      coefficients_to-alike d =
          let unused : EntriesAlike Q no_entry no_entry = record { f = refl; df = refl; rank = refl; inside = none } in
          fold-both (λ r r'. RunsAlike Q r r') 0 d _ _ _ _ (record { refused = refl; entries = each-replicate 7 no_entry no_entry unused unused })
          (λ i h u r r' x. with_test-alike i (coefficient_test-alike i) x)

      -- A RUN on two kinds of number: refused alike, with the same F, df and rank in every entry
      pub run_of-alike : (rows : ℕ) (l : Rows) → RunsAlike Q (run_of N c s beta beta_h rows l) (run_of M c s' beta beta_h rows l)
      unfolding run_of
      run_of-alike rows l =
          let x : RunsAlike Q (coefficients_to N s.p c s beta) (coefficients_to M s'.p c s' beta) =
          subst (λ (z : ℕ). RunsAlike Q (coefficients_to N z c s beta) (coefficients_to M s'.p c s' beta)) (sym e.p) (coefficients_to-alike s'.p) in
          cond_both (λ r r'. RunsAlike Q r r') (eqb rows 0) (eqb rows 0) _ _ _ _ refl x (with_test-alike 6 (contrast_test-alike rows l) x)
