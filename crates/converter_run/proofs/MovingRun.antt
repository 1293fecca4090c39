-- The Kenward–Roger run: where the marks of all its entries bear t, a change of converter that t covers leaves its refusal, its verdicts and the late refusal of its adjustment as they were.
use Prim.Native.Nat.{ℕ, zero, suc, ◌+◌, ◌*◌, ◌≤◌, ◌<◌}
use native.Mathlib.Nat.{le_trans, min-le_left}
use native.Mathlib.Omega.{arith}
use native.Mathlib.Decide.{dec_lt}
use mathlib.Core.Path.{◌≡◌, refl, sym, ap, ◌∙◌, subst}
use mathlib.Core.Bool.{Bool, true, false, cond}
use mathlib.Core.List.{List, [], ◌∷◌, map}
use lib.Dec.{T, eqb}
use lib.IntN.{ℤ, pos, neg_ℤ, nat_abs, ◌+ℤ◌}
use lib.ListN.{get_or, set, length, replicate, length-set, length-replicate, get_or-replicate}
use lib.Seq.{get_or-set_same, get_or-set_other}
use lib.Ieee.{Float, nan, binary64, fits}
use borrow.Author.Tests.{eqb-false}
use Rattle.arithmetic.specs.declared.Marked.{Marked}
use Rattle.arithmetic.specs.Numbers.{plus_zero, one}
use Rattle.arithmetic.specs.Marks.{MarkBears, given}
use Rattle.arithmetic.proofs.Tied.{Tied}
use Rattle.arithmetic.proofs.MarkLaws.{Bears, mark-bears}
use Rattle.algebra.specs.Table.{blank}
use Rattle.algebra.specs.Kind.{floats, marks}
use Rattle.algebra.specs.Product.{at}
use Rattle.algebra.proofs.FoldLaws.{fold-both, fold-steps, span-at}
use Rattle.algebra.proofs.TableLaws.{table_at}
use Rattle.algebra.proofs.MovingCells.{BearsCells, MovesCells, abs-twice, cond_both}
use Rattle.arithmetic_cutoffs.specs.declared.Cutoffs.{Cutoffs}
use Rattle.adjustment.specs.Adjusted.{Adjustment, matrix_at, scaled_up, scaled_down, output_not_finite}
use Rattle.tests.specs.declared.Entry.{Entry}
use Rattle.tests.specs.declared.Basis.{Basis}
use Rattle.tests.specs.Basis.{contrast_basis}
use Rattle.tests_basis.proofs.Rank.{rank_most}
use Rattle.tests.specs.Answer.{no_entry}
use Rattle.tests.specs.declared.Tested.{Tested}
use Rattle.tests.specs.declared.Run.{Run}
use Rattle.tests.specs.KenwardRoger.{Scaled, scaled_ps, scaled_by, test_seen, tested, unit_row, coefficient_test, contrast_test, with_test, coefficients_to, run_of}
use Rattle.tests.specs.Verdict.{Verdict, verdict, verdicts, RunBears, RunSurvives}
use Rattle.converter_run.specs.joints.ConvertedInput.{Input, run_on, ConvertedInput, RunSizes, WrittenCells, Written, WrittenUnits, ScalingMoves}
use Rattle.algebra_products.proofs.MovingSmall.{tied-still, tied-nil}
use Rattle.algebra.specs.Small.{Rows}
use Rattle.converter_run.proofs.MovingScaling.{scaled_up-moves, scaled_down-moves, products-move, quotients-move, output-agrees}
use Rattle.converter_run.proofs.MovingBasis.{SameBasis, basis-agrees, basis-written}
use Rattle.converter_run.proofs.MovingTest.{ScalingBears, test-bears, SameTested, test-survives}

-- ---- the Ps
ps-at : (p N : ℕ) (ps : List Rows) (x : Float) → N ≤ 4 → (r : ℕ) → r < N → get_or (scaled_ps marks p N ps x) r [] ≡ scaled_down marks p (get_or ps r []) x
unfolding scaled_ps
ps-at p N ps x hN r h =
    span-at 0 N (λ r. scaled_down marks p (get_or ps r []) x) (replicate 4 (blank (given plus_zero) 6 6)) r [] (omega arith) h
    (omega (arith, length-replicate 4 (blank (given plus_zero) 6 6), hN))

-- ---- a test's mark
pub entry_seen : {t : ℕ} (c : Cutoffs) (s : Scaled Marked) (beta beta_h : List Float) (b : Basis Marked) → MarkBears t (tested marks c s beta beta_h b).entry.inside → Bears t (test_seen marks c s beta beta_h b)
unfolding tested
entry_seen c s beta beta_h b h = mark-bears (test_seen marks c s beta beta_h b) h

-- a basis from its parts; one with the same rows and rank, and its own mark
abbrev basis_from : Rows → ℕ → Marked → Basis Marked
basis_from rows rank seen = record { rows = rows; rank = rank; seen = seen }

basis-is : (b b' : Basis Marked) → SameBasis b b' → basis_from b.rows b.rank b'.seen ≡ b'
basis-is b b' e = ap (λ (x : Rows). basis_from x b.rank b'.seen) (sym e.rows) ∙ ap (λ (x : ℕ). basis_from b'.rows x b'.seen) (sym e.rank)

-- a row of the unit matrix
pub unit-tied : (p i : ℕ) → p ≤ 6 → (r j : ℕ) → r < 1 → j < p → Tied (pos 0) (at floats (unit_row p i) r j) (at floats (unit_row p i) r j)
unfolding unit_row fits
unit-tied p i hp r j h l =
    tied-still (at floats (unit_row p i) r j)
    (rw (table_at plus_zero 6 6 1 p (λ k j. cond (eqb j i) one plus_zero) r j nan h l (omega arith) hp)
    (cond_both (λ (x : Float). T (fits binary64 x)) (eqb j i) one plus_zero tt tt))

-- ---- one contrast, from the input
module _ {t : ℕ} (c : Cutoffs) (p N : ℕ) (p1 : 1 ≤ p) (hp : p ≤ 6) (hN : N ≤ 4) (k : ℤ) (n2 : nat_abs (k +ℤ k) ≤ t) (phi : Rows) (a : Adjustment)
    (units : WrittenUnits p N phi a) (sigma2 sigma2' : Float) (es : Tied (k +ℤ k) sigma2 sigma2') (beta beta' : List Float)
    (eb : (i : ℕ) → i < p → Tied k (get_or beta i nan) (get_or beta' i nan)) where
  abbrev s : Scaled Marked
  s = scaled_by marks p N phi sigma2 a

  abbrev s' : Scaled Marked
  s' = scaled_by marks p N phi sigma2' a

  ps-moves : (r : ℕ) → r < N → MovesCells t (neg_ℤ (k +ℤ k)) p p (get_or (scaled_ps marks p N a.ps sigma2) r []) (get_or (scaled_ps marks p N a.ps sigma2') r [])
  ps-moves r h =
      rw (ps-at p N a.ps sigma2 hN r h, ps-at p N a.ps sigma2' hN r h) (scaled_down-moves p hp (k +ℤ k) n2 sigma2 sigma2' es (matrix_at a.ps r) (units.ps r h))

  module _ (beta_h betaH' : List Float) (eh : (i : ℕ) → i < p → Tied k (get_or beta_h i nan) (get_or betaH' i nan)) where
    basis-test : (rows : Rows) (q : ℕ) (seen seen' : Marked) → q ≤ 6 → WrittenCells q p rows → Bears t (test_seen marks c s beta beta_h (basis_from rows q seen))
        → SameTested (tested marks c s beta beta_h (basis_from rows q seen)) (tested marks c s' beta' betaH' (basis_from rows q seen'))
    unfolding scaled_by
    basis-test rows q seen seen' hq w h =
        test-survives c p N q hp p1 hN hq k n2 (scaled_up marks p phi sigma2) (scaled_up marks p a.phi_a sigma2) (scaled_up marks p phi sigma2') (scaled_up marks p a.phi_a sigma2')
        (scaled_ps marks p N a.ps sigma2) (scaled_ps marks p N a.ps sigma2') a.w beta beta_h beta' betaH' rows seen seen'
        (scaled_up-moves p hp (k +ℤ k) n2 sigma2 sigma2' es phi units.phi) (scaled_up-moves p hp (k +ℤ k) n2 sigma2 sigma2' es a.phi_a units.phi_a) ps-moves eb eh w h

    pub contrast-survives : (rows : ℕ) → 1 ≤ rows → rows ≤ 6 → (m : ℕ → ℤ) (l l' : Rows)
        → ((i j : ℕ) → i < rows → j < p → Tied (m i) (at floats l i j) (at floats l' i j)) → MarkBears t (contrast_test marks c s beta beta_h rows l).entry.inside
        → SameTested (contrast_test marks c s beta beta_h rows l) (contrast_test marks c s' beta' betaH' rows l')
    unfolding contrast_test scaled_by
    contrast-survives rows r1 hr m l l' el e =
        let b : Basis Marked = contrast_basis marks rows p l in
        let b' : Basis Marked = contrast_basis marks rows p l' in
        let seen : Bears t (test_seen marks c s beta beta_h b) = entry_seen c s beta beta_h b e in
        let same : SameBasis b b' = basis-agrees rows p hr hp m l l' el (test-bears c s beta beta_h b seen).scaling.before in
        let hq : b.rank ≤ 6 = le_trans (rank_most rows p l r1 p1) (le_trans (min-le_left rows p) hr) in
        subst (λ (x : Basis Marked). SameTested (tested marks c s beta beta_h b) (tested marks c s' beta' betaH' x)) (basis-is b b' same)
        (basis-test b.rows b.rank b.seen b'.seen hq (basis-written rows p hr hp l (λ i j h o. (el i j h o).fine) r1 p1) seen)

  pub coefficient-survives : (i : ℕ) → MarkBears t (coefficient_test marks c s beta i).entry.inside → SameTested (coefficient_test marks c s beta i) (coefficient_test marks c s' beta' i)
  unfolding coefficient_test contrast_test scaled_by
  coefficient-survives i e =
      contrast-survives (replicate 6 plus_zero) (replicate 6 plus_zero) (λ j h. rw (get_or-replicate 6 j plus_zero nan (omega arith)) (tied-nil k)) 1 (omega arith) (omega arith) (λ r. pos 0)
      (unit_row p i) (unit_row p i) (unit-tied p i hp) e

  -- where the mark of one coefficient's test bears t, the scaling does
  scaling-seen : (i : ℕ) → MarkBears t (coefficient_test marks c s beta i).entry.inside → ScalingBears t s (contrast_basis marks 1 p (unit_row p i)).seen
  unfolding coefficient_test scaled_by
  scaling-seen i e =
      let beta_h : List Float = replicate 6 plus_zero in
      let b : Basis Marked = contrast_basis marks 1 p (unit_row p i) in
      (test-bears c s beta beta_h b (entry_seen c s beta beta_h b e)).scaling

  -- so that what sigma2 scales moves with it, and the late refusal 4 is what it was
  module _ (i : ℕ) (e : MarkBears t (coefficient_test marks c s beta i).entry.inside) where
    ps-bear : (r : ℕ) → r < N → BearsCells t p p (scaled_down marks p (matrix_at a.ps r) sigma2)
    unfolding scaled_by
    ps-bear r h = rw (ps-at p N a.ps sigma2 hN r h) at ((scaling-seen i e).ps r h)

    pub scaling-survives : ScalingMoves k p N phi a sigma2 sigma2'
    unfolding scaled_by
    scaling-survives = record {
      phi = products-move p hp (k +ℤ k) n2 sigma2 sigma2' es phi units.phi (scaling-seen i e).phi;
      phi_a = products-move p hp (k +ℤ k) n2 sigma2 sigma2' es a.phi_a units.phi_a (scaling-seen i e).phi_a;
      ps = λ r i j h. quotients-move p hp (k +ℤ k) n2 sigma2 sigma2' es (matrix_at a.ps r) (units.ps r h) (ps-bear r h) i j;
    }

    pub output-survives : output_not_finite p N phi sigma2' a ≡ output_not_finite p N phi sigma2 a
    unfolding scaled_by
    output-survives =
        output-agrees p hp (k +ℤ k) n2 sigma2 sigma2' es N phi a units.phi units.phi_a units.ps (scaling-seen i e).phi (scaling-seen i e).phi_a ps-bear

-- ---- the entries of a run
-- the first k entries are those of the coefficients
record Filled (c : Cutoffs) (s : Scaled Marked) (beta : List Float) (k : ℕ) (r : Run) : Type 0 where
  pub size : length r.entries ≡ 7
  pub entry : (i : ℕ) → i < k → get_or r.entries i no_entry ≡ (coefficient_test marks c s beta i).entry

module _ (c : Cutoffs) (s : Scaled Marked) (beta : List Float) where
  filled : (k : ℕ) → k ≤ 7 → Filled c s beta k (coefficients_to marks k c s beta)
  unfolding coefficients_to with_test
  filled k h =
      fold-steps (λ k r. Filled c s beta k r) 0 k (λ i r. with_test i (coefficient_test marks c s beta i) r) (record { refused = false; entries = replicate 7 no_entry }) (omega arith)
      (record { size = length-replicate 7 no_entry; entry = λ i l. absurd (omega arith) })
      (λ j l o r q. record {
        size = length-set r.entries j (coefficient_test marks c s beta j).entry ∙ q.size;
        entry = λ i l. one_more j r q i l (omega arith) (dec_lt i j);
      })
    where
      one_more : (j : ℕ) (r : Run) → Filled c s beta j r → (i : ℕ) → i < j + 1 → j < 7 → Dec (i < j)
          → get_or (set r.entries j (coefficient_test marks c s beta j).entry) i no_entry ≡ (coefficient_test marks c s beta i).entry
      one_more j r q i l o (yes h) = get_or-set_other r.entries j i (coefficient_test marks c s beta j).entry no_entry (λ e. omega arith) ∙ q.entry i h
      one_more j r q i l o (no h) =
          let e : i ≡ j = omega arith in
          rw e (get_or-set_same r.entries j (coefficient_test marks c s beta j).entry no_entry (omega (arith, q.size)))

  module _ (beta_h : List Float) (rows : ℕ) (l : Rows) (hp : s.p ≤ 6) where
    pub run-coefficient : (i : ℕ) → i < s.p → get_or (run_of marks c s beta beta_h rows l).entries i no_entry ≡ (coefficient_test marks c s beta i).entry
    unfolding run_of with_test
    run-coefficient i h = go (eqb rows 0)
      where
        r : Run
        r = coefficients_to marks s.p c s beta

        e : Entry
        e = (contrast_test marks c s beta beta_h rows l).entry

        go : (b : Bool) → get_or (cond b r (with_test 6 (contrast_test marks c s beta beta_h rows l) r)).entries i no_entry ≡ (coefficient_test marks c s beta i).entry
        go true = (filled s.p (omega arith)).entry i h
        go false = get_or-set_other r.entries 6 i e no_entry (λ q. omega arith) ∙ (filled s.p (omega arith)).entry i h

    pub run-contrast : eqb rows 0 ≡ false → get_or (run_of marks c s beta beta_h rows l).entries 6 no_entry ≡ (contrast_test marks c s beta beta_h rows l).entry
    unfolding run_of with_test
    run-contrast h =
        let r : Run = coefficients_to marks s.p c s beta in
        rw h (get_or-set_same r.entries 6 (contrast_test marks c s beta beta_h rows l).entry no_entry (omega (arith, (filled s.p (omega arith)).size)))

-- ---- two runs
map-set : {A B : Type 0} (f : A → B) (l : List A) (i : ℕ) (a : A) → map f (set l i a) ≡ set (map f l) i (f a)
map-set f [] i a = refl
map-set f (x ∷ xs) zero a = refl
map-set f (x ∷ xs) (suc i) a = ap (λ (ys : List _). f x ∷ ys) (map-set f xs i a)

with-survives : (i : ℕ) (x x' : Tested) (r r' : Run) → SameTested x x' → RunSurvives r r' → RunSurvives (with_test i x r) (with_test i x' r')
unfolding with_test verdicts
with-survives i x x' r r' e q = record {
  refusal = rw (q.refusal, e.refusal);
  same = map-set verdict r'.entries i x'.entry ∙ ap (λ (vs : List Verdict). set vs i (verdict x'.entry)) q.same
      ∙ ap (λ (v : Verdict). set (map verdict r.entries) i v) e.same ∙ sym (map-set verdict r.entries i x.entry);
}

some : (n : ℕ) → (n ≡ 0 → ⊥) → 0 < n
some n f = go (dec_lt 0 n)
  where
    go : Dec (0 < n) → 0 < n
    go (yes h) = h
    go (no h) = absurd (f (omega arith))

-- a run that bears t: each of its tests does
module _ {t : ℕ} (c : Cutoffs) (p N rows : ℕ) (phi : Rows) (a : Adjustment) (x : Input) (hp : p ≤ 6) (bears : RunBears t p rows (run_on c p N rows phi a x)) where
  pub coefficient-bears : (i : ℕ) → i < p → MarkBears t (coefficient_test marks c (scaled_by marks p N phi x.sigma2 a) x.beta i).entry.inside
  unfolding scaled_by
  coefficient-bears i h =
      subst (λ (e : Entry). MarkBears t e.inside) (run-coefficient c (scaled_by marks p N phi x.sigma2 a) x.beta x.beta_h rows x.contrast hp i h) (bears.coefficient i h)

  pub contrast-bears : eqb rows 0 ≡ false → MarkBears t (contrast_test marks c (scaled_by marks p N phi x.sigma2 a) x.beta x.beta_h rows x.contrast).entry.inside
  unfolding scaled_by
  contrast-bears h =
      subst (λ (e : Entry). MarkBears t e.inside) (run-contrast c (scaled_by marks p N phi x.sigma2 a) x.beta x.beta_h rows x.contrast hp h)
      (bears.contrast (some rows (eqb-false rows 0 h)))

-- t covers 2|k|, the shift of sigma2: nothing that is marked moves further
module _ {t : ℕ} (c : Cutoffs) (p N rows : ℕ) (k : ℤ) (m : ℕ → ℤ) (phi : Rows) (a : Adjustment) (x x' : Input) (sizes : RunSizes p N rows) (near : 2 * nat_abs k ≤ t)
    (units : WrittenUnits p N phi a) (written : Written p rows x) (converted : ConvertedInput k m p rows x x') (bears : RunBears t p rows (run_on c p N rows phi a x)) where
  near2 : nat_abs (k +ℤ k) ≤ t
  near2 = omega (arith, abs-twice k)

  sigma2-tied : Tied (k +ℤ k) x.sigma2 x'.sigma2
  sigma2-tied = record { fine = written.sigma2; moved = converted.sigma2 }

  beta-tied : (i : ℕ) → i < p → Tied k (get_or x.beta i nan) (get_or x'.beta i nan)
  beta-tied i h = record { fine = written.beta i h; moved = converted.beta i h }

  beta_h-tied : 0 < rows → (i : ℕ) → i < p → Tied k (get_or x.beta_h i nan) (get_or x'.beta_h i nan)
  beta_h-tied r i h = record { fine = written.beta_h r i h; moved = converted.beta_h r i h }

  contrast-tied : (i j : ℕ) → i < rows → j < p → Tied (m i) (at floats x.contrast i j) (at floats x'.contrast i j)
  contrast-tied i j h l = record { fine = written.contrast i j h l; moved = converted.contrast i j h l }

  abbrev before : Scaled Marked
  before = scaled_by marks p N phi x.sigma2 a

  abbrev after : Scaled Marked
  after = scaled_by marks p N phi x'.sigma2 a

  coefficients-survive : RunSurvives (coefficients_to marks p c before x.beta) (coefficients_to marks p c after x'.beta)
  unfolding coefficients_to
  coefficients-survive =
      fold-both (λ r r'. RunSurvives r r') 0 p (λ i r. with_test i (coefficient_test marks c before x.beta i) r) (λ i r. with_test i (coefficient_test marks c after x'.beta i) r)
      (record { refused = false; entries = replicate 7 no_entry }) (record { refused = false; entries = replicate 7 no_entry }) (record { refusal = refl; same = refl })
      (λ i h l r r' q. with-survives i (coefficient_test marks c before x.beta i) (coefficient_test marks c after x'.beta i) r r'
      (coefficient-survives c p N sizes.some sizes.coefficients sizes.matrices k near2 phi a units x.sigma2 x'.sigma2 sigma2-tied
      x.beta x'.beta beta-tied i (coefficient-bears c p N rows phi a x sizes.coefficients bears i l)) q)

  -- DEMAND 3, over the definitions of the run. A Kenward–Roger run of which every entry in use bears t: with sigma2 times 4^k, 2|k| at most t, β and β_H times 2^k, and each
  -- contrast row times a power of two of its own, the second run is refused where the first is, and F, df and rank of every entry are the same bits, or none where they were none.
  pub run-survives : RunSurvives (run_on c p N rows phi a x) (run_on c p N rows phi a x')
  unfolding run_of scaled_by
  run-survives = go (eqb rows 0) refl
    where
      test : Tested
      test = contrast_test marks c before x.beta x.beta_h rows x.contrast

      test' : Tested
      test' = contrast_test marks c after x'.beta x'.beta_h rows x'.contrast

      r : Run
      r = coefficients_to marks p c before x.beta

      r' : Run
      r' = coefficients_to marks p c after x'.beta

      go : (b : Bool) → eqb rows 0 ≡ b → RunSurvives (cond b r (with_test 6 test r)) (cond b r' (with_test 6 test' r'))
      go true e = coefficients-survive
      go false e =
          let r1 : 1 ≤ rows = some rows (eqb-false rows 0 e) in
          with-survives 6 test test' r r'
          (contrast-survives c p N sizes.some sizes.coefficients sizes.matrices k near2 phi a units x.sigma2 x'.sigma2 sigma2-tied
          x.beta x'.beta beta-tied x.beta_h x'.beta_h (beta_h-tied r1) rows r1 sizes.contrast m x.contrast x'.contrast contrast-tied (contrast-bears c p N rows phi a x sizes.coefficients bears e))
          coefficients-survive

  -- and no number of the adjustment's output, scaled or not, becomes or ceases to be finite
  pub finite-survives : output_not_finite p N phi x'.sigma2 a ≡ output_not_finite p N phi x.sigma2 a
  finite-survives =
      output-survives c p N sizes.some sizes.coefficients sizes.matrices k near2 phi a units x.sigma2 x'.sigma2 sigma2-tied x.beta
      x'.beta beta-tied 0 (coefficient-bears c p N rows phi a x sizes.coefficients bears 0 sizes.some)

  -- each product with sigma2 and each quotient by it is the first run's scaled
  pub scaling-moves : ScalingMoves k p N phi a x.sigma2 x'.sigma2
  scaling-moves =
      scaling-survives c p N sizes.some sizes.coefficients sizes.matrices k near2 phi a units x.sigma2 x'.sigma2 sigma2-tied x.beta
      x'.beta beta-tied 0 (coefficient-bears c p N rows phi a x sizes.coefficients bears 0 sizes.some)
