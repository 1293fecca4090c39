-- The mark of a product's cell is the join of its row's, its column's and the inner results' (`cell-in-parts`); a turn whose left number is a zero adds nothing to the inner
-- results (`term-idle`); how the loops of a product keep to this. Of marks only what JoinLaws says is used.
use Prim.Native.Nat.{ℕ, ◌+◌, ◌<◌, ◌≤◌}
use native.Mathlib.Omega.{arith}
use native.Mathlib.Nat.{le_antisymm}
use mathlib.Core.Path.{◌≡◌, refl, sym, ap, ◌∙◌, subst}
use mathlib.Core.Bool.{Bool, true, false, not, ◌&&◌, true≢false}
use mathlib.Core.List.{List, []}
use lib.Dec.{T}
use lib.ListN.{get_or, set, replicate}
use lib.Seq.{set-get_or}
use borrow.Author.Count.{below_more}
use lib.Ieee.{Float, binary64, fits, add, mul}
use lib.Ieee.Fits.{and_l, and_r, mul-fits}
use Rattle.arithmetic.specs.declared.Marked.{Marked}
use Rattle.arithmetic.specs.Numbers.{plus_zero, is_zero, is_finite}
use Rattle.arithmetic.specs.Marks.{Mark, marked, no_mark, join_marks, own_mark, reported, lost_product, marked_add, marked_mul, also_mark}
use Rattle.arithmetic.proofs.Operations.{Zero}
use Rattle.arithmetic.proofs.RangeTest.{zero-of-test}
use Rattle.arithmetic.proofs.JoinLaws.{join-none, join-again, join-term, marks-join, add-mark, mul-mark, zero-own, zero-product}
use Rattle.arithmetic.proofs.ZeroTerms.{Plain, add-zero, add-plain, zero-times, add-finite}
use Rattle.algebra.specs.Table.{row}
use Rattle.algebra.specs.Kind.{marks, zero_of}
use Rattle.algebra.specs.Product.{at, sum, cell}
use Rattle.algebra.proofs.FoldLaws.{fold_more, fold-none, fold_start, fold_next, fold-keeps, fold-steps}
use Rattle.algebra.proofs.TableLaws.{row_at}
use Rattle.algebra_products.specs.joints.Terms.{with_terms}
use Rattle.algebra_products.proofs.RowLaws.{row_after, with_term, row_after-none, row_after-more}
use Rattle.algebra_products.specs.joints.CellMarks.{row_mark, column_mark, column_marks, results, in_parts, Finite, adds_nothing}

-- ---- rows and columns, one number more
row-none : (a : List (List Marked)) (i : ℕ) → no_mark ≡ row_mark 0 a i
unfolding row_mark
row-none a i = sym (fold-none 0 0 (λ k m. join_marks m (reported (at marks a i k))) no_mark (omega arith))

row_more : (n : ℕ) (a : List (List Marked)) (i : ℕ) → row_mark (n + 1) a i ≡ join_marks (row_mark n a i) (reported (at marks a i n))
unfolding row_mark
row_more n a i = fold_more 0 n (λ k m. join_marks m (reported (at marks a i k))) no_mark (omega arith)

pub column-none : (b : List (List Marked)) (j : ℕ) → no_mark ≡ column_mark 0 b j
unfolding column_mark
column-none b j = sym (fold-none 0 0 (λ k m. join_marks m (reported (at marks b k j))) no_mark (omega arith))

column-more : (n : ℕ) (b : List (List Marked)) (j : ℕ) → column_mark (n + 1) b j ≡ join_marks (column_mark n b j) (reported (at marks b n j))
unfolding column_mark
column-more n b j = fold_more 0 n (λ k m. join_marks m (reported (at marks b k j))) no_mark (omega arith)

-- one turn of the loop over a column: r is what the next number reports
pub column-next : (n : ℕ) (b : List (List Marked)) (j : ℕ) (m r v : Mark) → m ≡ column_mark n b j → r ≡ reported (at marks b n j) → v ≡ join_marks m r → v ≡ column_mark (n + 1) b j
column-next n b j m r v em er ev = ev ∙ rw (em, er) (sym (column-more n b j))

cell-more : (n : ℕ) (a b : List (List Marked)) (i j : ℕ)
    → cell results (n + 1) a b i j ≡ results.plus (cell results n a b i j) (results.times (at marks a i n) (at marks b n j))
unfolding cell sum
cell-more n a b i j = fold_more 0 n (λ k s. results.plus s (results.times (at marks a i k) (at marks b k j))) (zero_of results) (omega arith)

cell-none : (a b : List (List Marked)) (i j : ℕ) → cell results 0 a b i j ≡ zero_of results
unfolding cell sum
cell-none a b i j = fold-none 0 0 (λ k s. results.plus s (results.times (at marks a i k) (at marks b k j))) (zero_of results) (omega arith)

-- ---- the cell in parts
-- s, the cell after n terms: its value is that of the inner results, its mark has the three parts, and counts its own number already
record ThreeParts (a b : List (List Marked)) (i j n : ℕ) (s : Marked) : Type 0 where
  value : s.value ≡ (cell results n a b i j).value
  mark : s.inside ≡ join_marks (join_marks (row_mark n a i) (column_mark n b j)) (cell results n a b i j).inside
  own : reported s ≡ s.inside

zero-reported : reported (zero_of marks) ≡ no_mark
zero-reported = ap (join_marks no_mark) (zero-own plus_zero refl) ∙ marks-join.unit no_mark

parts_none : (a b : List (List Marked)) (i j : ℕ) → ThreeParts a b i j 0 (zero_of marks)
parts_none a b i j =
    record {
      value = sym (ap (λ (s : Marked). s.value) (cell-none a b i j));
      mark = rw (cell-none a b i j, ← row-none a i, ← column-none b j) (sym (ap (λ (m : Mark). join_marks m no_mark) (marks-join.unit no_mark) ∙ marks-join.unit no_mark));
      own = zero-reported;
    }

parts_more : (a b : List (List Marked)) (i j n : ℕ) (s : Marked) → ThreeParts a b i j n s → ThreeParts a b i j (n + 1) (marked_add s (marked_mul (at marks a i n) (at marks b n j)))
unfolding marked_add marked_mul
parts_more a b i j n s h =
    let x = at marks a i n in
    let y = at marks b n j in
    let q = cell results n a b i j in
    let p = mul binary64 x.value y.value in
    let l = not (lost_product x.value y.value p) in
    let o = own_mark (add binary64 s.value p) in
    let before = join_marks (join_marks (row_mark n a i) (column_mark n b j)) q.inside in
    let next : results.plus q (results.times x y) ≡ cell results (n + 1) a b i j = sym (cell-more n a b i j) in
    record {
      value = ap (λ (v : Float). add binary64 v p) h.value ∙ ap (λ (m : Marked). m.value) next;
      mark =
          add-mark s (marked_mul x y)
          ∙ ap (λ (m : Mark). join_marks (join_marks m (reported (marked_mul x y))) o) (h.own ∙ h.mark)
          ∙ ap (λ (m : Mark). join_marks (join_marks before (join_marks m (own_mark p))) o) (mul-mark x y)
          ∙ join-term marks-join (row_mark n a i) (column_mark n b j) q.inside (reported x) (reported y) (own_mark p) l o
          ∙ ap (λ (v : Float). join_marks (join_marks (join_marks (row_mark n a i) (reported x)) (join_marks (column_mark n b j) (reported y)))
          (join_marks (join_marks q.inside (join_marks (own_mark p) l)) (own_mark (add binary64 v p)))) h.value
          ∙ rw (row_more n a i, column-more n b j, ← next) refl;
      own = ap (λ (m : Mark). join_marks m o) (add-mark s (marked_mul x y)) ∙ join-again marks-join (join_marks (reported s) (reported (marked_mul x y))) o ∙ sym (add-mark s (marked_mul x y));
    }

whole : (n : ℕ) (a b : List (List Marked)) (i j : ℕ) → ThreeParts a b i j n (cell marks n a b i j)
unfolding cell sum
whole n a b i j =
    fold-steps (λ k s. ThreeParts a b i j k s) 0 n (λ k s. marked_add s (marked_mul (at marks a i k) (at marks b k j))) (zero_of marks) (omega arith) (parts_none a b i j)
    (λ k lo hk s h. parts_more a b i j k s h)

-- The law: a cell's mark is the inner results', joined to the row's and the column's; each counts every number once.
pub cell-in-parts : (n : ℕ) (a b : List (List Marked)) (i j : ℕ) → cell marks n a b i j ≡ in_parts n a b i j
cell-in-parts n a b i j =
    let h = whole n a b i j in
    ap (λ (v : Float). marked v (cell marks n a b i j).inside) h.value
    ∙ ap (marked (cell results n a b i j).value) (h.mark ∙ marks-join.comm (join_marks (row_mark n a i) (column_mark n b j)) (cell results n a b i j).inside)

-- ---- a turn whose left number is a zero
-- the running sums: no -0, and their marks count their own numbers
cell-own : (n : ℕ) (a b : List (List Marked)) (i j : ℕ) → reported (cell results n a b i j) ≡ (cell results n a b i j).inside
unfolding cell sum
cell-own n a b i j =
    fold-keeps (λ s. reported s ≡ s.inside) 0 n (λ k s. results.plus s (results.times (at marks a i k) (at marks b k j))) (zero_of results)
    zero-reported
    (λ k lo hk s h.
    let t = results.times (at marks a i k) (at marks b k j) in
    join-again marks-join (join_marks s.inside t.inside) (own_mark (add binary64 s.value t.value)))

cell-plain : (n : ℕ) (a b : List (List Marked)) (i j : ℕ) → Plain binary64 (cell results n a b i j).value
unfolding cell sum fits
cell-plain n a b i j =
    fold-keeps (λ s. Plain binary64 s.value) 0 n (λ k s. results.plus s (results.times (at marks a i k) (at marks b k j))) (zero_of results) start
    (λ k lo hk s p. add-plain binary64 s.value (mul binary64 (at marks a i k).value (at marks b k j).value) p (mul-fits binary64 (at marks a i k).value (at marks b k j).value))
  where
    start : Plain binary64 plus_zero
    start = record { held = tt; signed = λ z. z }

-- the turn changes neither the sum nor what the results report
pub term-idle : (s x y : Marked) → reported s ≡ s.inside → Plain binary64 s.value → T (is_zero x.value) → T (is_finite y.value)
    → s ≡ results.plus s (results.times x y)
term-idle s x y ho hp hz hf =
    let p = mul binary64 x.value y.value in
    let zp : Zero p = zero-times binary64 x.value y.value (zero-of-test x.value hz) hf in
    rw (add-zero binary64 s.value p hp zp, zero-product x.value y.value p hz zp)
    (ap (marked s.value) (sym (ap (λ (m : Mark). join_marks m (own_mark s.value)) (join-none marks-join s.inside) ∙ ho)))

-- ---- the loop over the inner index
-- Its invariant: the sums of row i after k turns, and the mark m of the row so far.
pub record RowSums (C c : ℕ) (a b : List (List Marked)) (i k : ℕ) (sums : List Marked) (m : Mark) : Type 0 where
  pub values : sums ≡ row_after results C c a b i k
  pub mark : m ≡ row_mark k a i

pub row-sums-none : {C c : ℕ} {a b : List (List Marked)} {i : ℕ} {sums : List Marked} {m : Mark} → c ≤ C → sums ≡ replicate C (zero_of results) → m ≡ no_mark → RowSums C c a b i 0 sums m
row-sums-none {C} {c} {a} {b} {i} hc e h = record { values = e ∙ sym (row_after-none results C c a b i hc); mark = h ∙ row-none a i }

module _ {C c : ℕ} {a b : List (List Marked)} {i k : ℕ} {sums : List Marked} {m : Mark} (hc : c ≤ C) (r : RowSums C c a b i k sums m) where
  next-mark : {m' : Mark} → m' ≡ join_marks m (reported (at marks a i k)) → m' ≡ row_mark (k + 1) a i
  next-mark e = e ∙ ap (λ (y : Mark). join_marks y (reported (at marks a i k))) r.mark ∙ sym (row_more k a i)

  -- a turn that is taken
  pub turn-taken : {m' : Mark} {out : List Marked} → m' ≡ join_marks m (reported (at marks a i k)) → out ≡ with_terms results c sums (at marks a i k) (get_or b k []) → RowSums C c a b i (k + 1) out m'
  turn-taken e o =
      record {
        values = o ∙ ap (λ (s : List Marked). with_terms results c s (at marks a i k) (get_or b k [])) r.values ∙ row_after-more results C c a b i k hc;
        mark = next-mark e;
      }

  -- a turn that is passed over: the sums stay, and the mark counts the row's next number all the same
  pub turn-idle : {n : ℕ} {w q : Bool} {m' : Mark} {out : List Marked} → k < n → Finite w n c b → q ≡ adds_nothing (at marks a i k).value w → not q ≡ false
      → m' ≡ join_marks m (reported (at marks a i k)) → out ≡ sums → RowSums C c a b i (k + 1) out m'
  unfolding adds_nothing with_terms
  turn-idle {n} {w} {q} hk hw e f em o =
      let x = at marks a i k in
      let s = row_after results C c a b i k in
      let t : T (w && is_zero x.value) = subst T e (kept q f) in
      let own : (j : ℕ) → j < c → get_or s j marks.void ≡ cell results k a b i j = λ j hj. row_at (zero_of results) C c (cell results k a b i) j marks.void hj hc in
      record {
        values =
            o ∙ r.values
            ∙ sym (fold-keeps (λ ys. ys ≡ s) 0 c (λ j ys. set ys j (with_term results s x (get_or b k []) j)) s refl
            (λ j lo hj ys q.
            rw q
            (ap (λ (z : Marked). set s j z)
            (sym (term-idle (get_or s j marks.void) x (at marks b k j) (rw (own j hj) (cell-own k a b i j)) (rw (own j hj) (cell-plain k a b i j))
            (and_r w (is_zero x.value) t) (hw.each (and_l w (is_zero x.value) t) k j hk hj)))
            ∙ set-get_or s j marks.void)))
            ∙ row_after-more results C c a b i k hc;
        mark = next-mark em;
      }
    where
      kept : (q : Bool) → not q ≡ false → T q
      kept true f = tt
      kept false f = absurd (true≢false f)

  -- the cell, from its sum and the three marks
  pub cell-joined : (n : ℕ) {columns : List Mark} {v : Marked} {j : ℕ} (d : Mark) → j < c → k ≤ n → n ≤ k → columns ≡ column_marks C c n b
      → v ≡ also_mark (get_or sums j marks.void) (join_marks m (get_or columns j d)) → v ≡ cell marks n a b i j
  unfolding column_marks
  cell-joined n {j = j} d hj h l ec ev =
      let e : k ≡ n = le_antisymm h l in
      ev
      ∙ rw (r.values, ec, r.mark, e, row_at (zero_of results) C c (cell results n a b i) j marks.void hj hc, row_at no_mark C c (column_mark n b) j d hj hc)
      (sym (cell-in-parts n a b i j))

-- ---- the columns' marks, one column after the other
pub columns-none : (C n : ℕ) (b : List (List Marked)) (ms : List Mark) → ms ≡ replicate C no_mark → ms ≡ column_marks C 0 n b
unfolding column_marks row
columns-none C n b ms e = e ∙ fold_start 0 (λ k ys. set ys k (column_mark n b k)) (replicate C no_mark)

pub columns-more : (C n j k : ℕ) (b : List (List Marked)) (ms : List Mark) (m : Mark) → k ≤ n → n ≤ k → ms ≡ column_marks C j n b → m ≡ column_mark k b j → set ms j m ≡ column_marks C (j + 1) n b
unfolding column_marks row
columns-more C n j k b ms m h l e em =
    fold_next 0 j (λ k ys. set ys k (column_mark n b k)) (replicate C no_mark) ms (set ms j m) (omega arith) e
    (ap (λ (y : Mark). set ms j y) (em ∙ ap (λ (x : ℕ). column_mark x b j) (le_antisymm h l)))

pub columns-end : (C n j c : ℕ) (b : List (List Marked)) (ms : List Mark) → j ≤ c → c ≤ j → ms ≡ column_marks C j n b → ms ≡ column_marks C c n b
columns-end C n j c b ms h l e = e ∙ ap (λ (x : ℕ). column_marks C x n b) (le_antisymm h l)

-- ---- where the total of some numbers is finite, so are they
-- the numbers of column j up to k, added to the total t₀
pub record Adding (b : List (List Marked)) (j : ℕ) (t₀ : Float) (k : ℕ) (t : Float) : Type 0 where
  pub first : T (is_finite t) → T (is_finite t₀)
  pub each : T (is_finite t) → (i : ℕ) → i < k → T (is_finite (at marks b i j).value)

-- the numbers of the columns up to j
pub record Added (n : ℕ) (b : List (List Marked)) (j : ℕ) (t : Float) : Type 0 where
  pub each : T (is_finite t) → (j' : ℕ) → j' < j → (i : ℕ) → i < n → T (is_finite (at marks b i j').value)

module _ {b : List (List Marked)} where
  pub added_none : {n : ℕ} {t : Float} → Added n b 0 t
  added_none = record { each = λ h j l. absurd (omega arith) }

  pub adding-none : {j : ℕ} {t : Float} → Adding b j t 0 t
  adding-none = record { first = λ h. h; each = λ h i l. absurd (omega arith) }

  pub adding-more : {j k : ℕ} {t₀ t x : Float} → x ≡ (at marks b k j).value → Adding b j t₀ k t → Adding b j t₀ (k + 1) (add binary64 t x)
  adding-more {j} {k} {t₀} {t} {x} e r =
      record {
        first = λ h. r.first (add-finite binary64 t x h).0;
        each = λ h. below_more _ _ (r.each (add-finite binary64 t x h).0) (subst (λ (y : Float). T (is_finite y)) e (add-finite binary64 t x h).1);
      }

  pub added_more : {n j k : ℕ} {t₀ t : Float} → k ≤ n → n ≤ k → Added n b j t₀ → Adding b j t₀ k t → Added n b (j + 1) t
  added_more {n} {j} {k} h l r q = record { each = λ f. below_more _ _ (r.each (q.first f)) (λ i m. q.each f i (omega arith)) }

  pub added-end : {n j c : ℕ} {t : Float} {w : Bool} → c ≤ j → w ≡ is_finite t → Added n b j t → Finite w n c b
  added-end h e r = record { each = λ f i j hi hj. r.each (subst T e f) j (omega arith) i hi }
