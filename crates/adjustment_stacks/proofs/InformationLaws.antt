-- How the calls between S and IE make up their definitions: one turn of each loop, and the whole of each result.
use Prim.Native.Nat.{ℕ, ◌+◌, ◌*◌, ◌<◌, ◌≤◌}
use native.Mathlib.Omega.{arith}
use native.Mathlib.Decide.{dec_le}
use mathlib.Core.Path.{◌≡◌, refl, sym, ap, ◌∙◌}
use mathlib.Core.Bool.{cond}
use mathlib.Core.List.{List, []}
use lib.Dec.{leb, ltb}
use lib.ListN.{get_or, length, set, replicate}
use lib.Ieee.{Float, nan}
use borrow.Author.Tests.{le-leb, lt-leb, le-ltb, lt-ltb}
use Rattle.arithmetic.specs.Numbers.{plus_zero}
use Rattle.algebra.specs.Fold.{fold}
use Rattle.algebra.specs.Table.{table, blank}
use Rattle.algebra.specs.Kind.{floats}
use Rattle.algebra.specs.Product.{at, product, transpose}
use Rattle.algebra.specs.Jacobi.{mirrored}
use Rattle.algebra.proofs.FoldLaws.{fold_start, fold_next, fold_end, fold-keeps, fold-ext}
use Rattle.algebra.proofs.TableLaws.{table_at, table-ext}
use Rattle.algebra_large.specs.joints.Slab.{rows_at, put_rows, Holds, Apart}
use Rattle.algebra_large.proofs.SlabLaws.{frame}
use Rattle.algebra.specs.Small.{Rows}
use Rattle.adjustment.specs.Information.{p_rows, q_rows, packed, k_cell, ie_cell, mirror}
use Rattle.adjustment.specs.Adjusted.{Stack, matrix_at, stack, q_stack}
use Rattle.adjustment_work.specs.joints.Work.{square, part}
use Rattle.adjustment_work.specs.joints.Steps.{s_at, h_at, sx_at, o_at, o_transposed_s, o_transposed_s_to, q_row_to, ie_at, upper_cell, upper}
use Rattle.adjustment_covariance.proofs.GainLaws.{q-is}
use Rattle.adjustment_work.proofs.WorkLaws.{turned-held, turned_apart}

-- the Ps: none, one more, all
module _ (s n p : ℕ) (xs : List Float) where
  abbrev p_at : ℕ → Rows
  p_at r = p_rows n p (o_at s n p xs r) (sx_at s n p xs)

  pub p-more : (r o t : ℕ) (m : Rows) (st : Stack) → st ≡ stack 4 r p_at → o ≡ part s (1 + r) → t ≡ part s 0 → m ≡ p_rows n p (rows_at 6 o n p xs) (rows_at 6 t n p xs)
      → set st r m ≡ stack 4 (r + 1) p_at
  unfolding stack
  p-more r o t m st e eo et em =
      fold_next 0 r (λ k ys. set ys k (p_at k)) (replicate 4 (blank plus_zero 6 6)) st (set st r m) (omega arith) e
      (ap (λ (x : Rows). set st r x)
      (em ∙ ap (λ (a : ℕ). p_rows n p (rows_at 6 a n p xs) (rows_at 6 t n p xs)) eo ∙ ap (λ (a : ℕ). p_rows n p (o_at s n p xs r) (rows_at 6 a n p xs)) et))

-- the Qs of r: one more
pub q-more : (s n p N r t e o k : ℕ) (xs : List Float) (m : Rows) (st qs : Stack) → r ≤ t
    → st ≡ q_row_to N r t (λ t. product floats 6 6 p n p (rows_at n (part s 5) p n xs) (o_at s n p xs t)) qs → e ≡ part s 5 → o ≡ part s (1 + t) → k ≡ packed N r t
    → m ≡ product floats 6 6 p n p (rows_at n e p n xs) (rows_at 6 o n p xs)
    → set st k m ≡ q_row_to N r (t + 1) (λ t. product floats 6 6 p n p (rows_at n (part s 5) p n xs) (o_at s n p xs t)) qs
unfolding q_row_to
q-more s n p N r t e o k xs m st qs l es ee eo ek em =
    fold_next r t (λ t st. set st (packed N r t) (product floats 6 6 p n p (rows_at n (part s 5) p n xs) (o_at s n p xs t))) qs st (set st k m) l es
    (ap (λ (a : ℕ). set st a m) ek
    ∙ ap (λ (x : Rows). set st (packed N r t) x)
    (em ∙ ap (λ (a : ℕ). product floats 6 6 p n p (rows_at n a p n xs) (rows_at 6 o n p xs)) ee
    ∙ ap (λ (a : ℕ). product floats 6 6 p n p (rows_at n (part s 5) p n xs) (rows_at 6 a n p xs)) eo))

-- IE_rt
pub ie-is : (s n p N r t a b k : ℕ) (phi : Rows) (ps qs : Stack) (ws : List Float) (trace x : Float) → a ≡ square s (2 + r) → b ≡ square s (2 + t)
    → trace ≡ k_cell n (rows_at s a n n ws) (rows_at s b n n ws) → k ≡ packed N r t → x ≡ ie_cell p trace phi (matrix_at qs k) (matrix_at ps r) (matrix_at ps t)
    → x ≡ ie_at s n p N phi ps qs ws r t
unfolding ie_at
ie-is s n p N r t a b k phi ps qs ws trace x ea eb et ek ex = rw (← ea, ← eb, ← et, ← ek) ex

-- IE, from its upper half
pub mirror-is : (N : ℕ) (f : ℕ → ℕ → Float) (half m : Rows) → N ≤ 6 → half ≡ upper N f → m ≡ mirrored floats 6 6 N half → m ≡ mirror N f
unfolding mirror mirrored upper upper_cell
mirror-is N f half m h eh em =
    em
    ∙ table-ext plus_zero 6 6 N N (λ i j. cond (ltb j i) (at floats half j i) (at floats half i j)) (λ r s. cond (leb r s) (f r s) (f s r)) (λ i j hi hj. go i j hi hj (dec_le i j))
  where
    cell : (i j : ℕ) → i < N → j < N → at floats half i j ≡ cond (leb i j) (f i j) plus_zero
    cell i j hi hj = rw eh (table_at plus_zero 6 6 N N (λ r t. cond (leb r t) (f r t) plus_zero) i j nan hi hj h h)

    go : (i j : ℕ) → i < N → j < N → Dec (i ≤ j) → cond (ltb j i) (at floats half j i) (at floats half i j) ≡ cond (leb i j) (f i j) (f j i)
    go i j hi hj (yes l) = rw (le-ltb j i l, le-leb i j l) (cell i j hi hj ∙ rw (le-leb i j l))
    go i j hi hj (no l) =
        let g : j < i = omega arith in
        let w : j ≤ i = omega arith in
        rw (lt-ltb j i g, lt-leb i j g) (cell j i hj hi ∙ rw (le-leb j i w))

-- the Qs of one r, whose cells agree
pub q-row-ext : (N r hi : ℕ) (f g : ℕ → Rows) (qs : Stack) → ((t : ℕ) → r ≤ t → t < hi → f t ≡ g t) → q_row_to N r hi f qs ≡ q_row_to N r hi g qs
unfolding q_row_to
q-row-ext N r hi f g qs h =
    fold-ext r hi (λ t st. set st (packed N r t) (f t)) (λ t st. set st (packed N r t) (g t)) qs (λ t l m st. ap (λ (x : Rows). set st (packed N r t) x) (h t l m))

-- the Qs of r, where O_rᵀS was put into part 5
module _ (s n p N r q e o : ℕ) (ws xs ys : List Float) (hn : n ≤ s) (hp : p ≤ 6) (h : 6 * (6 * s) ≤ length xs) (eq : q ≡ square s 1) (ee : e ≡ part s 5) (eo : o ≡ part s (1 + r))
    (ey : ys ≡ put_rows n e p n (product floats p n p n n (transpose floats p n n p (rows_at 6 o n p xs)) (rows_at s q n n ws)) xs) where
  pub turned-put : ys ≡ put_rows n (part s 5) p n (o_transposed_s n p (o_at s n p xs r) (s_at s n ws)) xs
  unfolding o_transposed_s
  turned-put = rw (← eq, ← ee, ← eo) ey

  pub q-row-is : (m qs : Stack) → N ≤ 4 → m ≡ q_row_to N r N (λ t. product floats 6 6 p n p (rows_at n (part s 5) p n ys) (o_at s n p ys t)) qs
      → m ≡ q_row_to N r N (λ t. q_rows n p (o_at s n p xs r) (s_at s n ws) (o_at s n p xs t)) qs
  unfolding o_transposed_s
  q-row-is m qs hN em =
      em
      ∙ q-row-ext N r N (λ t. product floats 6 6 p n p (rows_at n (part s 5) p n ys) (o_at s n p ys t)) (λ t. q_rows n p (o_at s n p xs r) (s_at s n ws) (o_at s n p xs t)) qs
      (λ t l u.
      q-is (part s 5) n p (part s (1 + t)) (o_at s n p xs r) (s_at s n ws) (o_at s n p xs t) (product floats 6 6 p n p (rows_at n (part s 5) p n ys) (o_at s n p ys t)) xs ys
      (turned-held s n p (part s 5) (length xs) hn hp h refl) (turned_apart s n p (1 + t) (part s 5) (part s (1 + t)) hn hp (omega arith) refl refl) hp refl turned-put refl)

-- the Os stand as they were, whatever was put into part 5
pub turned-frame : (s n p k i : ℕ) (o : ℕ → Rows) (sm : Rows) (xs : List Float) → n ≤ s → p ≤ 6 → i < 4 → o_at s n p (o_transposed_s_to s n p k o sm xs) i ≡ o_at s n p xs i
unfolding o_transposed_s_to
turned-frame s n p k i o sm xs hn hp hi =
    fold-keeps (λ ys. o_at s n p ys i ≡ o_at s n p xs i) 0 k (λ r ys. put_rows n (part s 5) p n (o_transposed_s n p (o r) sm) ys) xs refl
    (λ r lo hr ys e.
    frame n (part s 5) p n 6 (part s (1 + i)) n p (o_transposed_s n p (o r) sm) ys (turned_apart s n p (1 + i) (part s 5) (part s (1 + i)) hn hp (omega arith) refl refl) (omega arith) hp ∙ e)

-- the Qs of each r < k
unfoldable pub qs_to : ℕ → ℕ → (ℕ → ℕ → Rows) → Stack
qs_to N k f = fold 0 k (λ r st. q_row_to N r N (f r) st) (replicate 10 (blank plus_zero 6 6))

pub qs-none : (N : ℕ) (f : ℕ → ℕ → Rows) (m : Rows) → m ≡ blank plus_zero 6 6 → replicate 10 m ≡ qs_to N 0 f
unfolding qs_to
qs-none N f m e = rw e (fold_start 0 (λ r st. q_row_to N r N (f r) st) (replicate 10 (blank plus_zero 6 6)))

pub qs-end : (N k : ℕ) (f : ℕ → ℕ → Rows) (st : Stack) → k ≤ N → N ≤ k → st ≡ qs_to N k f → st ≡ q_stack N f
unfolding qs_to q_row_to q_stack
qs-end N k f st h l e = fold_end 0 k N (λ r st. fold r N (λ s st. set st (packed N r s) (f r s)) st) (replicate 10 (blank plus_zero 6 6)) st h l e

-- one more r
module _ (s n p N k : ℕ) (ws xs ys : List Float) (hn : n ≤ s) (hp : p ≤ 6) (hN : N ≤ 4) (hk : k < N) (ey : ys ≡ o_transposed_s_to s n p k (o_at s n p xs) (s_at s n ws) xs) where
  os-stand : (i : ℕ) → i < 4 → o_at s n p ys i ≡ o_at s n p xs i
  os-stand i hi = ap (λ (l : List Float). o_at s n p l i) ey ∙ turned-frame s n p k i (o_at s n p xs) (s_at s n ws) xs hn hp hi

  pub turned_more : (zs : List Float) → zs ≡ put_rows n (part s 5) p n (o_transposed_s n p (o_at s n p ys k) (s_at s n ws)) ys → zs ≡ o_transposed_s_to s n p (k + 1) (o_at s n p xs) (s_at s n ws) xs
  unfolding o_transposed_s_to
  turned_more zs ez =
      fold_next 0 k (λ r ys. put_rows n (part s 5) p n (o_transposed_s n p (o_at s n p xs r) (s_at s n ws)) ys) xs ys zs (omega arith) ey
      (ez ∙ ap (λ (m : Rows). put_rows n (part s 5) p n (o_transposed_s n p m (s_at s n ws)) ys) (os-stand k (omega arith)))

  pub qs-more : (st next : Stack) → st ≡ qs_to N k (λ r t. q_rows n p (o_at s n p xs r) (s_at s n ws) (o_at s n p xs t))
      → next ≡ q_row_to N k N (λ t. q_rows n p (o_at s n p ys k) (s_at s n ws) (o_at s n p ys t)) st
      → next ≡ qs_to N (k + 1) (λ r t. q_rows n p (o_at s n p xs r) (s_at s n ws) (o_at s n p xs t))
  unfolding qs_to
  qs-more st next es en =
      fold_next 0 k (λ r st. q_row_to N r N (λ t. q_rows n p (o_at s n p xs r) (s_at s n ws) (o_at s n p xs t)) st) (replicate 10 (blank plus_zero 6 6)) st next (omega arith) es
      (en
      ∙ q-row-ext N k N (λ t. q_rows n p (o_at s n p ys k) (s_at s n ws) (o_at s n p ys t)) (λ t. q_rows n p (o_at s n p xs k) (s_at s n ws) (o_at s n p xs t)) st
      (λ t l u. rw (os-stand k (omega arith), os-stand t (omega arith))))
