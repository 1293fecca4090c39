-- How a loop's invariant starts, goes on and ends: for a sum, for a running sum over rows, and for a table that is filled. Over any kind of number.
use Prim.Native.Nat.{ℕ, ◌+◌, ◌≤◌}
use native.Mathlib.Omega.{arith}
use native.Mathlib.Nat.{le_antisymm}
use mathlib.Core.Path.{◌≡◌, ap, ◌∙◌}
use mathlib.Core.List.{List}
use Rattle.algebra.specs.Fold.{fold}
use Rattle.algebra.specs.Table.{table}
use Rattle.algebra.specs.Kind.{Arith, zero_of}
use Rattle.algebra.specs.Product.{at, sum}
use Rattle.algebra.proofs.FoldLaws.{fold_start, fold_next, fold_end}

-- the last turn of a table: its rows are those of the size in use
pub table-end : {A : Type 0} (z : A) (R C c : ℕ) (f : ℕ → ℕ → A) (k r : ℕ) (m : List (List A)) → k ≤ r → r ≤ k → m ≡ table z R C k c f → m ≡ table z R C r c f
table-end z R C c f k r m h l e = e ∙ ap (λ (n : ℕ). table z R C n c f) (le_antisymm h l)

module _ {A : Type 0} (N : Arith A) where
  -- a sum of no terms, of one term more, and of all terms
  pub sum-none : (f : ℕ → A) → zero_of N ≡ sum N 0 f
  unfolding sum
  sum-none f = fold_start 0 (λ k s. N.plus s (f k)) (zero_of N)

  pub sum_more : (f : ℕ → A) (k : ℕ) (s y : A) → s ≡ sum N k f → y ≡ N.plus s (f k) → y ≡ sum N (k + 1) f
  unfolding sum
  sum_more f k s y e h = fold_next 0 k (λ k s. N.plus s (f k)) (zero_of N) s y (omega arith) e h

  pub sum-end : (f : ℕ → A) (k n : ℕ) (s : A) → k ≤ n → n ≤ k → s ≡ sum N k f → s ≡ sum N n f
  unfolding sum
  sum-end f k n s h l e = fold_end 0 k n (λ k s. N.plus s (f k)) (zero_of N) s h l e

-- Two loops that run over cells, row after row, with one running value: t i j is the step at cell (i, j), and a the value at first.
module _ {A : Type 0} (t : ℕ → ℕ → A → A) (a : A) (c : ℕ) where
  -- the value after i rows
  abbrev pub rows_to : ℕ → A
  rows_to i = fold 0 i (λ i y. fold 0 c (t i) y) a

  pub rows_none : a ≡ rows_to 0
  rows_none = fold_start 0 (λ i y. fold 0 c (t i) y) a

  -- from x after i rows to y after row i, whose loop ended at j
  pub rows_more : (i j : ℕ) (x y : A) → x ≡ rows_to i → y ≡ fold 0 j (t i) x → j ≤ c → c ≤ j → y ≡ rows_to (i + 1)
  rows_more i j x y e r h l = fold_next 0 i (λ i y. fold 0 c (t i) y) a x y (omega arith) e (fold_end 0 j c (t i) x y h l r)

  pub rows_end : (k r : ℕ) (x : A) → k ≤ r → r ≤ k → x ≡ rows_to k → x ≡ rows_to r
  rows_end k r x h l e = fold_end 0 k r (λ i y. fold 0 c (t i) y) a x h l e

-- the step of the running sum of the products of like cells, and that of the marks of all cells
abbrev pub like_step : {A : Type 0} → Arith A → List (List A) → List (List A) → ℕ → ℕ → A → A
like_step N a b i j s = N.plus s (N.times (at N a i j) (at N b i j))

abbrev pub mark_step : {A : Type 0} → Arith A → List (List A) → ℕ → ℕ → A → A
mark_step N a i j s = N.also s (at N a i j)
