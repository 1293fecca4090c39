-- Two loops over the pairs i ≤ j of n, row after row, with one running value: t i j is the step at the pair (i, j), and a the value at first.
use Prim.Native.Nat.{ℕ, ◌+◌, ◌≤◌}
use native.Mathlib.Omega.{arith}
use mathlib.Core.Path.{◌≡◌}
use Rattle.algebra.specs.Fold.{fold}
use Rattle.algebra.proofs.FoldLaws.{fold_start, fold_next, fold_end}

module _ {A : Type 0} (t : ℕ → ℕ → A → A) (a : A) (n : ℕ) where
  -- the value after i rows
  abbrev pub pairs_to : ℕ → A
  pairs_to i = fold 0 i (λ i y. fold i n (t i) y) a

  pub pairs-none : a ≡ pairs_to 0
  pairs-none = fold_start 0 (λ i y. fold i n (t i) y) a

  -- from x after i rows to y after row i, whose loop ended at j
  pub pairs-more : (i j : ℕ) (x y : A) → x ≡ pairs_to i → y ≡ fold i j (t i) x → j ≤ n → n ≤ j → y ≡ pairs_to (i + 1)
  pairs-more i j x y e r h l = fold_next 0 i (λ i y. fold i n (t i) y) a x y (omega arith) e (fold_end i j n (t i) x y h l r)

  pub pairs_end : (k : ℕ) (x : A) → k ≤ n → n ≤ k → x ≡ pairs_to k → x ≡ pairs_to n
  pairs_end k x h l e = fold_end 0 k n (λ i y. fold i n (t i) y) a x h l e
