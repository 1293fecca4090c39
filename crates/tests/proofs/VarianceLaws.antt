-- The values of a gradient: the cells of the list that r is made of, and that they depend on the values alone, of whatever kind the numbers are.
use Prim.Native.Nat.{ℕ, ◌≤◌, ◌<◌}
use mathlib.Core.Path.{◌≡◌, ap}
use mathlib.Core.List.{List}
use lib.ListN.{replicate, set}
use Rattle.arithmetic.specs.Numbers.{plus_zero}
use Rattle.algebra.specs.Table.{row}
use Rattle.algebra.specs.Kind.{Arith, floats}
use Rattle.algebra.proofs.FoldLaws.{fold-ext}
use Rattle.algebra.proofs.TableLaws.{row_at}
use Rattle.tests.specs.VarianceDf.{entry_at, gradient_values}

pub gradient_values-at : {A : Type 0} (N : Arith A) (n : ℕ) (g : List A) (i : ℕ) → i < n → n ≤ 6 → entry_at floats (gradient_values N n g) i ≡ N.value (entry_at N g i)
unfolding gradient_values
gradient_values-at N n g i l h = row_at plus_zero 6 n (λ i. N.value (entry_at N g i)) i floats.void l h

pub gradient_values-agree : {A B : Type 0} (N : Arith A) (M : Arith B) (n : ℕ) (g : List A) (g' : List B)
    → ((i : ℕ) → i < n → N.value (entry_at N g i) ≡ M.value (entry_at M g' i)) → gradient_values N n g ≡ gradient_values M n g'
unfolding gradient_values row
gradient_values-agree N M n g g' e = fold-ext 0 n _ _ (replicate 6 plus_zero) (λ i h l ys. ap (set ys i) (e i l))
