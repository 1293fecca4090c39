-- A cell of X from its sum, for any kind of number.
use Prim.Native.Nat.{ℕ, ◌≤◌}
use mathlib.Core.Path.{◌≡◌, ap, ◌∙◌}
use mathlib.Core.List.{List}
use lib.ListN.{get_or}
use Rattle.algebra.specs.Kind.{Arith}
use Rattle.algebra.proofs.FoldLaws.{fold_end}
use Rattle.algebra_elimination.specs.joints.BackSubstitution.{less_known, known_cell}

-- the sum with every known term subtracted, over the pivot
pub known_is : {A : Type 0} (N : Arith A) (n j i k : ℕ) (a : List A) (x : List (List A)) (s y : A) → j ≤ n → n ≤ j → s ≡ less_known N n j a x i k
    → y ≡ N.over s (get_or a i N.void) → y ≡ known_cell N n a x i k
unfolding less_known known_cell
known_is {A} N n j i k a x s y h l e d = d ∙ ap (λ (z : A). N.over z (get_or a i N.void)) (fold_end _ _ _ _ _ _ h l e)
