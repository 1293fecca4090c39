-- (l m) lᵀ from its parts, and that counting marks changes no value.
use Prim.Native.Nat.{ℕ}
use mathlib.Core.Path.{◌≡◌, refl, ◌∙◌}
use mathlib.Core.List.{List}
use Rattle.arithmetic.specs.declared.Marked.{Marked}
use Rattle.arithmetic.proofs.MarkLaws.{also-value}
use Rattle.algebra.specs.Kind.{Arith, marks}
use Rattle.algebra.specs.Product.{at, product, transpose}
use Rattle.algebra.proofs.FoldLaws.{fold-keeps}
use Rattle.algebra.specs.Small.{sandwich, all_marks}

-- (l m) lᵀ from its two factors
pub sandwich-is : {A : Type 0} (N : Arith A) (K C q p : ℕ) (l m left turned out : List (List A)) → left ≡ product N K C q p p l m → turned ≡ transpose N K C q p l
    → out ≡ product N K C q p q left turned → out ≡ sandwich N K C q p l m
unfolding sandwich
sandwich-is N K C q p l m left turned out e f g = rw (← e, ← f) g

-- counting marks changes no value
pub all_marks-value : (r c : ℕ) (a : List (List Marked)) (seen : Marked) → (all_marks marks r c a seen).value ≡ seen.value
unfolding all_marks
all_marks-value r c a seen =
    fold-keeps (λ s. s.value ≡ seen.value) 0 r _ seen refl
    (λ i h l s e. fold-keeps (λ t. t.value ≡ seen.value) 0 c _ s e (λ j u v t q. also-value t (at marks a i j) ∙ q))
