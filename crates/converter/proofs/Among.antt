-- One of four kinds.
use Prim.Native.Nat.{ℕ}
use mathlib.Core.Path.{◌≡◌, sym, subst}
use mathlib.Core.Bool.{Bool, true, ◌||◌}
use mathlib.Core.Logic.{◌⊎◌, inl, inr}
use lib.Dec.{T, eqb, eqb→eq}
use Rattle.arithmetic.proofs.PlainLaws.{of_eq}
use Rattle.arithmetic.proofs.RangeTest.{or_cases}

pub among : (a b c d : ℕ) (P : ℕ → Type 0) → P a → P b → P c → P d → (k : ℕ) → (eqb k a || eqb k b || eqb k c || eqb k d) ≡ true → P k
among a b c d P pa pb pc pd k h = one_more (eqb k a || eqb k b || eqb k c) d (one_more (eqb k a || eqb k b) c (one_more (eqb k a) b (here a pa) pb) pc) pd (of_eq h)
  where
    here : (n : ℕ) → P n → T (eqb k n) → P k
    here n p t = subst P (sym (eqb→eq k n t)) p

    one_more : (x : Bool) (n : ℕ) → (T x → P k) → P n → T (x || eqb k n) → P k
    one_more x n f p t = go (or_cases x (eqb k n) t)
      where
        go : T x ⊎ T (eqb k n) → P k
        go (inl y) = f y
        go (inr y) = here n p y
