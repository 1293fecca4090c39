-- Numbers below N that are all different are at most N.
use Prim.Native.Nat.{ℕ, zero, suc, ◌<◌, ◌≤◌}
use mathlib.Core.Path.{◌≡◌, refl, sym, ◌∙◌}
use mathlib.Core.Bool.{Bool, true, false, cond}
use native.Mathlib.Nat.{not-suc-le-zero}
use native.Mathlib.Omega.{arith}
use lib.Dec.{eqb}
use borrow.Author.Tests.{eqb-true, eqb-false}

-- with the largest number N taken out: f of the last in its place
swapped : (ℕ → ℕ) → ℕ → ℕ → ℕ → ℕ
swapped f N m i = cond (eqb (f i) N) (f m) (f i)

module _ (f : ℕ → ℕ) (N m : ℕ) (below : (i : ℕ) → i < suc m → f i < suc N) (apart : (i j : ℕ) → i < j → j < suc m → f i ≡ f j → ⊥) where
  swapped-below : (i : ℕ) → i < m → swapped f N m i < N
  unfolding swapped
  swapped-below i l = go (eqb (f i) N) refl
    where
      go : (b : Bool) → eqb (f i) N ≡ b → cond b (f m) (f i) < N
      go true e = let p = eqb-true (f i) N e in let q = apart i m l (omega arith) in let r = below m (omega arith) in let n : f m ≡ N → ⊥ = λ x. q (p ∙ sym x) in omega arith
      go false e = let p = eqb-false (f i) N e in let r = below i (omega arith) in omega arith

  swapped-apart : (i j : ℕ) → i < j → j < m → swapped f N m i ≡ swapped f N m j → ⊥
  unfolding swapped
  swapped-apart i j l h = go (eqb (f i) N) refl (eqb (f j) N) refl
    where
      go : (a : Bool) → eqb (f i) N ≡ a → (b : Bool) → eqb (f j) N ≡ b → cond a (f m) (f i) ≡ cond b (f m) (f j) → ⊥
      go true p true q e = apart i j l (omega arith) (eqb-true (f i) N p ∙ sym (eqb-true (f j) N q))
      go true p false q e = apart j m h (omega arith) (sym e)
      go false p true q e = apart i m (omega arith) (omega arith) e
      go false p false q e = apart i j l (omega arith) e

pub pigeons : (N n : ℕ) (f : ℕ → ℕ) → ((i : ℕ) → i < n → f i < N) → ((i j : ℕ) → i < j → j < n → f i ≡ f j → ⊥) → n ≤ N
pigeons N zero f below apart = omega arith
pigeons zero (suc m) f below apart = absurd (not-suc-le-zero (below 0 (omega arith)))
pigeons (suc N) (suc m) f below apart = let h = pigeons N m (swapped f N m) (swapped-below f N m below apart) (swapped-apart f N m below apart) in omega arith
