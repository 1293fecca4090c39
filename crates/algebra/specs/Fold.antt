-- A counted loop: `fold lo hi s a` is a after the steps s lo, s (lo + 1), .., s (hi - 1), in this order.
use Rattle.std.specs.Prelude.{ℕ, zero, suc, cond, List, leb, set}

unfoldable pub fold {ℓ} : {A : Type ℓ} → ℕ → ℕ → (ℕ → A → A) → A → A
fold lo zero s a = a
fold lo (suc n) s a = cond (leb lo n) (s n (fold lo n s a)) (fold lo n s a)

-- xs with its elements from lo up to hi replaced by f lo, .., f (hi - 1)
abbrev pub span {ℓ} : {A : Type ℓ} → ℕ → ℕ → (ℕ → A) → List A → List A
span lo hi f xs = fold lo hi (λ k ys. set ys k (f k)) xs
