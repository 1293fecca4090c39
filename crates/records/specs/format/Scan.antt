-- Questions over the numbers below n: whether one passes, the largest answer, the last that passes.
use Rattle.std.specs.Prelude.{ℕ, zero, suc, ◌+◌, max, Bool, false, ◌||◌, cond}

-- some i below n passes
unfoldable pub any : ℕ → (ℕ → Bool) → Bool
any zero p = false
any (suc n) p = any n p || p n

-- the largest f i over i below n, or 0
unfoldable pub most : ℕ → (ℕ → ℕ) → ℕ
most zero f = 0
most (suc n) f = max (most n f) (f n)

-- f i at the last i below n that passes, or d
unfoldable pub last {ℓ} : {A : Type ℓ} → ℕ → (ℕ → Bool) → (ℕ → A) → A → A
last zero p f d = d
last (suc n) p f d = cond (p n) (f n) (last n p f d)

-- f 0 + .. + f (n - 1)
unfoldable pub total : ℕ → (ℕ → ℕ) → ℕ
total zero f = 0
total (suc n) f = total n f + f n
