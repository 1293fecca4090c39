-- Document 02, "Req 05": what is promised of the packing. "For N from 1 to 4 and all a and b below N, in either order, the place is 01's, and each place below N(N+1)/2 comes
-- from exactly one unordered pair." Stated for any N.
use Rattle.std.specs.Prelude.{ℕ, ◌+◌, ◌-◌, ◌*◌, ◌/◌, ◌≤◌, ◌<◌, ◌≡◌, ◌⊎◌}
use Rattle.adjustment.specs.Information.{packed}

-- the place k comes from the unordered pair of a and b, and from no other
pub record OnePair (N k : ℕ) : Type 0 where
  pub a : ℕ
  pub b : ℕ
  pub ordered : a ≤ b
  pub inside : b < N
  pub here : packed N a b ≡ k
  pub only : (r s : ℕ) → r < N → s < N → packed N r s ≡ k → ((r ≡ a) × (s ≡ b)) ⊎ ((r ≡ b) × (s ≡ a))

pub record PackedOnce (N : ℕ) : Type 0 where
  -- "in either order, the place is 01's": "a·N − a(a+1)/2 + b, a the smaller index"
  pub place : (a b : ℕ) → a ≤ b → b < N → (packed N a b ≡ a * N - a * (a + 1) / 2 + b) × (packed N b a ≡ a * N - a * (a + 1) / 2 + b)
  -- its half is exact and its difference not below 0: the formula means the same here, where a half is rounded down and a difference stops at 0
  pub exact : (a : ℕ) → a < N → (2 * (a * (a + 1) / 2) ≡ a * (a + 1)) × (a * (a + 1) / 2 ≤ a * N)
  -- every pair has a place below N(N+1)/2, and "each place below N(N+1)/2 comes from exactly one unordered pair"
  pub below : (r s : ℕ) → r < N → s < N → packed N r s < N * (N + 1) / 2
  pub once : (k : ℕ) → k < N * (N + 1) / 2 → OnePair N k
