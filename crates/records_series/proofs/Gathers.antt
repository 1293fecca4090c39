-- Blocks whose numbers are small enough for a usize.
use Prim.Native.Nat.{ℕ, zero, suc, ◌≤◌}
use mathlib.Core.List.{List, [], ◌∷◌}
use native.Mathlib.Omega.{arith}
use lib.ListN.{set, replicate}
use Rattle.adjustment.specs.declared.Block.{Block}
use Rattle.adjustment.specs.Blocks.{no_block, block_at}

abbrev pub Bounded : List Block → Type 0
Bounded blocks = (b : ℕ) → ((block_at blocks b).effects ≤ 255) × ((block_at blocks b).groups ≤ 4294967295)

pub none-bounded : Bounded (replicate 3 no_block)
none-bounded zero = (omega arith, omega arith)
none-bounded (suc zero) = (omega arith, omega arith)
none-bounded (suc (suc zero)) = (omega arith, omega arith)
none-bounded (suc (suc (suc b))) = (omega arith, omega arith)

pub set-bounded : (l : List Block) (i : ℕ) (v : Block) → (v.effects ≤ 255) × (v.groups ≤ 4294967295) → Bounded l → Bounded (set l i v)
set-bounded [] i v h f b = f b
set-bounded (x ∷ l) zero v h f zero = h
set-bounded (x ∷ l) zero v h f (suc b) = f (suc b)
set-bounded (x ∷ l) (suc i) v h f zero = f zero
set-bounded (x ∷ l) (suc i) v h f (suc b) = set-bounded l i v h (λ j. f (suc j)) b
