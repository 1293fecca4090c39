-- Rows that stand a stride apart.
use Prim.Native.Nat.{ℕ, ◌+◌, ◌*◌, ◌<◌, ◌≤◌}
use native.Mathlib.Nat.{mul-le-mul}
use native.Mathlib.Omega.{arith}

-- row i of r ends before the last row does, and so before the end of what holds them all
pub row_ends : (i r stride : ℕ) → i < r → i * stride + stride ≤ r * stride
row_ends i r stride l = let z : (i + 1) * stride ≤ r * stride = mul-le-mul (omega arith) (omega arith) in omega arith

pub row_inside : (at i r stride end : ℕ) → at + r * stride ≤ end → i < r → at + i * stride + stride ≤ end
row_inside at i r stride end h l = let z = row_ends i r stride l in omega arith
