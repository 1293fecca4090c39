-- Exact multiplication by a power of two, and the binary exponent.
use Rattle.std.specs.Prelude.{ℕ, zero, suc, ◌*◌, ◌≤◌, ◌<◌, false, ℤ, ◌+ℤ◌, Float}
use Rattle.std.proofs.Math.IntN.{suc_ℤ}
use Rattle.std.specs.Float.{nan, inf, fin}
use Rattle.std.specs.Float.Ieee.{up, down}

-- the exponent of m * 2 ^ e after a shift by u; a zero keeps its own, so that it stays written in the one way that it has
abbrev pub shift_exp : ℕ → ℤ → ℤ → ℤ
shift_exp zero e u = e
shift_exp (suc m) e u = e +ℤ u

-- x times 2 ^ u, exactly, with no bound on the exponent; zeros, infinities and NaNs stay
abbrev pub scale : ℤ → Float → Float
scale u nan = nan
scale u (inf s) = inf s
scale u (fin s m e) = fin s m (shift_exp m e u)

-- 2 ^ u
abbrev pub power_of_two : ℤ → Float
power_of_two u = fin false 1 u

-- e is the binary exponent of x: 2 ^ e ≤ |x| < 2 ^ (e + 1) (document 01, "Arithmetic"). 2 ^ e is the fraction up e / down e; no exponent belongs to a zero.
abbrev pub HasExponent : Float → ℤ → Type 0
HasExponent nan e = ⊥
HasExponent (inf s) e = ⊥
HasExponent (fin s m d) e = (up e * down d ≤ m * up d * down e) × (m * up d * down (suc_ℤ e) < up (suc_ℤ e) * down d)
