-- The square root, over whole numbers (document 01: "Square root is correctly rounded over whole numbers, subnormal arguments included").
use Rattle.std.specs.Prelude.{ℕ, zero, suc, ◌+◌, ◌-◌, ◌*◌, ◌/◌, ◌%◌, ◌^◌, ◌≤◌, ◌<◌, false, cond, ℤ, pos, negsuc, ◌+ℤ◌, ◌-ℤ◌, leb, Float}
use Rattle.std.specs.Float.{nan, inf, fin, binary64}
use Rattle.std.specs.Float.Ieee.{up, down, size, round}
use Rattle.std.specs.Float.Ieee.Exact.{HasValue}
use Rattle.arithmetic.specs.Scale.{scale}

-- the whole part of the square root of n, n below 4 ^ k, by binary digits: two digits of n give one of the root
unfoldable pub whole_root : ℕ → ℕ → ℕ
whole_root zero n = 0
whole_root (suc k) n = let r = 2 * whole_root k (n / 4) in cond (leb ((r + 1) * (r + 1)) n) (r + 1) r

-- half of an exponent, rounded down, and what is left
abbrev pub half : ℤ → ℤ
half (pos n) = pos (n / 2)
half (negsuc n) = negsuc (n / 2)

abbrev pub parity : ℤ → ℕ
parity (pos n) = n % 2
parity (negsuc n) = 1 - n % 2

-- how many zeros follow m to make 53 binary digits of it: the leading-zero count normalises by this many
abbrev pub missing_digits : ℕ → ℕ
missing_digits m = 53 - size m

-- the significand M of 53 digits, with an odd exponent's p = 1 taken in, as a whole number below 2 ^ 108 whose root has 54 digits
abbrev pub radicand : ℕ → ℕ → ℕ
radicand M p = M * 2 ^ (54 + p)

-- the root of N to 53 digits: its whole part has 54, and the last of them says which way to round
abbrev pub rounded : ℕ → ℕ
rounded N = (whole_root 54 N + 1) / 2

-- the root of M * 2 ^ E, M of 53 digits
abbrev pub root_at : ℕ → ℤ → Float
root_at M E = scale (half E +ℤ negsuc 25) (round binary64 false (rounded (radicand M (parity E))) 1)

-- the square root of an f64: a negative argument gives a NaN, -0 gives -0, +infinity gives +infinity
unfoldable pub square_root : Float → Float
square_root nan = nan
square_root (inf s) = cond s nan (inf false)
square_root (fin s zero e) = fin s zero e
square_root (fin s (suc m) e) = cond s nan (root_at (suc m * 2 ^ missing_digits (suc m)) (e -ℤ pos (missing_digits (suc m))))

-- ---- what "correctly rounded" says of a positive x and its root y
-- q has 53 binary digits
abbrev pub Full : ℕ → Type 0
Full q = (2 ^ 52 ≤ q) × (q < 2 ^ 53)

-- 2 q is less than 1 from the root of N, so q is the whole number nearest to half of that root, and no tie occurs
abbrev pub Near : ℕ → ℕ → Type 0
Near N q = ((2 * q - 1) * (2 * q - 1) < N) × (N < (2 * q + 1) * (2 * q + 1))

-- y is q * 2 ^ h with q of 53 digits, x is N * 2 ^ (2 h) / 4, and (2 q - 1)² < N < (2 q + 1)²
pub record CorrectlyRounded (x y : Float) : Type 0 where
  pub q : ℕ
  pub N : ℕ
  pub h : ℤ
  pub digits : Full q
  pub result : HasValue y false (q * up h) (1 * down h)
  pub argument : HasValue x false (N * up (h +ℤ h)) (4 * down (h +ℤ h))
  pub near : Near N q
