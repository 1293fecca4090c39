-- Not needed to check document 01: names that join the code to its definitions.
-- The square root of a positive finite number by its bit pattern: what the code computes. That it is `square_root` is a law, not a definition.
use Rattle.std.specs.Prelude.{ℕ, zero, suc, ◌+◌, ◌-◌, ◌*◌, ◌/◌, ◌%◌, ◌^◌}
use Rattle.arithmetic.specs.SquareRoot.{missing_digits, radicand, rounded}

-- the significand of 53 digits of a pattern with the exponent's field k and the digits t: a subnormal's (k = 0) is normalised
abbrev pub lead : ℕ → ℕ → ℕ
lead zero t = t * 2 ^ missing_digits t
lead (suc k) t = 2 ^ 52 + t

-- its exponent, more 1126: the value is lead * 2 ^ (expo - 1126)
abbrev pub expo : ℕ → ℕ → ℕ
expo zero t = 52 - missing_digits t
expo (suc k) t = suc k + 51

-- the pattern of q * 2 ^ (n / 2 - 589), q of 53 digits: its leading digit adds 1 to the exponent's field
abbrev pub pattern : ℕ → ℕ → ℕ
pattern n q = (n / 2 + 485) * 2 ^ 52 + q

-- the pattern of the root of M * 2 ^ (n - 1126)
abbrev pub root_pattern : ℕ → ℕ → ℕ
root_pattern M n = pattern n (rounded (radicand M (n % 2)))

-- the pattern of the root of the value of the pattern b
unfoldable pub root_bits : ℕ → ℕ
root_bits b = root_pattern (lead (b / 2 ^ 52) (b % 2 ^ 52)) (expo (b / 2 ^ 52) (b % 2 ^ 52))
