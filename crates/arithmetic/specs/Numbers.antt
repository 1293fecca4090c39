-- Plain f64 numbers. `Float` is an f64's value: a NaN, an infinity by its sign, or `fin s m e`, which is m * 2 ^ e with the sign s (true is minus).
-- A bit pattern is read by `of_bits binary64` and written by `to_bits binary64` of `lib.Ieee`; every NaN is written as 7ff8000000000000.
-- The operations + - * / are `add`, `sub`, `mul`, `div` of `lib.Ieee` at `binary64`: each rounds once, to nearest even (document 01, "Each + - * / rounds once").
use Rattle.std.specs.Prelude.{ℕ, Bool, true, false, cond, pos, Float}
use Rattle.std.specs.Float.{nan, inf, fin, binary64}
use Rattle.std.specs.Float.Ieee.{lt, eq, of_int}

-- +0, 1 and -1
abbrev pub plus_zero : Float
plus_zero = fin false 0 (pos 0)

abbrev pub one : Float
one = fin false 1 (pos 0)

abbrev pub minus_one : Float
minus_one = fin true 1 (pos 0)

-- |x|, the value without its sign; |-0| is +0
unfoldable pub magnitude : Float → Float
magnitude nan = nan
magnitude (inf s) = inf false
magnitude (fin s m e) = fin false m e

-- x is +0 or -0
unfoldable pub is_zero : Float → Bool
is_zero x = eq x plus_zero

-- x is neither a NaN nor an infinity
unfoldable pub is_finite : Float → Bool
is_finite nan = false
is_finite (inf s) = false
is_finite (fin s m e) = true

-- the sign of Jacobi's rotations: -1 where x < 0, and 1 otherwise (document 01: "sign(0) = 1", so of -0 too)
unfoldable pub sign : Float → Float
sign x = cond (lt x plus_zero) minus_one one

-- the magnitude of x is strictly larger than that of y: what replaces a pivot (document 01: "replaced only by a strictly larger one")
unfoldable pub is_larger : Float → Float → Bool
is_larger x y = lt (magnitude y) (magnitude x)

-- a whole number as an f64; exact up to 2 ^ 53
unfoldable pub of_count : ℕ → Float
of_count n = of_int binary64 (pos n)
