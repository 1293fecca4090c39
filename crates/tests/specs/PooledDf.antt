-- Document 01, "ddf.rs": "Otherwise `get_fstat_ddf`, tolerance 1e-8: one, or all strictly within tolerance of the first, gives the first; else any ≤ 2 gives 2; else
-- 2E/(E−q), E = sum of ν/(ν−2)." All on plain numbers, n of them.
use Rattle.std.specs.Prelude.{ℕ, Bool, true, false, cond, ◌&&◌, ◌||◌, List, eqb, get_or, Float}
use Rattle.std.specs.Float.{nan, binary64}
use Rattle.std.specs.Float.Ieee.{sub, mul, div, lt, le}
use Rattle.arithmetic.specs.Numbers.{magnitude, of_count}
use Rattle.algebra.specs.Fold.{fold}
use Rattle.algebra.specs.Kind.{floats}
use Rattle.algebra.specs.Product.{sum}
use Rattle.algebra.specs.Jacobi.{two}
use Rattle.arithmetic_cutoffs.specs.Cutoffs.{decimal}

-- "tolerance 1e-8"
unfoldable pub tolerance : Float
tolerance = decimal 1 8

-- "all strictly within tolerance of the first"
unfoldable pub all_within : ℕ → List Float → Float → Bool
all_within n nu tol = fold 0 n (λ i s. s && lt (magnitude (sub binary64 (get_or nu i nan) (get_or nu 0 nan))) tol) true

-- "any ≤ 2"
unfoldable pub any_low : ℕ → List Float → Bool
any_low n nu = fold 0 n (λ i s. s || le (get_or nu i nan) two) false

-- "E = sum of ν/(ν−2)"
unfoldable pub expected : ℕ → List Float → Float
expected n nu = sum floats n (λ i. div binary64 (get_or nu i nan) (sub binary64 (get_or nu i nan) two))

-- "2E/(E−q)"
unfoldable pub pooled : ℕ → Float → Float
pooled n e = div binary64 (mul binary64 two e) (sub binary64 e (of_count n))

unfoldable pub get_fstat_ddf : ℕ → List Float → Float → Float
get_fstat_ddf n nu tol = cond (eqb n 1 || all_within n nu tol) (get_or nu 0 nan) (cond (any_low n nu) two (pooled n (expected n nu)))
