-- How the calls that lead to W make up its definitions.
use Prim.Native.Nat.{ℕ}
use mathlib.Core.Path.{◌≡◌}
use mathlib.Core.Bool.{Bool, cond}
use lib.Ieee.{Float, binary64, mul, lt}
use Rattle.arithmetic.specs.Numbers.{plus_zero}
use Rattle.algebra.specs.Table.{table}
use Rattle.algebra.specs.Kind.{floats}
use Rattle.algebra.specs.Product.{at}
use Rattle.algebra.specs.Elimination.{inverse}
use Rattle.algebra.specs.Jacobi.{two}
use Rattle.arithmetic_cutoffs.specs.declared.Cutoffs.{Cutoffs}
use Rattle.algebra.specs.Small.{Rows}
use Rattle.adjustment.specs.Information.{smallest, ridged, inverted, w_rows}

-- the matrix that is inverted, by the test t of the smallest eigenvalue's magnitude
pub inverted-is : (c : Cutoffs) (N : ℕ) (ie eigen out : Rows) (least : Float) (t : Bool) → least ≡ smallest N eigen → lt c.eigenvalue least ≡ t
    → out ≡ cond t ie (ridged c.ridge N ie) → out ≡ inverted c N ie eigen
unfolding inverted
inverted-is c N ie eigen out least t e d g = rw (← e, d) g

-- W from the inverse v
pub w_rows-is : (N : ℕ) (m v out : Rows) → v ≡ inverse floats 6 12 6 N m → out ≡ table plus_zero 6 6 N N (λ i j. mul binary64 two (at floats v i j)) → out ≡ w_rows N m
unfolding w_rows
w_rows-is N m v out e d = rw (← e) d
