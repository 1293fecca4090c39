-- Document 01, `kr_modcomp_test`, what follows "Unmarked": a1 and a2, and from these the degrees of freedom, the scaling of F, and F. The formulas stand beside their definitions.
use Rattle.std.specs.Prelude.{ℕ, ◌+◌, Bool, false, cond, ◌&&◌, List, [], eqb, get_or, pos, Option, Some, None, Float}
use Rattle.std.specs.Float.{fin, binary64}
use Rattle.std.specs.Float.Ieee.{add, sub, mul, div, lt}
use Rattle.arithmetic.specs.Numbers.{plus_zero, one, magnitude, of_count}
use Rattle.algebra.specs.Fold.{fold}
use Rattle.algebra.specs.Kind.{floats}
use Rattle.algebra.specs.Product.{at, trace, like_cells, transpose}
use Rattle.algebra.specs.Jacobi.{two}
use Rattle.arithmetic_cutoffs.specs.declared.Cutoffs.{Cutoffs}
use Rattle.tests.specs.Answer.{number_of}
use Rattle.tests.specs.Both.{is_positive}
use Rattle.algebra.specs.Small.{Rows}

abbrev plus : Float → Float → Float
plus = add binary64

abbrev minus : Float → Float → Float
minus = sub binary64

abbrev times : Float → Float → Float
times = mul binary64

abbrev over : Float → Float → Float
over = div binary64

-- 3, 4 and 6
abbrev pub three : Float
three = fin false 3 (pos 0)

abbrev pub four : Float
four = fin false 1 (pos 2)

abbrev pub six : Float
six = fin false 3 (pos 1)

-- e·W_ij, "e = 1 or 2 off the diagonal"
unfoldable pub weight : Rows → ℕ → ℕ → Float
weight w i j = times (cond (eqb i j) one two) (at floats w i j)

-- "a1 adds ((e·W_ij)·tr u_i)·tr u_j, a2 adds (e·W_ij)·cells(u_i, u_jᵀ), i ≤ j", over N matrices u of p rows and columns
unfoldable pub a1_of : ℕ → ℕ → Rows → List Rows → Float
a1_of N p w us = fold 0 N (λ i s. fold i N (λ j s. plus s (times (times (weight w i j) (trace floats p (get_or us i []))) (trace floats p (get_or us j [])))) s) plus_zero

unfoldable pub a2_of : ℕ → ℕ → Rows → List Rows → Float
a2_of N p w us = fold 0 N (λ i s. fold i N (λ j s. plus s (times (weight w i j) (like_cells floats p p (get_or us i []) (transpose floats 6 6 p p (get_or us j []))))) s) plus_zero

-- ---- "With q = rank":
-- B = (a1 + 6a2)/(2q)
unfoldable pub b_of : ℕ → Float → Float → Float
b_of q a1 a2 = over (plus a1 (times six a2)) (times two (of_count q))

-- "each 0 below 1e-10 in magnitude": of V0 and V2
unfoldable pub leading_of : Cutoffs → Float → Float
leading_of c x = cond (lt (magnitude x) c.leading) plus_zero x

-- "div is 0 for a denominator below 1e-10 in magnitude"
unfoldable pub div_of : Cutoffs → Float → Float → Float
div_of c x y = cond (lt (magnitude y) c.divisor) plus_zero (over x y)

-- 1 − a2/q
unfoldable pub less_a2 : ℕ → Float → Float
less_a2 q a2 = minus one (over a2 (of_count q))

-- "df ≤ 0 or NaN is none"
unfoldable pub positive : Float → Option Float
positive x = cond (lt plus_zero x) (Some x) None

-- "q = 1 with finite a2 > 0"
unfoldable pub rank_one : ℕ → Float → Bool
rank_one q a2 = eqb q 1 && is_positive a2

-- the scaling by the df of the moment equations: "|df−2| < 1e-2 gives 1; else none with df none; else df(1−a2/q)/(df−2)"
unfoldable pub scaling_at : Cutoffs → ℕ → Float → Option Float → Option Float
scaling_at c q a2 None = None
scaling_at c q a2 (Some x) = cond (lt (magnitude (minus x two)) c.near) (Some one) (number_of (over (times x (less_a2 q a2)) (minus x two)))

module _ (c : Cutoffs) (q : ℕ) (a1 a2 : Float) where
  -- g = ((q+1)a1 − (q+4)a2)/((q+2)a2) if |a2| > 1e-15, else 0
  unfoldable pub g_of : Float
  g_of = cond (lt c.moment (magnitude a2)) (over (minus (times (of_count (q + 1)) a1) (times (of_count (q + 4)) a2)) (times (of_count (q + 2)) a2)) plus_zero

  -- d = 3q + 2(1−g)
  unfoldable pub d_of : Float
  d_of = plus (times three (of_count q)) (times two (minus one g_of))

  -- c1 = g/d if |d| > 1e-15, else 0; c2 = (q−g)/d; c3 = (q+2−g)/d
  unfoldable pub c1_of : Float
  c1_of = cond (lt c.moment (magnitude d_of)) (over g_of d_of) plus_zero

  unfoldable pub c2_of : Float
  c2_of = over (minus (of_count q) g_of) d_of

  unfoldable pub c3_of : Float
  c3_of = over (minus (plus (of_count q) two) g_of) d_of

  -- V0 = 1 + c1B and V2 = 1 − c3B, each 0 below 1e-10 in magnitude; V1 = 1 − c2B
  unfoldable pub v0_of : Float
  v0_of = leading_of c (plus one (times c1_of (b_of q a1 a2)))

  unfoldable pub v1_of : Float
  v1_of = minus one (times c2_of (b_of q a1 a2))

  unfoldable pub v2_of : Float
  v2_of = leading_of c (minus one (times c3_of (b_of q a1 a2)))

  -- ρ = (1/q)·(div((1 − a2/q), V1))²·div(V0,V2)
  unfoldable pub rho_of : Float
  rho_of = let h : Float = div_of c (less_a2 q a2) v1_of in times (times (over one (of_count q)) (times h h)) (div_of c v0_of v2_of)

  -- df = 4 + (q+2)/(qρ−1) if |qρ−1| > 1e-12, else none
  unfoldable pub general_df : Option Float
  general_df =
      let e : Float = minus (times (of_count q) rho_of) one in
      cond (lt c.excess (magnitude e)) (positive (plus four (over (plus (of_count q) two) e))) None

  -- "Scaling: q = 1 with finite a2 > 0 gives df 2/a2 and 1; else .."
  unfoldable pub df_of : Option Float
  df_of = cond (rank_one q a2) (Some (over two a2)) general_df

  unfoldable pub scaling_of : Option Float
  scaling_of = cond (rank_one q a2) (Some one) (scaling_at c q a2 general_df)

-- F = scaling × (Wald/q)
unfoldable pub f_of : ℕ → Option Float → Option Float → Option Float
f_of q None wald = None
f_of q (Some s) None = None
f_of q (Some s) (Some x) = number_of (times s (over x (of_count q)))
