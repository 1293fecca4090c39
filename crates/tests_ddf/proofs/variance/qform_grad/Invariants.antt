use Prim.Native.Nat.{ℕ, ◌≤◌, ◌<◌, ◌-◌}
use mathlib.Core.Path.{◌≡◌, ◌∙◌, sym}
use mathlib.Core.List.{List}
use lib.Ieee.{Float, binary64, mul, of_bits}
use Rattle.arithmetic.specs.declared.Marked.{Marked}
use Rattle.arithmetic.specs.Numbers.{plus_zero}
use Rattle.algebra.specs.Fold.{fold}
use Rattle.algebra.specs.Kind.{floats, marks, zero_of}
use Rattle.algebra.specs.Product.{at, sum, sum_cells}
use Rattle.algebra.proofs.FoldLaws.{fold_start, fold_next, fold-ext}
use Rattle.algebra_products.proofs.LoopLaws.{rows_to, rows_none, rows_more, rows_end}
use Rattle.tests.specs.VarianceDf.{entry_at, gradient_values, relative_variance}
use Rattle.tests.proofs.VarianceLaws.{gradient_values-at}
use native.Mathlib.Omega.{arith}
use Rattle.tests_ddf.proofs.variance.qform_grad.Given as goal

-- what the parameters j and k add to the running sum
abbrev step : List Marked → List (List Float) → ℕ → ℕ → Float → Float
step g a j k s = floats.plus s (mul binary64 (mul binary64 (entry_at marks g j).value (at floats a j k)) (entry_at marks g k).value)

abbrev pub invariant-loop-k : goal.invariant-loop-k
invariant-loop-k l = (l.j < l.n) × (l.k ≤ l.n) × (l.sum ≡ fold 0 l.k (step l.g l.a l.j) l.initial.sum)

abbrev pub decreases-loop-k : goal.decreases-loop-k
decreases-loop-k l = l.n - l.k

abbrev pub invariant-loop-j : goal.invariant-loop-j
invariant-loop-j l = (l.j ≤ l.n) × (l.sum ≡ rows_to (step l.g l.a) (zero_of floats) l.n l.j)

abbrev pub decreases-loop-j : goal.decreases-loop-j
decreases-loop-j l = l.n - l.j
