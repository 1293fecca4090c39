use Prim.Native.Nat.{◌≤◌, ◌-◌}
use mathlib.Core.Path.{◌≡◌}
use lib.Ieee.{of_bits}
use Rattle.algebra.specs.Kind.{floats}
use Rattle.algebra.specs.Product.{at, sum_cells}
use Rattle.algebra.proofs.FoldLaws.{fold_start, fold_next, fold_end}
use Rattle.algebra_large.specs.joints.Slab.{rows_at}
use Rattle.algebra_large.specs.joints.Steps.{crossed}
use native.Mathlib.Omega.{arith}
use Rattle.algebra_large_products.proofs.narrow.cross_sum.Given as goal

abbrev pub invariant-loop-i : goal.invariant-loop-i
invariant-loop-i l = (l.i ≤ l.n) × (l.y ≡ sum_cells floats l.i l.n (λ i j. floats.times (at floats (rows_at l.s l.p l.n l.n l.work) j i) (at floats (rows_at l.t l.q l.n l.n l.work) i j)))

abbrev pub decreases-loop-i : goal.decreases-loop-i
decreases-loop-i l = l.n - l.i
