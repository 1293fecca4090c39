use Prim.Native.Nat.{◌≤◌, ◌-◌}
use mathlib.Core.Path.{◌≡◌}
use lib.Ieee.{of_bits}
use Rattle.algebra.specs.Kind.{floats}
use Rattle.algebra.specs.Product.{cell}
use Rattle.algebra_large.specs.joints.Slab.{rows_at}
use Rattle.algebra_large.proofs.InPlace.{read_at}
use Rattle.algebra_products.proofs.LoopLaws.{sum-none, sum_more, sum-end}
use native.Mathlib.Omega.{arith}
use Rattle.adjustment_covariance.proofs.information.wide_cell.Given as goal

abbrev pub invariant-loop-k : goal.invariant-loop-k
invariant-loop-k l = (l.k ≤ l.n) × (l.total ≡ cell floats l.k (rows_at l.n l.e l.p l.n l.narrow) (rows_at 6 l.o l.n l.p l.narrow) l.a l.b)

abbrev pub decreases-loop-k : goal.decreases-loop-k
decreases-loop-k l = l.n - l.k
