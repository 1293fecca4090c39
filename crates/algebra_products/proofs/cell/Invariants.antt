use Prim.Native.Nat.{◌≤◌, ◌-◌}
use mathlib.Core.Path.{◌≡◌}
use Rattle.algebra.specs.Product.{cell}
use Rattle.algebra_products.proofs.cell.Given as goal

abbrev pub invariant-loop-k : goal.invariant-loop-k
invariant-loop-k g l = (l.k ≤ l.inner) × (l.sum ≡ cell g.T.Scalar.arith l.k l.a l.b l.i l.j)

abbrev pub decreases-loop-k : goal.decreases-loop-k
decreases-loop-k g l = l.inner - l.k
