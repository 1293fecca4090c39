use Prim.Native.Nat.{◌≤◌, ◌-◌}
use Rattle.algebra_products.proofs.RowLaws.{Gaining}
use Rattle.algebra_products.proofs.with_terms.Given as goal

abbrev pub invariant-loop-j : goal.invariant-loop-j
invariant-loop-j g l = (l.j ≤ l.cols) × Gaining g.T.Scalar.arith l.initial.out l.x l.terms l.j l.out

abbrev pub decreases-loop-j : goal.decreases-loop-j
decreases-loop-j g l = l.cols - l.j
