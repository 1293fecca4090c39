use Prim.Native.Nat.{◌≤◌, ◌<◌, ◌-◌}
use mathlib.Core.Path.{◌≡◌}
use Rattle.algebra.specs.Table.{table}
use Rattle.algebra.specs.Kind.{zero_of}
use mathlib.Core.Bool.{cond}
use lib.Dec.{eqb}
use Rattle.arithmetic.specs.Numbers.{one}
use Rattle.algebra.proofs.TableLaws.{Filling}
use Rattle.algebra_products.proofs.identity.Given as goal

abbrev pub invariant-loop-j : goal.invariant-loop-j
invariant-loop-j g l = (l.i < l.n) × (l.j ≤ l.n) × Filling (zero_of g.T.Scalar.arith) 6 6 (λ i j. cond (eqb i j) (g.T.Scalar.arith.of one) (zero_of g.T.Scalar.arith)) l.n l.i l.j l.initial.out l.out

abbrev pub decreases-loop-j : goal.decreases-loop-j
decreases-loop-j g l = l.n - l.j

abbrev pub invariant-loop-i : goal.invariant-loop-i
invariant-loop-i g l = (l.i ≤ l.n) × (l.out ≡ table (zero_of g.T.Scalar.arith) 6 6 l.i l.n (λ i j. cond (eqb i j) (g.T.Scalar.arith.of one) (zero_of g.T.Scalar.arith)))

abbrev pub decreases-loop-i : goal.decreases-loop-i
decreases-loop-i g l = l.n - l.i
