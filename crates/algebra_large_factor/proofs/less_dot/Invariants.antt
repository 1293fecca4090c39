use Prim.Native.Nat.{◌≤◌, ◌<◌, ◌-◌}
use mathlib.Core.Path.{◌≡◌}
use Rattle.algebra.specs.Kind.{floats}
use Rattle.algebra.specs.Cholesky.{less_dot}
use Rattle.algebra.proofs.FoldLaws.{fold_start, fold_next, fold_end}
use Rattle.algebra_large.specs.joints.Slab.{rows_at}
use Rattle.algebra_large.proofs.InPlace.{read_at}
use native.Mathlib.Omega.{arith}
use Rattle.algebra_large_factor.proofs.less_dot.Given as goal

abbrev pub invariant-loop-k : goal.invariant-loop-k
invariant-loop-k l = (l.k ≤ l.j) × (l.x ≡ less_dot floats l.k (rows_at l.s l.a l.n l.n l.work) l.i l.j)

abbrev pub decreases-loop-k : goal.decreases-loop-k
decreases-loop-k l = l.j - l.k
