use Prim.Native.Nat.{◌≤◌, ◌<◌, ◌-◌}
use mathlib.Core.Path.{◌≡◌}
use Rattle.algebra.specs.Kind.{zero_of}
use Rattle.algebra.specs.Table.{table}
use Rattle.algebra_jacobi.specs.joints.Starts.{mirrored_cell}
use Rattle.algebra.proofs.TableLaws.{Filling}
use Rattle.algebra_jacobi.proofs.mirrored.Given as goal

abbrev pub invariant-loop-j : goal.invariant-loop-j
invariant-loop-j g l = (l.i < l.n) × (l.j ≤ l.n) × Filling (zero_of g.T.Scalar.arith) 6 6 (mirrored_cell g.T.Scalar.arith l.m) l.n l.i l.j l.initial.out l.out

abbrev pub decreases-loop-j : goal.decreases-loop-j
decreases-loop-j g l = l.n - l.j

abbrev pub invariant-loop-i : goal.invariant-loop-i
invariant-loop-i g l = (l.i ≤ l.n) × (l.out ≡ table (zero_of g.T.Scalar.arith) 6 6 l.i l.n (mirrored_cell g.T.Scalar.arith l.m))

abbrev pub decreases-loop-i : goal.decreases-loop-i
decreases-loop-i g l = l.n - l.i
