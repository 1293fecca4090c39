use Prim.Native.Nat.{◌≤◌, ◌-◌, ◌+◌}
use mathlib.Core.Path.{◌≡◌}
use mathlib.Core.List.{[]}
use lib.ListN.{get_or}
use Rattle.algebra.specs.Kind.{zero_of}
use Rattle.algebra.specs.Table.{table}
use Rattle.algebra_elimination.specs.joints.Parts.{joined_cell}
use Rattle.algebra_elimination.proofs.joined.Given as goal

abbrev pub invariant-loop-i : goal.invariant-loop-i
invariant-loop-i g l = (l.i ≤ l.n) × (l.m ≡ table (zero_of g.T.Scalar.arith) 6 12 l.i (l.n + l.cols) (λ i. joined_cell g.T.Scalar.arith l.n (get_or l.a i []) (get_or l.b i [])))

abbrev pub decreases-loop-i : goal.decreases-loop-i
decreases-loop-i g l = l.n - l.i
