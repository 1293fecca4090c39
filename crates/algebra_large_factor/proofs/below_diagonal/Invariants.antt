use Prim.Native.Nat.{◌≤◌, ◌-◌, ◌+◌}
use mathlib.Core.Path.{◌≡◌, refl}
use lib.ListN.{length, length-set}
use Rattle.algebra.specs.Kind.{floats}
use Rattle.algebra.specs.Cholesky.{below_diagonal}
use Rattle.algebra_large.specs.joints.Slab.{rows_at, put_rows}
use Rattle.algebra_large.proofs.SlabLaws.{shape-rows_at}
use Rattle.algebra_large_factor.proofs.FactorLaws.{below_more}
use Rattle.algebra_large.proofs.InPlace.{turn-none, turn_end}
use native.Mathlib.Omega.{arith}
use Rattle.algebra_large_factor.proofs.below_diagonal.Given as goal

abbrev pub invariant-loop-i : goal.invariant-loop-i
invariant-loop-i l = (l.j + 1 ≤ l.i) × (l.i ≤ l.n) × (length l.work ≡ length l.initial.work) × (l.work ≡ put_rows l.s l.a l.n l.n (below_diagonal floats l.i l.j l.d (rows_at l.s l.a l.n l.n l.initial.work)) l.initial.work)

abbrev pub decreases-loop-i : goal.decreases-loop-i
decreases-loop-i l = l.n - l.i
