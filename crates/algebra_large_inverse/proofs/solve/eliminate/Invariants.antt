use Prim.Native.Nat.{◌≤◌, ◌-◌}
use mathlib.Core.Path.{◌≡◌, refl, ◌∙◌}
use lib.ListN.{length}
use Rattle.algebra.specs.Kind.{floats}
use Rattle.algebra.specs.Elimination.{eliminate_to}
use Rattle.algebra_large.specs.joints.Slab.{rows_at, put_rows}
use Rattle.algebra_large.proofs.SlabLaws.{shape-rows_at}
use Rattle.algebra_large.proofs.InPlace.{turn-none, turn_end}
use Rattle.algebra_large_inverse.proofs.EliminationLaws.{column-more}
use native.Mathlib.Omega.{arith}
use Rattle.algebra_large_inverse.proofs.solve.eliminate.Given as goal

abbrev pub invariant-loop-c : goal.invariant-loop-c
invariant-loop-c l = (l.c ≤ l.n) × (length l.work ≡ length l.initial.work) × (l.work ≡ put_rows l.s l.a l.n l.w (eliminate_to floats l.c l.n l.w (rows_at l.s l.a l.n l.w l.initial.work)) l.initial.work)

abbrev pub decreases-loop-c : goal.decreases-loop-c
decreases-loop-c l = l.n - l.c
