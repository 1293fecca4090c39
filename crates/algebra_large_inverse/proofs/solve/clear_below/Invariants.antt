use Prim.Native.Nat.{◌≤◌, ◌-◌, ◌+◌}
use mathlib.Core.Path.{◌≡◌, refl, ◌∙◌}
use lib.ListN.{length}
use Rattle.algebra.specs.Kind.{floats}
use Rattle.algebra.specs.Elimination.{cleared}
use Rattle.algebra_large.specs.joints.Slab.{rows_at, put_rows}
use Rattle.algebra_large.proofs.SlabLaws.{shape-rows_at}
use Rattle.algebra_large.proofs.InPlace.{turn-none, turn_end}
use Rattle.algebra_large_inverse.proofs.EliminationLaws.{parts-apart, clear-more}
use native.Mathlib.Omega.{arith}
use Rattle.algebra_large_inverse.proofs.solve.clear_below.Given as goal

abbrev pub invariant-loop-r : goal.invariant-loop-r
invariant-loop-r l = (l.c + 1 ≤ l.r) × (l.r ≤ l.n) × (length l.work ≡ length l.initial.work) × (l.work ≡ put_rows l.s l.a l.n l.w (cleared floats l.r l.w l.c (rows_at l.s l.a l.n l.w l.initial.work)) l.initial.work)

abbrev pub decreases-loop-r : goal.decreases-loop-r
decreases-loop-r l = l.n - l.r
