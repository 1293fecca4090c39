use Prim.Native.Nat.{◌≤◌, ◌-◌, ◌+◌}
use mathlib.Core.Path.{◌≡◌, refl, ◌∙◌}
use lib.ListN.{length}
use Rattle.algebra_large.specs.joints.Slab.{rows_at, put_rows}
use Rattle.algebra_large.specs.joints.Steps.{back_over}
use Rattle.algebra_large.proofs.SlabLaws.{shape-rows_at}
use Rattle.algebra_large.proofs.InPlace.{turn-none, turn_end}
use Rattle.algebra_large_inverse.proofs.BackLaws.{back_more}
use native.Mathlib.Omega.{arith}
use Rattle.algebra_large_inverse.proofs.back.back_rows.Given as goal

abbrev pub invariant-loop-h : goal.invariant-loop-h
invariant-loop-h l = (l.h ≤ l.n) × (length l.work ≡ length l.initial.work) × (l.work ≡ put_rows l.t l.d l.n l.c (back_over l.h l.n l.c (rows_at l.s l.a l.n (l.n + l.c) l.initial.work) (rows_at l.t l.d l.n l.c l.initial.work)) l.initial.work)

abbrev pub decreases-loop-h : goal.decreases-loop-h
decreases-loop-h l = l.n - l.h
