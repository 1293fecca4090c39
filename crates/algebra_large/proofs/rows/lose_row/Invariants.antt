use Rattle.algebra.specs.Kind.{floats}
use Prim.Native.Nat.{◌≤◌, ◌-◌, ◌+◌}
use mathlib.Core.Path.{◌≡◌, refl}
use lib.ListN.{length, get_or, length-set}
use lib.Ieee.{nan}
use Rattle.algebra.proofs.FoldLaws.{fold_start, fold_end}
use Rattle.algebra_large.specs.joints.Slab.{put_row}
use Rattle.algebra_large.proofs.SlabLaws.{row-turn}
use native.Mathlib.Omega.{arith}
use Rattle.algebra_large.proofs.rows.lose_row.Given as goal

abbrev pub invariant-loop-j : goal.invariant-loop-j
invariant-loop-j l = (l.j ≤ l.c) × (length l.work ≡ length l.initial.work) × (l.work ≡ put_row l.d l.j (λ j. floats.minus (get_or l.initial.work (l.d + j) nan) (floats.times l.f (get_or l.initial.work (l.p + j) nan))) l.initial.work)

abbrev pub decreases-loop-j : goal.decreases-loop-j
decreases-loop-j l = l.c - l.j
