use Prim.Native.Nat.{◌≤◌, ◌-◌, ◌+◌}
use mathlib.Core.Path.{◌≡◌, refl}
use lib.ListN.{length, get_or, length-set}
use lib.Ieee.{nan}
use Rattle.algebra.specs.Kind.{floats}
use Rattle.algebra.proofs.FoldLaws.{fold_start, fold_end}
use Rattle.algebra_large.specs.joints.Slab.{put_row}
use Rattle.algebra_large.proofs.SlabLaws.{row_more, row-ahead}
use native.Mathlib.Omega.{arith}
use Rattle.algebra_large_products.proofs.narrow.gain_from.Given as goal

abbrev pub invariant-loop-j : goal.invariant-loop-j
invariant-loop-j l = (l.j ≤ l.c) × (length l.out ≡ length l.initial.out) × (l.out ≡ put_row l.d l.j (λ j. floats.plus (get_or l.initial.out (l.d + j) nan) (floats.times l.f (get_or l.x (l.q + j) nan))) l.initial.out)

abbrev pub decreases-loop-j : goal.decreases-loop-j
decreases-loop-j l = l.c - l.j
