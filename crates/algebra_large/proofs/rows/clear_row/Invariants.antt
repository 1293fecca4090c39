use Prim.Native.Nat.{◌≤◌, ◌-◌}
use mathlib.Core.Path.{◌≡◌, refl}
use lib.ListN.{length, length-set}
use lib.Ieee.{of_bits}
use Rattle.arithmetic.specs.Numbers.{plus_zero}
use Rattle.algebra.proofs.FoldLaws.{fold_start, fold_end}
use Rattle.algebra_large.specs.joints.Slab.{put_row}
use Rattle.algebra_large.proofs.SlabLaws.{row_more}
use native.Mathlib.Omega.{arith}
use Rattle.algebra_large.proofs.rows.clear_row.Given as goal

abbrev pub invariant-loop-j : goal.invariant-loop-j
invariant-loop-j l = (l.j ≤ l.c) × (length l.work ≡ length l.initial.work) × (l.work ≡ put_row l.d l.j (λ j. plus_zero) l.initial.work)

abbrev pub decreases-loop-j : goal.decreases-loop-j
decreases-loop-j l = l.c - l.j
