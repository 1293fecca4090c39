use Prim.Native.Nat.{◌≤◌, ◌-◌}
use mathlib.Core.Path.{◌≡◌, refl}
use lib.ListN.{length, length-set}
use Rattle.algebra_large_inverse.proofs.EliminationLaws.{swapped, swap-none, swap-more, swap-end}
use native.Mathlib.Omega.{arith}
use Rattle.algebra_large_inverse.proofs.solve.swap_rows.Given as goal

abbrev pub invariant-loop-j : goal.invariant-loop-j
invariant-loop-j l = (l.j ≤ l.c) × (length l.work ≡ length l.initial.work) × (l.work ≡ swapped l.d l.e l.j l.initial.work)

abbrev pub decreases-loop-j : goal.decreases-loop-j
decreases-loop-j l = l.c - l.j
