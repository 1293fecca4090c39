use Prim.Native.Nat.{◌≤◌, ◌-◌}
use mathlib.Core.Path.{◌≡◌}
use lib.ListN.{get_or}
use Rattle.arithmetic.specs.Numbers.{plus_zero}
use Rattle.algebra.specs.Kind.{floats}
use Rattle.algebra.specs.Table.{row}
use Rattle.algebra.specs.Jacobi.{turned_first, turned_second}
use Rattle.tests_basis.proofs.basis.turned.Given as goal

abbrev pub invariant-loop-k : goal.invariant-loop-k
invariant-loop-k l =
    (l.k ≤ l.p) × (l.first ≡ row plus_zero 6 l.k (λ k. turned_first floats l.c l.s (get_or l.x k floats.void) (get_or l.y k floats.void)))
    × (l.second ≡ row plus_zero 6 l.k (λ k. turned_second floats l.c l.s (get_or l.x k floats.void) (get_or l.y k floats.void)))

abbrev pub decreases-loop-k : goal.decreases-loop-k
decreases-loop-k l = l.p - l.k
