use Prim.Native.Nat.{◌≤◌, ◌-◌, ◌+◌, ◌*◌}
use mathlib.Core.Path.{◌≡◌, refl, ◌∙◌}
use lib.ListN.{length, get_or}
use lib.Ieee.{nan}
use Rattle.algebra_large.specs.joints.Slab.{put_row}
use Rattle.algebra_large.specs.joints.Steps.{known_less}
use Rattle.algebra_large.proofs.SlabLaws.{row_fits}
use Rattle.algebra_large_inverse.proofs.EliminationLaws.{rows-below}
use Rattle.algebra_large_inverse.proofs.BackLaws.{known-none, known_more, known-end}
use native.Mathlib.Omega.{arith}
use Rattle.algebra_large_inverse.proofs.back.lose_known.Given as goal

abbrev pub invariant-loop-j : goal.invariant-loop-j
invariant-loop-j l = (l.i + 1 ≤ l.j) × (l.j ≤ l.n) × (length l.work ≡ length l.initial.work) × (l.work ≡ put_row (l.d + l.i * l.t) l.c (λ k. known_less l.j l.initial.work l.d l.t l.p l.i (get_or l.initial.work (l.d + l.i * l.t + k) nan) k) l.initial.work)

abbrev pub decreases-loop-j : goal.decreases-loop-j
decreases-loop-j l = l.n - l.j
