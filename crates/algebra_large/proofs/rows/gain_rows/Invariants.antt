use Prim.Native.Nat.{◌≤◌, ◌-◌, ◌+◌}
use mathlib.Core.Path.{◌≡◌, refl, ◌∙◌}
use lib.ListN.{length, get_or}
use lib.Ieee.{nan}
use Rattle.algebra_large.specs.joints.Slab.{put_row}
use Rattle.algebra_large.specs.joints.Steps.{gained_to}
use Rattle.algebra_large.proofs.ProductLaws.{row-apart-of, gain-none, gain-more, gain-end}
use native.Mathlib.Omega.{arith}
use Rattle.algebra_large.proofs.rows.gain_rows.Given as goal

abbrev pub invariant-loop-k : goal.invariant-loop-k
invariant-loop-k l = (l.k ≤ l.n) × (length l.work ≡ length l.initial.work) × (l.work ≡ put_row l.d l.c (λ j. gained_to l.k l.initial.work l.p l.u l.o l.initial.work l.q l.t (get_or l.initial.work (l.d + j) nan) j) l.initial.work)

abbrev pub decreases-loop-k : goal.decreases-loop-k
decreases-loop-k l = l.n - l.k
