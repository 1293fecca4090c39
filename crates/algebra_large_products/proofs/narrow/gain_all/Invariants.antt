use Prim.Native.Nat.{◌≤◌, ◌-◌, ◌+◌}
use mathlib.Core.Path.{◌≡◌, refl, ◌∙◌}
use lib.ListN.{length, get_or}
use lib.Ieee.{nan}
use Rattle.algebra_large.specs.joints.Slab.{put_row}
use Rattle.algebra_large.specs.joints.Steps.{gained_to}
use Rattle.algebra_large.proofs.ProductLaws.{gain-none, gain-end}
use Rattle.algebra_large_products.proofs.NarrowLaws.{by-more}
use native.Mathlib.Omega.{arith}
use Rattle.algebra_large_products.proofs.narrow.gain_all.Given as goal

abbrev pub invariant-loop-k : goal.invariant-loop-k
invariant-loop-k l = (l.k ≤ l.n) × (length l.out ≡ length l.initial.out) × (l.out ≡ put_row l.d l.c (λ j. gained_to l.k l.work l.p 1 0 l.x l.q l.u (get_or l.initial.out (l.d + j) nan) j) l.initial.out)

abbrev pub decreases-loop-k : goal.decreases-loop-k
decreases-loop-k l = l.n - l.k
