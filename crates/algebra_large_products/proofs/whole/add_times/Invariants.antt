use Prim.Native.Nat.{◌≤◌, ◌-◌, ◌+◌}
use mathlib.Core.Path.{◌≡◌, refl, ◌∙◌}
use lib.ListN.{length, get_or}
use Rattle.algebra.proofs.FoldLaws.{fold_start, fold_end}
use Rattle.algebra_large.specs.joints.Slab.{put_rows, rows_at, gained}
use Rattle.algebra_large.proofs.SlabLaws.{fill_more, rows-apart-at}
use lib.Ieee.{nan}
use Rattle.algebra.specs.Kind.{floats}
use Rattle.algebra_large.proofs.ProductLaws.{gained-row}
use native.Mathlib.Omega.{arith}
use Rattle.algebra_large_products.proofs.whole.add_times.Given as goal

abbrev pub invariant-loop-i : goal.invariant-loop-i
invariant-loop-i l = (l.i ≤ l.r) × (length l.work ≡ length l.initial.work) × (l.work ≡ put_rows l.s l.d l.i l.c (gained l.r l.c (rows_at l.s l.d l.r l.c l.initial.work) l.f (rows_at l.t l.p l.r l.c l.initial.work)) l.initial.work)

abbrev pub decreases-loop-i : goal.decreases-loop-i
decreases-loop-i l = l.r - l.i
