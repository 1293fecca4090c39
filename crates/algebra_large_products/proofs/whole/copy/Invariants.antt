use Prim.Native.Nat.{◌≤◌, ◌-◌, ◌+◌}
use mathlib.Core.Path.{◌≡◌, refl, ◌∙◌}
use lib.ListN.{length, get_or}
use Rattle.algebra.proofs.FoldLaws.{fold_start, fold_end}
use Rattle.algebra_large.specs.joints.Slab.{put_rows, rows_at}
use Rattle.algebra_large.proofs.SlabLaws.{fill_more, rows-apart-at}
use lib.Ieee.{nan}
use Rattle.algebra_large.proofs.ProductLaws.{copied-row}
use native.Mathlib.Omega.{arith}
use Rattle.algebra_large_products.proofs.whole.copy.Given as goal

abbrev pub invariant-loop-i : goal.invariant-loop-i
invariant-loop-i l = (l.i ≤ l.r) × (length l.work ≡ length l.initial.work) × (l.work ≡ put_rows l.s l.d l.i l.c (rows_at l.t l.p l.r l.c l.initial.work) l.initial.work)

abbrev pub decreases-loop-i : goal.decreases-loop-i
decreases-loop-i l = l.r - l.i
