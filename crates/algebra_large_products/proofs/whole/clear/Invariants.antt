use Prim.Native.Nat.{◌≤◌, ◌-◌}
use mathlib.Core.Path.{◌≡◌, refl, ◌∙◌}
use lib.ListN.{length}
use Rattle.algebra.proofs.FoldLaws.{fold_start, fold_end}
use Rattle.algebra_large.specs.joints.Slab.{put_rows}
use Rattle.algebra_large.proofs.SlabLaws.{fill_more}
use Rattle.arithmetic.specs.Numbers.{plus_zero}
use Rattle.algebra.specs.Table.{blank}
use Rattle.algebra_large.proofs.ProductLaws.{blank-at}
use native.Mathlib.Omega.{arith}
use Rattle.algebra_large_products.proofs.whole.clear.Given as goal

abbrev pub invariant-loop-i : goal.invariant-loop-i
invariant-loop-i l = (l.i ≤ l.r) × (length l.work ≡ length l.initial.work) × (l.work ≡ put_rows l.s l.d l.i l.c (blank plus_zero l.r l.c) l.initial.work)

abbrev pub decreases-loop-i : goal.decreases-loop-i
decreases-loop-i l = l.r - l.i
