use Prim.Native.Nat.{◌≤◌, ◌-◌}
use mathlib.Core.Path.{◌≡◌, refl, ◌∙◌}
use lib.ListN.{length}
use Rattle.algebra.proofs.FoldLaws.{fold_start, fold_end}
use Rattle.algebra_large.specs.joints.Slab.{put_rows, rows_at, gram_of}
use Rattle.algebra_large.specs.joints.Steps.{gained_to}
use Rattle.algebra_large.proofs.SlabLaws.{fill_more}
use Rattle.arithmetic.specs.Numbers.{plus_zero}
use Rattle.algebra_large.proofs.ProductLaws.{row-apart-whole, gram-row}
use native.Mathlib.Omega.{arith}
use Rattle.algebra_large_products.proofs.whole.gram.Given as goal

abbrev pub invariant-loop-i : goal.invariant-loop-i
invariant-loop-i l = (l.i ≤ l.c) × (length l.work ≡ length l.initial.work) × (l.work ≡ put_rows l.s l.d l.i l.c (gram_of l.n l.c (rows_at l.t l.p l.n l.c l.initial.work)) l.initial.work)

abbrev pub decreases-loop-i : goal.decreases-loop-i
decreases-loop-i l = l.c - l.i
