use Prim.Native.Nat.{◌≤◌, ◌-◌}
use mathlib.Core.Path.{◌≡◌, refl, ◌∙◌}
use lib.ListN.{length}
use Rattle.algebra.proofs.FoldLaws.{fold_start, fold_end}
use Rattle.algebra_large.specs.joints.Slab.{put_rows, rows_at}
use Rattle.algebra_large.specs.joints.Steps.{gained_to}
use Rattle.algebra_large.proofs.SlabLaws.{fill_more}
use Rattle.arithmetic.specs.Numbers.{plus_zero}
use Rattle.algebra.specs.Kind.{floats}
use Rattle.algebra.specs.Product.{product}
use Rattle.algebra_large_products.proofs.NarrowLaws.{narrow-row}
use native.Mathlib.Omega.{arith}
use Rattle.algebra_large_products.proofs.narrow.times_narrow.Given as goal

abbrev pub invariant-loop-i : goal.invariant-loop-i
invariant-loop-i l = (l.i ≤ l.r) × (length l.out ≡ length l.initial.out) × (l.out ≡ put_rows l.t l.d l.i l.c (product floats l.r l.c l.r l.n l.c (rows_at l.s l.p l.r l.n l.work) (rows_at l.u l.q l.n l.c l.x)) l.initial.out)

abbrev pub decreases-loop-i : goal.decreases-loop-i
decreases-loop-i l = l.r - l.i
