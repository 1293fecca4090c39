use Prim.Native.Nat.{◌≤◌, ◌-◌, ◌+◌, ◌*◌}
use mathlib.Core.Path.{◌≡◌, refl, ◌∙◌}
use lib.ListN.{length, get_or}
use lib.Ieee.{nan}
use Rattle.arithmetic.specs.Numbers.{plus_zero}
use Rattle.algebra.specs.Kind.{floats}
use Rattle.algebra.specs.Product.{product, transpose}
use Rattle.algebra.proofs.FoldLaws.{fold_start, fold_end}
use Rattle.algebra_large.specs.joints.Slab.{rows_at, put_rows}
use Rattle.algebra_large.proofs.SlabLaws.{fill_more}
use Rattle.algebra_large.proofs.ProductLaws.{row-apart-whole}
use Rattle.adjustment_covariance.specs.joints.Lent.{gained_with}
use Rattle.adjustment_covariance.proofs.GainLaws.{turned-cells}
use native.Mathlib.Omega.{arith}
use Rattle.adjustment_covariance.proofs.information.fill_turned.Given as goal

abbrev pub invariant-loop-a : goal.invariant-loop-a
invariant-loop-a l = (l.a ≤ l.p) × (length l.narrow ≡ length l.initial.narrow) × (l.narrow ≡ put_rows l.n l.e l.a l.n (product floats l.p l.n l.p l.n l.n (transpose floats l.p l.n l.n l.p (rows_at 6 l.o l.n l.p l.initial.narrow)) (rows_at l.s l.q l.n l.n l.work)) l.initial.narrow)

abbrev pub decreases-loop-a : goal.decreases-loop-a
decreases-loop-a l = l.p - l.a
