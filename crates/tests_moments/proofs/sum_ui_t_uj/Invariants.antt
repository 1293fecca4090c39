use Prim.Native.Nat.{◌≤◌, ◌<◌, ◌-◌}
use mathlib.Core.Path.{◌≡◌}
use lib.Ieee.{of_bits}
use Rattle.algebra.specs.Kind.{floats, zero_of}
use Rattle.algebra.specs.Product.{transpose, sum_cells, like_cells}
use Rattle.algebra.specs.Fold.{fold}
use Rattle.algebra.proofs.FoldLaws.{fold_start, fold_next}
use Rattle.algebra_products.proofs.LoopLaws.{like_step, rows_to, rows_none, rows_more, rows_end}
use Rattle.tests_moments.proofs.MomentLaws.{turned-step}
use native.Mathlib.Omega.{arith}
use Rattle.tests_moments.proofs.sum_ui_t_uj.Given as goal

abbrev pub invariant-loop-j : goal.invariant-loop-j
invariant-loop-j l = (l.i < l.p) × (l.j ≤ l.p) × (l.sum ≡ fold 0 l.j (like_step floats l.ui (transpose floats 6 6 l.p l.p l.uj) l.i) l.initial.sum)

abbrev pub decreases-loop-j : goal.decreases-loop-j
decreases-loop-j l = l.p - l.j

abbrev pub invariant-loop-i : goal.invariant-loop-i
invariant-loop-i l = (l.i ≤ l.p) × (l.sum ≡ rows_to (like_step floats l.ui (transpose floats 6 6 l.p l.p l.uj)) (zero_of floats) l.p l.i)

abbrev pub decreases-loop-i : goal.decreases-loop-i
decreases-loop-i l = l.p - l.i
