-- `algebra_large_products::narrow::cross_sum` meets its contract.
use Prim.Native.Nat.{◌≤◌, ◌-◌}
use mathlib.Core.Path.{◌≡◌}
use lib.Ieee.{of_bits}
use Rattle.algebra.specs.Kind.{floats}
use Rattle.algebra.specs.Product.{at, sum_cells}
use Rattle.algebra.proofs.FoldLaws.{fold_start, fold_next, fold_end}
use Rattle.algebra_large.specs.joints.Slab.{rows_at}
use Rattle.algebra_large.specs.joints.Steps.{crossed}
use native.Mathlib.Omega.{arith}
use Rattle.algebra_large_products.proofs.narrow.cross_sum.Goals as goal

pub loop-i-init : goal.loop-i-init
unfolding sum_cells of_bits
loop-i-init c = (omega arith, fold_start _ _ _)

pub loop-i-preserved : goal.loop-i-preserved
unfolding sum_cells crossed
loop-i-preserved c = (omega arith, fold_next _ _ _ _ _ _ (omega arith) c.loop-i.invariant.1 c.cross_row-y.ensures)

pub returns : goal.returns
unfolding sum_cells
returns c = fold_end _ _ _ _ _ _ c.loop-i.invariant.0 c.loop-i-test.false c.loop-i.invariant.1
