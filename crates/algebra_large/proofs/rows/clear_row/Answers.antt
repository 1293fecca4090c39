-- `algebra_large::rows::clear_row` meets its contract.
use Prim.Native.Nat.{◌≤◌, ◌-◌}
use mathlib.Core.Path.{◌≡◌, refl}
use lib.ListN.{length, length-set}
use lib.Ieee.{of_bits}
use Rattle.arithmetic.specs.Numbers.{plus_zero}
use Rattle.algebra.proofs.FoldLaws.{fold_start, fold_end}
use Rattle.algebra_large.specs.joints.Slab.{put_row}
use Rattle.algebra_large.proofs.SlabLaws.{row_more}
use native.Mathlib.Omega.{arith}
use Rattle.algebra_large.proofs.rows.clear_row.Goals as goal

pub loop-j-init : goal.loop-j-init
unfolding put_row
loop-j-init c = (omega arith, refl, fold_start _ _ _)

pub loop-j-preserved : goal.loop-j-preserved
unfolding of_bits
loop-j-preserved c = (omega arith, rw length-set c.loop-j.invariant.1, row_more _ _ (λ j. plus_zero) _ _ _ c.loop-j.invariant.2 refl)

pub shape_of-work : goal.shape_of-work
shape_of-work c = c.loop-j.invariant.1

pub returns : goal.returns
unfolding put_row
returns c = fold_end _ _ _ _ _ _ c.loop-j.invariant.0 c.loop-j-test.false c.loop-j.invariant.2
