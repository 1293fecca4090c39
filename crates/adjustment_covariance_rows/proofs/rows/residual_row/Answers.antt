-- `adjustment_covariance_rows::rows::residual_row` meets its contract.
use mathlib.Core.Path.{refl}
use lib.ListN.{length-set}
use Rattle.algebra.proofs.FoldLaws.{fold_start, fold_end}
use Rattle.algebra_large.specs.joints.Slab.{put_row}
use Rattle.algebra_large.proofs.SlabLaws.{row_more}
use native.Mathlib.Omega.{arith}
use Rattle.adjustment_covariance_rows.proofs.rows.residual_row.Goals as goal

pub loop-j-init : goal.loop-j-init
unfolding put_row
loop-j-init c = (omega arith, refl, fold_start _ _ _)

pub residual_cell-requires : goal.residual_cell-requires
residual_cell-requires c = c.requires.2

pub loop-j-preserved : goal.loop-j-preserved
loop-j-preserved c = (omega arith, rw length-set c.loop-j.invariant.1, row_more _ _ _ _ _ _ c.loop-j.invariant.2 c.residual_cell.ensures)

pub shape_of-out : goal.shape_of-out
shape_of-out c = c.loop-j.invariant.1

pub returns : goal.returns
unfolding put_row
returns c = fold_end _ _ _ _ _ _ c.loop-j.invariant.0 c.loop-j-test.false c.loop-j.invariant.2
