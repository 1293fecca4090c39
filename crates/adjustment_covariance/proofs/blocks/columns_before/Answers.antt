-- `adjustment_covariance::blocks::columns_before` meets its contract.
use Prim.Native.Nat.{◌≤◌, ◌-◌}
use mathlib.Core.Path.{◌≡◌, refl}
use Rattle.adjustment.specs.Blocks.{columns_before}
use Rattle.algebra.proofs.FoldLaws.{fold_start, fold_next, fold_end}
use Rattle.adjustment_covariance.proofs.BlockLaws.{columns-room}
use native.Mathlib.Omega.{arith}
use Rattle.adjustment_covariance.proofs.blocks.columns_before.Goals as goal

pub loop-i-init : goal.loop-i-init
unfolding columns_before
loop-i-init c = (omega arith, fold_start _ _ _)

pub bounds-blocks-i : goal.bounds-blocks-i
bounds-blocks-i c = omega (arith, c.requires.few)

pub overflow_mul-total : goal.overflow_mul-total
overflow_mul-total c = omega (arith, columns-room _ (c.requires) c.loop-i-test.true)

pub overflow_add-total : goal.overflow_add-total
overflow_add-total c = omega (arith, columns-room _ (c.requires) c.loop-i-test.true)

pub loop-i-preserved : goal.loop-i-preserved
unfolding columns_before
loop-i-preserved c = (omega arith, fold_next _ _ _ _ _ _ (omega arith) c.loop-i.invariant.1 refl)

pub returns : goal.returns
unfolding columns_before
returns c = fold_end _ _ _ _ _ _ c.loop-i.invariant.0 c.loop-i-test.false c.loop-i.invariant.1
