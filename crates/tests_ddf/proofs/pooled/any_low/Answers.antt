-- `tests_ddf::pooled::any_low` meets its contract.
use Prim.Native.Nat.{◌≤◌, ◌-◌}
use mathlib.Core.Path.{◌≡◌, refl}
use lib.Ieee.{of_bits}
use Rattle.algebra.proofs.FoldLaws.{fold_start, fold_next, fold_end}
use Rattle.tests.specs.PooledDf.{any_low}
use native.Mathlib.Omega.{arith}
use Rattle.tests_ddf.proofs.pooled.any_low.Goals as goal

pub loop-i-init : goal.loop-i-init
unfolding any_low of_bits
loop-i-init c = (omega arith, fold_start _ _ _)

pub loop-i-preserved : goal.loop-i-preserved
unfolding any_low of_bits
loop-i-preserved c = (omega arith, fold_next _ _ _ _ _ _ (omega arith) c.loop-i.invariant.1 (refl))

pub returns : goal.returns
unfolding any_low
returns c = fold_end _ _ _ _ _ _ c.loop-i.invariant.0 c.loop-i-test.false c.loop-i.invariant.1
