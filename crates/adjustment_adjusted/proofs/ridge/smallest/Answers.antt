-- `adjustment_adjusted::ridge::smallest` meets its contract.
use Prim.Native.Nat.{◌≤◌, ◌-◌}
use mathlib.Core.Path.{◌≡◌}
use lib.Ieee.{of_bits, div}
use Rattle.algebra.proofs.FoldLaws.{fold_start, fold_next, fold_end}
use Rattle.adjustment.specs.Information.{smallest}
use borrow.Author.Rules.{rules}
use native.Mathlib.Omega.{arith}
use Rattle.adjustment_adjusted.proofs.ridge.smallest.Goals as goal

pub loop-i-init : goal.loop-i-init
unfolding smallest of_bits div
loop-i-init c = (omega arith, fold_start _ _ _)

pub loop-i-preserved : goal.loop-i-preserved
unfolding smallest
loop-i-preserved c = (omega arith, fold_next _ _ _ _ _ _ (omega arith) c.loop-i.invariant.1 (rw c.magnitude-v.ensures at c.smaller-least.ensures))

pub returns : goal.returns
unfolding smallest
returns c = fold_end _ _ _ _ _ _ c.loop-i.invariant.0 c.loop-i-test.false c.loop-i.invariant.1
