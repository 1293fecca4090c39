-- `tests_ddf::components::any_none` meets its contract.
use Prim.Native.Nat.{◌≤◌, ◌-◌}
use mathlib.Core.Path.{◌≡◌}
use lib.Ieee.{of_bits}
use Rattle.algebra.proofs.FoldLaws.{fold_start, fold_next, fold_end}
use Rattle.tests.specs.Satterthwaite.{any_none}
use borrow.Author.Rules.{rules}
use native.Mathlib.Omega.{arith}
use Rattle.tests_ddf.proofs.components.any_none.Goals as goal

pub loop-k-init : goal.loop-k-init
unfolding any_none of_bits
loop-k-init c = (omega arith, fold_start _ _ _)

pub loop-k-preserved : goal.loop-k-preserved
unfolding any_none
loop-k-preserved c = (omega arith, fold_next _ _ _ _ _ _ (omega arith) c.loop-k.invariant.1 (rw c.is_nan-any.ensures))

pub returns : goal.returns
unfolding any_none
returns c = fold_end _ _ _ _ _ _ c.loop-k.invariant.0 c.loop-k-test.false c.loop-k.invariant.1
