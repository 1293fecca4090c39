-- `tests_ddf::starts::transform_contrast` meets its contract.
use Prim.Native.Nat.{◌≤◌, ◌-◌}
use mathlib.Core.Path.{◌≡◌}
use lib.Ieee.{of_bits}
use Rattle.algebra.specs.Kind.{marks}
use Rattle.algebra.proofs.FoldLaws.{fold_start, fold_next, fold_end}
use Rattle.tests.specs.Satterthwaite.{transformed_all}
use borrow.Author.Rules.{rules}
use native.Mathlib.Omega.{arith}
use Rattle.tests_ddf.proofs.starts.transform_contrast.Goals as goal

pub loop-i-init : goal.loop-i-init
unfolding transformed_all of_bits
loop-i-init c = (omega arith, rw c.zeros-blank.ensures (fold_start _ _ _))

pub loop-i-preserved : goal.loop-i-preserved
unfolding transformed_all
loop-i-preserved c = (omega arith, fold_next _ _ _ _ _ _ (omega arith) c.loop-i.invariant.1 (rw c.transformed-turned.ensures))

pub returns : goal.returns
unfolding transformed_all
returns c = fold_end _ _ _ _ _ _ c.loop-i.invariant.0 c.loop-i-test.false c.loop-i.invariant.1
