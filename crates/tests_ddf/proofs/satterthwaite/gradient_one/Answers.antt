-- `tests_ddf::satterthwaite::gradient_one` meets its contract.
use Prim.Native.Nat.{◌≤◌, ◌-◌}
use mathlib.Core.Path.{◌≡◌, refl}
use lib.Ieee.{of_bits}
use Rattle.algebra.specs.Kind.{marks}
use Rattle.algebra.specs.Table.{row}
use Rattle.algebra.proofs.FoldLaws.{fold_start, fold_next, fold_end}
use Rattle.tests.specs.Satterthwaite.{gradient_one}
use borrow.Author.Rules.{rules}
use native.Mathlib.Omega.{arith}
use Rattle.tests_ddf.proofs.satterthwaite.gradient_one.Goals as goal

pub loop-i-init : goal.loop-i-init
unfolding gradient_one row of_bits
loop-i-init c = (omega arith, rw c.no_marks-out.ensures (fold_start _ _ _))

pub loop-i-preserved : goal.loop-i-preserved
unfolding gradient_one row
loop-i-preserved c = (omega arith, fold_next _ _ _ _ _ _ (omega arith) c.loop-i.invariant.1 (refl))

pub returns : goal.returns
unfolding gradient_one row
returns c = fold_end _ _ _ _ _ _ c.loop-i.invariant.0 c.loop-i-test.false c.loop-i.invariant.1
