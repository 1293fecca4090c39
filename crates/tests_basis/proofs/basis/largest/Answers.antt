-- `tests_basis::basis::largest` meets its contract.
use Prim.Native.Nat.{◌≤◌, ◌-◌}
use mathlib.Core.Path.{◌≡◌}
use lib.Ieee.{of_bits}
use Rattle.tests.specs.Basis.{largest}
use Rattle.algebra.proofs.FoldLaws.{fold_start, fold_next, fold_end}
use borrow.Author.Rules.{rules}
use native.Mathlib.Omega.{arith}
use Rattle.tests_basis.proofs.basis.largest.Goals as goal

pub loop-j-init : goal.loop-j-init
unfolding largest of_bits
loop-j-init c = (omega arith, fold_start _ _ _)

pub loop-j-preserved : goal.loop-j-preserved
unfolding largest
loop-j-preserved c =
    let v = c.loop-j.invariant in
    (omega arith, fold_next _ _ _ _ _ _ (omega arith) v.1 (rw (← c.magnitude.ensures) c.larger-most.ensures))

pub returns : goal.returns
unfolding largest
returns c =
    let v = c.loop-j.invariant in
    fold_end _ _ _ _ _ _ v.0 c.loop-j-test.false v.1
