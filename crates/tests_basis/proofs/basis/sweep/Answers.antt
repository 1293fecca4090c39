-- `tests_basis::basis::sweep` meets its contract.
use Prim.Native.Nat.{◌≤◌, ◌-◌}
use mathlib.Core.Path.{◌≡◌}
use Rattle.tests.specs.Basis.{sweep_to}
use Rattle.algebra.proofs.FoldLaws.{fold_start, fold_next, fold_end}
use native.Mathlib.Omega.{arith}
use Rattle.tests_basis.proofs.basis.sweep.Goals as goal

pub loop-i-init : goal.loop-i-init
unfolding sweep_to
loop-i-init c = (omega arith, fold_start _ _ _)

pub loop-i-preserved : goal.loop-i-preserved
unfolding sweep_to
loop-i-preserved c =
    let v = c.loop-i.invariant in
    (omega arith, fold_next _ _ _ _ _ _ (omega arith) v.1 c.pairs-next.ensures)

pub returns : goal.returns
unfolding sweep_to
returns c =
    let v = c.loop-i.invariant in
    fold_end _ _ _ _ _ _ v.0 c.loop-i-test.false v.1
