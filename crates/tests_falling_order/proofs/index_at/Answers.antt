-- `tests_falling_order::index_at` meets its contract.
use Prim.Native.Nat.{◌≤◌, ◌<◌, ◌-◌}
use mathlib.Core.Path.{◌≡◌}
use mathlib.Core.Bool.{cond}
use lib.Dec.{eqb}
use Rattle.algebra.specs.Fold.{fold}
use Rattle.tests.specs.Order.{place_in, index_at}
use Rattle.algebra.proofs.FoldLaws.{fold_start, fold_next, fold_end}
use native.Mathlib.Omega.{arith}
use Rattle.tests_falling_order.proofs.index_at.Goals as goal

pub loop-i-init : goal.loop-i-init
loop-i-init c = (omega arith, omega arith, fold_start _ _ _)

pub loop-i-preserved : goal.loop-i-preserved
loop-i-preserved c =
    let v = c.loop-i.invariant in
    (omega arith, c.found_at-found.ensures.1, fold_next _ _ _ _ _ _ (omega arith) v.2 c.found_at-found.ensures.0)

pub returns : goal.returns
unfolding index_at
returns c =
    let v = c.loop-i.invariant in
    (fold_end _ _ _ _ _ _ v.0 c.loop-i-test.false v.2, v.1)
